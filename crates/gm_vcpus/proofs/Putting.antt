-- What an install puts, and whether it may be written.
use Rattle.std.proofs.Common.{◌≡◌, ℕ, ◌+◌, ◌-◌, ◌<◌, ◌≤◌, ◌&&◌, ◌||◌, ◌⊎◌, inl, inr, List, ◌∷◌, Bool, true, false, not, Option, Some, None, IfSome, arith, subst, sym, ◌∙◌, ap, refl, cond, eqb, leb, ltb}
use Rattle.std.proofs.lemmas.Bool.Decides.{nat_tests}
use Rattle.gm_base.specs.Aim.{Aim}
use Rattle.gm_base.specs.Scripts.{Orders}
use Rattle.gm_base.specs.declared.values.Actor.TheVariants.{Vcpu as OfVcpu}
use Rattle.gm_base.specs.declared.values.Folio.{Folio}
use Rattle.gm_base.specs.declared.values.Kind.{Kind}
use Rattle.gm_base.specs.declared.values.Kind.TheVariants.{Private, Shared}
use Rattle.gm_base.specs.declared.values.Level.{Level}
use Rattle.gm_base.specs.declared.values.Setup.{Setup}
use Rattle.gm_fault.specs.declared.ticket.Ticket.{Ticket}
use Rattle.gm_flat.specs.Attribute.{attr_of}
use Rattle.gm_flat.specs.FlatState.{Flat, Triple, cached}
use Rattle.gm_flat.specs.Histories.{Fault, Faulting}
use Rattle.gm_flat.specs.Invalidation.{hull, stale}
use Rattle.gm_flat.specs.NamedPage.{Named, file_named, folio_named, named, named_by, private_named, unmarked, user_named}
use Rattle.gm_flat.specs.Replay.{flat}
use Rattle.gm_flat.specs.RightHistory.{Right}
use Rattle.gm_flat.specs.RightInstall.{InstallIsRight, Installs}
use Rattle.gm_flat.specs.RightTouch.{CanUse}
use Rattle.gm_flat.specs.Slots.{index_of, slot_over, user_page_of}
use Rattle.gm_flat.specs.declared.effect.Backing.{Backing}
use Rattle.gm_flat.specs.declared.effect.Backing.TheVariants.{User as InUser, Folio as InFolio}
use Rattle.gm_flat.specs.declared.entry.Entry.{Entry}
use Rattle.gm_flat.specs.declared.entry.What.TheVariants.{Install}
use Rattle.gm_flat.specs.declared.views.Looked.{Looked}
use Rattle.gm_flat.specs.declared.views.Sampled.{Sampled}
use Rattle.gm_flat.specs.declared.views.SlotView.{SlotView}
use Rattle.gm_inval.specs.Range.{Progress, open_range, range_holds}
use Rattle.gm_laws.proofs.Kit.{by}
use Rattle.gm_laws.proofs.Parts.{invariant_now, invariant_then}
use Rattle.gm_laws.specs.Counting.{ends}
use Rattle.gm_laws.specs.Invariant.{Invariant, IsTrueFault}
use Rattle.gm_vcpus.proofs.Allowed.{AtGet, holding, stale_same}
use Rattle.gm_vcpus.proofs.Routing.{readonly_same}
use Rattle.gm_vcpus.proofs.Sighting.{sight_of}
use Rattle.gm_vcpus.specs.Puts.{Puts, may_be_written}
use Rattle.gm_vcpus.specs.Sights.{CanBeSeen}
use Rattle.gm_vcpus.specs.Stand.{IsSightOf}
use Rattle.gm_vcpus.specs.declared.vcpu.Vcpu.{Vcpu}

-- whether what is named may be written

some_in : (x y : Named) → Some x ≡ Some y → x ≡ y
some_in x y e = cc

folio_written : (o : Option Folio) (m : Named) (slot : Option SlotView) → folio_named o ≡ Some m → m.writable ≡ may_be_written m.kind slot
folio_written None m slot e = absurd (cc)
folio_written (Some folio) m slot e = subst (λ (n : Named). n.writable ≡ may_be_written n.kind slot) (some_in _ m e) refl

file_written : (index : ℕ) (cache : List Triple) (file : Option ℕ) (m : Named) (slot : Option SlotView) → file_named index cache file ≡ Some m → m.writable ≡ may_be_written m.kind slot
file_written index cache None m slot e = absurd (cc)
file_written index cache (Some file) m slot e = folio_written (cached file index cache) m slot e

private_written : (page : ℕ) (cache : List Triple) (o : Option SlotView) (m : Named) (slot : Option SlotView) → private_named page cache o ≡ Some m → m.writable ≡ may_be_written m.kind slot
private_written page cache None m slot e = absurd (cc)
private_written page cache (Some s) m slot e = file_written (index_of s page) cache s.file m slot e

shared_written : (page : ℕ) (t : Bool) (s : SlotView) (m : Named) → user_named page (cond t None (Some s)) ≡ Some m → m.writable ≡ may_be_written m.kind (Some s)
shared_written page true s m e = absurd (cc)
shared_written page false s m e = subst (λ (n : Named). n.writable ≡ may_be_written n.kind (Some s)) (some_in _ m e) (ap not (sym (readonly_same s)))

named_written : (page : ℕ) (cache : List Triple) (kind : Kind) (slot : Option SlotView) (m : Named) → named_by page cache kind (unmarked slot) ≡ Some m → m.writable ≡ may_be_written m.kind slot
named_written page cache Private slot m e = private_written page cache (unmarked slot) m slot e
named_written page cache Shared None m e = absurd (cc)
named_written page cache Shared (Some s) m e = shared_written page s.invalid s m e

pub writable_named : (f : Flat) (page : ℕ) (m : Named) → named f page ≡ Some m → m.writable ≡ may_be_written m.kind (slot_over f.slots page)
writable_named f page m e = named_written page f.cache (attr_of page f.attrs) (slot_over f.slots page) m e

puts_by : (a : Aim) (b : Backing) (f : Flat) (o : Option Named) → named f a.page ≡ o → CanUse a b o → Puts a b f
puts_by a b f None e h = absurd h
puts_by a b f (Some m) e h = record {
  gives = m;
  named_is = e;
  kind_is = h.0;
  backing_is = h.1;
  writable_is = writable_named f a.page m e ∙ ap (λ (k : Kind). may_be_written k (slot_over f.slots a.page)) h.0;
  permitted = h.2;
}

fresh_use : (t : Bool) (P : Type 0) → t ≡ false → (t ≡ true) ⊎ P → P
fresh_use true P e h = absurd (cc)
fresh_use false P e (inl f) = absurd (cc)
fresh_use false P e (inr p) = p

-- a fault that got its backing and isn't stale puts what is named now
pub puts : (o : Orders) (s : Setup) (vs : List Vcpu) (past : List Entry) (v : ℕ) (k : Ticket) (x : Sampled) (y : Looked) (b : Backing) (p : Progress) → Right o past → AtGet s vs past v k x y b → open_range p ≡ hull past → p.seq ≡ ends past → (range_holds (open_range p) k.access.page || not (eqb p.seq x.seq)) ≡ false → Puts k.access b (flat past)
puts o s vs past v k x y b p r h range seq fresh =
    let f = holding s vs past v k x y b h in
    let a : Aim = k.access in
    let true_fault : IsTrueFault past (Faulting a f.missed (Some f.sample) (Some f.seen) (Some f.gotten)) = subst (λ (z : Fault). IsTrueFault past z) f.fault_is ((invariant_now o past r).faults_are_stale_or_true v) in
    let not_stale : stale (Some f.sample) a.page past ≡ false = sym (stale_same p x f.sample f.missed a.page past f.sample_is range seq) ∙ fresh in
    puts_by a b (flat past) (named (flat past) a.page) refl
    (subst (λ (c : Backing). CanUse a c (named (flat past) a.page)) f.backing_is
    (fresh_use (stale (Some f.sample) a.page past) (CanUse a f.gotten.backing (named (flat past) a.page)) not_stale true_fault.1))

-- the same of a right history whose last entry is the install
pub puts_installed : (o : Orders) (s : Setup) (vs : List Vcpu) (past : List Entry) (t v : ℕ) (k : Ticket) (x : Sampled) (y : Looked) (b : Backing) (page : ℕ) (level : Level) → Right o (by t (OfVcpu v) (Install page level) ∷ past) → AtGet s vs past v k x y b → Puts k.access b (flat past)
puts_installed o s vs past t v k x y b page level r h =
    let f = holding s vs past v k x y b h in
    let a : Aim = k.access in
    let e : Entry = by t (OfVcpu v) (Install page level) in
    let before : Invariant past = invariant_then o e past (e ∷ past) r (inl (refl, refl)) in
    let true_fault : IsTrueFault past (Faulting a f.missed (Some f.sample) (Some f.seen) (Some f.gotten)) = subst (λ (z : Fault). IsTrueFault past z) f.fault_is (before.faults_are_stale_or_true v) in
    let installed : InstallIsRight page a (Some f.sample) f.gotten.backing past = subst (Installs page past) f.fault_is r.installs.0 in
    puts_by a b (flat past) (named (flat past) a.page) refl
    (subst (λ (c : Backing). CanUse a c (named (flat past) a.page)) f.backing_is
    (fresh_use (stale (Some f.sample) a.page past) (CanUse a f.gotten.backing (named (flat past) a.page)) installed.not_stale true_fault.1))

-- a user page that is put is one of the machine's

user_folio : (o : Option Folio) (m : Named) (u : ℕ) → folio_named o ≡ Some m → m.backing ≡ InUser u → ⊥
user_folio None m u e h = absurd (cc)
user_folio (Some folio) m u e h = let q : InFolio folio ≡ m.backing = ap (λ (n : Named). n.backing) (some_in _ m e) in absurd (cc)

user_file : (index : ℕ) (cache : List Triple) (file : Option ℕ) (m : Named) (u : ℕ) → file_named index cache file ≡ Some m → m.backing ≡ InUser u → ⊥
user_file index cache None m u e h = absurd (cc)
user_file index cache (Some file) m u e h = user_folio (cached file index cache) m u e h

user_private : (page : ℕ) (cache : List Triple) (o : Option SlotView) (m : Named) (u : ℕ) → private_named page cache o ≡ Some m → m.backing ≡ InUser u → ⊥
user_private page cache None m u e h = absurd (cc)
user_private page cache (Some s) m u e h = user_file (index_of s page) cache s.file m u e h

user_shared : (user page : ℕ) (t : Bool) (s : SlotView) (m : Named) (u : ℕ) → IsSightOf user page s → user_named page (cond t None (Some s)) ≡ Some m → m.backing ≡ InUser u → u < user
user_shared user page true s m u i e h = absurd (cc)
user_shared user page false s m u i e h =
    let q : InUser (user_page_of s page) ≡ m.backing = ap (λ (n : Named). n.backing) (some_in _ m e) in
    let r : InUser (user_page_of s page) ≡ InUser u = q ∙ h in
    below (user_page_of s page) u s.base s.pages s.user page user (same (user_page_of s page) u r) refl i.over_page.over i.users
  where
    same : (a b : ℕ) → InUser a ≡ InUser b → b ≡ a
    same a b e = cc

    below : (p u base pages first h user : ℕ) → u ≡ p → p ≡ (first + h) - base → (leb base h && ltb h (base + pages)) ≡ true → first + pages ≤ user → u < user
    below p u base pages first h user e f over le = grind (arith, nat_tests)

user_by : (user page : ℕ) (cache : List Triple) (kind : Kind) (o : Option SlotView) (m : Named) (u : ℕ) → IfSome o (IsSightOf user page) → named_by page cache kind (unmarked o) ≡ Some m → m.backing ≡ InUser u → u < user
user_by user page cache Private o m u i e h = absurd (user_private page cache (unmarked o) m u e h)
user_by user page cache Shared None m u i e h = absurd (cc)
user_by user page cache Shared (Some s) m u i e h = user_shared user page s.invalid s m u i e h

pub put_page_below : (user u : ℕ) (a : Aim) (f : Flat) → CanBeSeen user f → Puts a (InUser u) f → u < user
put_page_below user u a f c p = user_by user a.page f.cache (attr_of a.page f.attrs) (slot_over f.slots a.page) p.gives u (sight_of user a.page f f.slots c.user_small c.small c.stand.files_in_use) p.named_is p.backing_is
