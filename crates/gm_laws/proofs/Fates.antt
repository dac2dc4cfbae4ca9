-- A live folio is cached or held: at the end of each turn.
use Rattle.std.proofs.Common.{◌&&◌, ◌+◌, ◌-◌, ◌<◌, Bool, List, None, Option, Some, [], ap, arith, cond, eqb, eqb-true, false, inl, inr, leb, length, ltb, refl, subst, suc, sym, true, ℕ, ◌∙◌, ◌∷◌, ◌≡◌, ◌⊎◌, ◌||◌}
use Rattle.std.proofs.lemmas.Bool.{and_from, both_ways, cond-false, cond-true, or_left}
use Rattle.std.proofs.lemmas.Bool.Decides.{nat_tests}
use Rattle.gm_base.specs.Aim.{Aim}
use Rattle.gm_base.specs.Scripts.{Orders}
use Rattle.gm_base.specs.declared.values.Actor.{Actor}
use Rattle.gm_base.specs.declared.values.Actor.TheVariants.{Caller, Vcpu}
use Rattle.gm_base.specs.declared.values.Folio.{Folio}
use Rattle.gm_base.specs.declared.values.Kind.{Kind}
use Rattle.gm_base.specs.declared.values.Kind.TheVariants.{Private, Shared}
use Rattle.gm_flat.specs.Attribute.{attr_of}
use Rattle.gm_flat.specs.Effects.{Addition, add, apply, slot_fits}
use Rattle.gm_flat.specs.FlatState.{Flat, Triple, cached, is_live}
use Rattle.gm_flat.specs.Histories.{Fault, Faulting, NoFault, before_turn, call, fault, same_turn, with_get, with_look, with_sample}
use Rattle.gm_flat.specs.Mappings.{inside}
use Rattle.gm_flat.specs.NamedPage.{Named, file_named, folio_named, named, named_aside, named_by}
use Rattle.gm_flat.specs.Replay.{adds, flat, states}
use Rattle.gm_flat.specs.RightLives.{FaultHolds, IsCached, IsLive, IsOfFolio, LivesAtRest, LivesOf}
use Rattle.gm_flat.specs.RightOrder.{IsLooked, IsMissed, IsSampled}
use Rattle.gm_flat.specs.RightTouch.{CanUse}
use Rattle.gm_flat.specs.Slots.{index_of}
use Rattle.gm_flat.specs.declared.effect.Backing.{Backing}
use Rattle.gm_flat.specs.declared.effect.Backing.TheVariants.{Folio as InFolio, User}
use Rattle.gm_flat.specs.declared.effect.Effect.{Effect}
use Rattle.gm_flat.specs.declared.effect.Effect.TheVariants.{Attr, Cut, File, Mark, Move, NoSlot, Shut, Slot, Word}
use Rattle.gm_flat.specs.declared.entry.Entry.{Entry}
use Rattle.gm_flat.specs.declared.entry.What.{What}
use Rattle.gm_flat.specs.declared.entry.What.TheVariants.{Change, Enter, Free, Get, Gone, Install, Left, Look, Miss, Page, Retry, Sample, Touch}
use Rattle.gm_flat.specs.declared.views.SlotView.{SlotView}
use Rattle.gm_laws.proofs.Keep.{at_vcpu}
use Rattle.gm_laws.proofs.Adds.{IsRunFree, add_cached, get_free, page_free}
use Rattle.gm_laws.proofs.Flats.{cond_P, over, with_run_at}
use Rattle.gm_laws.proofs.Folios.{LivesOk, effect_keeps, lives}
use Rattle.gm_laws.proofs.Good.{Good}
use Rattle.gm_laws.proofs.KeepVcpu.{Installed, installed}
use Rattle.gm_laws.proofs.Kit.{by, by_test, none_is}
use Rattle.gm_laws.proofs.Lives.{live_left, live_with}
use Rattle.gm_laws.proofs.Touches.{good, touched, use_aside}
use Rattle.gm_laws.specs.May.{May}
use Rattle.gm_laws.specs.Ruled.{AllFreed, Follows, IsUsed, cuts, loosened, loosens}

-- a vCPU that is inside has no fault
abbrev pub InsideIdle : List Entry → Type 0
InsideIdle past = (v : ℕ) → inside v past ≡ true → fault v past ≡ NoFault

idle_step : (t : Bool) (x y : Bool) (f g : Fault) → (t ≡ true → x ≡ true → f ≡ NoFault) → (y ≡ true → g ≡ NoFault) → cond t x y ≡ true → cond t f g ≡ NoFault
idle_step true x y f g a b h = a refl h
idle_step false x y f g a b h = b h

idle_out : (t : Bool) (y : Bool) (f g : Fault) → (y ≡ true → g ≡ NoFault) → cond t false y ≡ true → cond t f g ≡ NoFault
idle_out true y f g b h = absurd (both_ways false refl h)
idle_out false y f g b h = b h

idle_other : (t y : Bool) (f g : Fault) → (t ≡ true → y ≡ true → f ≡ NoFault) → (y ≡ true → g ≡ NoFault) → y ≡ true → cond t f g ≡ NoFault
idle_other true y f g a b h = a refl h
idle_other false y f g a b h = b h

missed_idle : (x : Fault) → IsMissed x → x ≡ NoFault → ⊥
missed_idle x i e = subst IsMissed e i

sampled_idle : (x : Fault) → IsSampled x → x ≡ NoFault → ⊥
sampled_idle x i e = subst IsSampled e i

looked_idle : (x : Fault) → IsLooked x → x ≡ NoFault → ⊥
looked_idle x i e = subst IsLooked e i

idle_keep : (o : Orders) (t : ℕ) (w : What) (a : Actor) (past : List Entry) → InsideIdle past → May o w a past → InsideIdle (by t a w ∷ past)
idle_keep o t Enter (Vcpu u) past g m v = λ h. by_eq (eqb u v) refl h
  where
    by_eq : (t : Bool) → eqb u v ≡ t → cond t true (inside v past) ≡ true → fault v past ≡ NoFault
    by_eq true e h = at_vcpu u v (λ x. fault x past ≡ NoFault) e m.no_fault
    by_eq false e h = g v h
idle_keep o t (Miss access) (Vcpu u) past g m v = λ h. idle_out (eqb u v) (inside v past) (Faulting access (suc (length past)) None None None) (fault v past) (g v) h
idle_keep o t (Sample at) (Vcpu u) past g m v = λ h. idle_other (eqb u v) (inside v past) (with_sample at (fault v past)) (fault v past) (λ e i. absurd (missed_idle (fault v past) (at_vcpu u v (λ x. IsMissed (fault x past)) e m.0) (g v i))) (g v) h
idle_keep o t (Look at slot attr file) (Vcpu u) past g m v = λ h. idle_other (eqb u v) (inside v past) (with_look (record { place = length past; at = at; slot = slot; attr = attr; file = file }) (fault v past)) (fault v past) (λ e i. absurd (sampled_idle (fault v past) (at_vcpu u v (λ x. IsSampled (fault x past)) e m.0) (g v i))) (g v) h
idle_keep o t (Get b n) (Vcpu u) past g m v = λ h. idle_other (eqb u v) (inside v past) (with_get (record { after = suc (length past); backing = b }) (fault v past)) (fault v past) (λ e i. absurd (looked_idle (fault v past) (at_vcpu u v (λ x. IsLooked (fault x past)) e m.0) (g v i))) (g v) h
idle_keep o t (Install page level) (Vcpu u) past g m v = λ h. idle_other (eqb u v) (inside v past) NoFault (fault v past) (λ e i. refl) (g v) h
idle_keep o t Retry (Vcpu u) past g m v = λ h. idle_other (eqb u v) (inside v past) NoFault (fault v past) (λ e i. refl) (g v) h
idle_keep o t (Left why) (Vcpu u) past g m v = λ h. idle_other (eqb u v) (inside v past) NoFault (fault v past) (λ e i. refl) (g v) h
idle_keep o t Gone (Vcpu u) past g m v = λ h. by_eq (eqb u v) h
  where
    by_eq : (t : Bool) → cond t false (inside v past) ≡ true → fault v past ≡ NoFault
    by_eq true h = absurd (both_ways false refl h)
    by_eq false h = g v h
idle_keep o t Enter (Caller c) past g m v = absurd m
idle_keep o t (Miss access) (Caller c) past g m v = absurd m
idle_keep o t (Sample at) (Caller c) past g m v = absurd m
idle_keep o t (Look at slot attr file) (Caller c) past g m v = absurd m
idle_keep o t (Get b n) (Caller c) past g m v = absurd m
idle_keep o t (Install page level) (Caller c) past g m v = absurd m
idle_keep o t Retry (Caller c) past g m v = absurd m
idle_keep o t (Left why) (Caller c) past g m v = absurd m
idle_keep o t w a past g m v = g v

pub idle : (o : Orders) (past : List Entry) → Follows o past → InsideIdle past
idle o [] r = λ v h. absurd (both_ways false refl h)
idle o (e ∷ past) r = idle_keep o e.turn e.what e.actor past (idle o past r.1) r.0.may

-- an entry that neither cuts nor retries keeps what is used

cond_held : (s : ℕ) (t : Bool) (x y : Fault) → (t ≡ true → FaultHolds s y → FaultHolds s x) → FaultHolds s y → FaultHolds s (cond t x y)
cond_held s true x y f h = f refl h
cond_held s false x y f h = h

no_hold : (s : ℕ) (x : Fault) → x ≡ NoFault → FaultHolds s x → ⊥
no_hold s x e h = subst (FaultHolds s) e h

missed_hold : (s : ℕ) (x : Fault) → IsMissed x → FaultHolds s x → ⊥
missed_hold s NoFault i h = h
missed_hold s (Faulting a m None None None) i h = h
missed_hold s (Faulting a m None None (Some q)) i h = i
missed_hold s (Faulting a m None (Some l) q) i h = i
missed_hold s (Faulting a m (Some k) l q) i h = i

sampled_hold : (s : ℕ) (x : Fault) → IsSampled x → FaultHolds s x → ⊥
sampled_hold s NoFault i h = h
sampled_hold s (Faulting a m None l q) i h = i
sampled_hold s (Faulting a m (Some k) None None) i h = h
sampled_hold s (Faulting a m (Some k) None (Some q)) i h = i
sampled_hold s (Faulting a m (Some k) (Some l) q) i h = i

looked_hold : (s : ℕ) (x : Fault) → IsLooked x → FaultHolds s x → ⊥
looked_hold s NoFault i h = h
looked_hold s (Faulting a m None l q) i h = i
looked_hold s (Faulting a m (Some k) None q) i h = i
looked_hold s (Faulting a m (Some k) (Some l) None) i h = h
looked_hold s (Faulting a m (Some k) (Some l) (Some q)) i h = i

-- the folio that is named is cached
pub named_folio : (f : Flat) (g : ℕ) (fo : Folio) (kind : Kind) (o : Option SlotView) (m : Named) → named_by g f.cache kind o ≡ Some m → m.backing ≡ InFolio fo → (F : ℕ) × (i : ℕ) × (cached F i f.cache ≡ Some fo)
named_folio f g fo Shared None m e h = absurd (none_is m e)
named_folio f g fo Shared (Some r) m e h = absurd (user_is m fo e h)
  where
    user_is : {u : ℕ} {w : Bool} (m : Named) (fo : Folio) → Some (record { kind = Shared; backing = User u; writable = w }) ≡ Some m → m.backing ≡ InFolio fo → ⊥
    user_is {u} {w} m fo e h = let z : record { kind = Shared; backing = User u; writable = w } ≡ m = cc in let q : User u ≡ m.backing = ap (λ (x : Named). x.backing) z in cc
named_folio f g fo Private None m e h = absurd (none_is m e)
named_folio f g fo Private (Some r) m e h = filed r.file e
  where
    folio_is : (x : Folio) (m : Named) → Some (record { kind = Private; backing = InFolio x; writable = true }) ≡ Some m → m.backing ≡ InFolio fo → x ≡ fo
    folio_is x m e h = let z : record { kind = Private; backing = InFolio x; writable = true } ≡ m = cc in let q : InFolio x ≡ m.backing = ap (λ (y : Named). y.backing) z in cc

    found : (F : ℕ) (o : Option Folio) → cached F (index_of r g) f.cache ≡ o → folio_named o ≡ Some m → (F : ℕ) × (i : ℕ) × (cached F i f.cache ≡ Some fo)
    found F None c e = absurd (none_is m e)
    found F (Some x) c e = (F, index_of r g, c ∙ ap (λ (y : Folio). Some y) (folio_is x m e h))

    filed : (o : Option ℕ) → file_named (index_of r g) f.cache o ≡ Some m → (F : ℕ) × (i : ℕ) × (cached F i f.cache ≡ Some fo)
    filed None e = absurd (none_is m e)
    filed (Some F) e = found F (cached F (index_of r g) f.cache) refl e

use_cached : (fo : Folio) (a : Aim) (f : Flat) (g : ℕ) (o : Option Named) → named_aside f g ≡ o → CanUse a (InFolio fo) o → IsCached fo.serial f
use_cached fo a f g None e u = absurd u
use_cached fo a f g (Some m) e u = let x = named_folio f g fo (attr_of g f.attrs) (over g f.slots) m e u.1 in (x.0, x.1, fo, x.2, refl)

pub backing_cached : (s : ℕ) (b : Backing) (a : Aim) (f : Flat) (g : ℕ) → IsOfFolio s b → CanUse a b (named_aside f g) → IsCached s f
backing_cached s (User u) a f g h c = absurd h
backing_cached s (InFolio fo) a f g h c = let x = use_cached fo a f g (named_aside f g) refl c in (x.0, x.1, x.2, x.3, x.4 ∙ h)

install_cached : (s page : ℕ) (past : List Entry) (x : Fault) → FaultHolds s x → Installed page past x → IsCached s (flat past)
install_cached s page past (Faulting a m (Some k) (Some l) (Some q)) h r = backing_cached s q.backing a (flat past) a.page h (use_aside a q.backing (flat past) a.page r.2)
install_cached s page past (Faulting a m (Some k) (Some l) None) h r = absurd r
install_cached s page past (Faulting a m (Some k) None q) h r = absurd r
install_cached s page past (Faulting a m None l q) h r = absurd r
install_cached s page past NoFault h r = absurd r

install_used : (s u page : ℕ) (past : List Entry) (v : ℕ) (t : Bool) → eqb u v ≡ t → Installed page past (fault u past) → FaultHolds s (fault v past) → IsCached s (flat past) ⊎ FaultHolds s (cond t NoFault (fault v past))
install_used s u page past v true e r h = inl (install_cached s page past (fault u past) (subst (λ (x : ℕ). FaultHolds s (fault x past)) (sym (eqb-true u v e)) h) r)
install_used s u page past v false e r h = inr h

effect_cache : (e : Effect) (f : Flat) → cuts e ≡ false → (apply e f).cache ≡ f.cache
effect_cache (Cut F lo hi) f e = absurd (both_ways true e refl)
effect_cache (Shut F) f e = absurd (both_ways true e refl)
effect_cache (Slot id base pages user flags file index) f e =
    let r : SlotView = record { id = id; base = base; pages = pages; user = user; flags = flags; file = file; index = index; invalid = false } in
    cond_P (λ (x : Flat). x.cache ≡ f.cache) (slot_fits r) (record f { slots = r ∷ f.slots }) f refl refl
effect_cache (Mark id) f e = refl
effect_cache (NoSlot id) f e = refl
effect_cache (Move id base) f e = refl
effect_cache (Attr span kind) f e = refl
effect_cache (File file pages block) f e = refl
effect_cache (Word page word value) f e = refl

add_keeps : (o : Option Addition) (s : ℕ) (f : Flat) → IsRunFree o f → IsCached s f → IsCached s (add o f)
add_keeps o s f free c = (c.0, c.1, c.2, add_cached o f c.0 c.1 c.2 free c.3, c.4)

pub used_keep : (o : Orders) (t : ℕ) (w : What) (a : Actor) (past : List Entry) (s : ℕ) → loosens w ≡ false → InsideIdle past → Good o.setup.callers past → May o w a past → IsUsed s past → IsUsed s (by t a w ∷ past)
used_keep o t (Miss access) (Vcpu u) past s n i g m (inl c) = inl c
used_keep o t (Miss access) (Vcpu u) past s n i g m (inr h) = inr (h.0, cond_held s (eqb u h.0) (Faulting access (suc (length past)) None None None) (fault h.0 past) (λ e k. absurd (no_hold s (fault h.0 past) (i h.0 (at_vcpu u h.0 (λ x. inside x past ≡ true) e m.not_served.is_inside)) k)) h.1)
used_keep o t (Sample at) (Vcpu u) past s n i g m (inl c) = inl c
used_keep o t (Sample at) (Vcpu u) past s n i g m (inr h) = inr (h.0, cond_held s (eqb u h.0) (with_sample at (fault h.0 past)) (fault h.0 past) (λ e k. absurd (missed_hold s (fault h.0 past) (at_vcpu u h.0 (λ x. IsMissed (fault x past)) e m.0) k)) h.1)
used_keep o t (Look at slot attr file) (Vcpu u) past s n i g m (inl c) = inl c
used_keep o t (Look at slot attr file) (Vcpu u) past s n i g m (inr h) = inr (h.0, cond_held s (eqb u h.0) (with_look (record { place = length past; at = at; slot = slot; attr = attr; file = file }) (fault h.0 past)) (fault h.0 past) (λ e k. absurd (sampled_hold s (fault h.0 past) (at_vcpu u h.0 (λ x. IsSampled (fault x past)) e m.0) k)) h.1)
used_keep o t (Get b k) (Vcpu u) past s n i g m (inl c) = inl (add_keeps (adds (Get b k) (Vcpu u) past (states past)) s (flat past) (get_free b k o.setup.frames (fault u past) past m.0 m.1 m.2) c)
used_keep o t (Get b k) (Vcpu u) past s n i g m (inr h) = inr (h.0, cond_held s (eqb u h.0) (with_get (record { after = suc (length past); backing = b }) (fault h.0 past)) (fault h.0 past) (λ e q. absurd (looked_hold s (fault h.0 past) (at_vcpu u h.0 (λ x. IsLooked (fault x past)) e m.0) q)) h.1)
used_keep o t (Install page level) (Vcpu u) past s n i g m (inl c) = inl c
used_keep o t (Install page level) (Vcpu u) past s n i g m (inr h) =
    elim (install_used s u page past h.0 (eqb u h.0) refl (installed page past (fault u past) g.since (g.faults u) m.0) h.1) [
      | inl c ↦ inl c
      | inr k ↦ inr (h.0, k)
    ]
used_keep o t Retry a past s n i g m h = absurd (both_ways true n refl)
used_keep o t (Left why) (Vcpu u) past s n i g m (inl c) = inl c
used_keep o t (Left why) (Vcpu u) past s n i g m (inr h) = inr (h.0, cond_held s (eqb u h.0) NoFault (fault h.0 past) (λ e k. absurd (looked_hold s (fault h.0 past) (at_vcpu u h.0 (λ x. IsLooked (fault x past)) e m.0) k)) h.1)
used_keep o t (Page j fo k) (Caller c) past s n i g m (inl x) = inl (add_keeps (adds (Page j fo k) (Caller c) past (states past)) s (flat past) (page_free o.setup j fo k (call c past) past m.1 m.2) x)
used_keep o t (Page j fo k) (Caller c) past s n i g m (inr h) = inr h
used_keep o t (Change e) (Caller c) past s n i g m (inl x) = inl (x.0, x.1, x.2, ap (λ (ts : List Triple). cached x.0 x.1 ts) (effect_cache e (flat past) n) ∙ x.3, x.4)
used_keep o t (Change e) (Caller c) past s n i g m (inr h) = inr h
used_keep o t (Miss access) (Caller c) past s n i g m h = absurd m
used_keep o t (Sample at) (Caller c) past s n i g m h = absurd m
used_keep o t (Look at slot attr file) (Caller c) past s n i g m h = absurd m
used_keep o t (Get b k) (Caller c) past s n i g m h = absurd m
used_keep o t (Install page level) (Caller c) past s n i g m h = absurd m
used_keep o t (Left why) (Caller c) past s n i g m h = absurd m
used_keep o t (Page j fo k) (Vcpu u) past s n i g m h = absurd m
used_keep o t (Change e) (Vcpu u) past s n i g m h = absurd m
used_keep o t w a past s n i g m h = h

-- a folio that is live after an entry was live before, or is new and cached
in_run_part : (a n s : ℕ) → (leb a s && ltb s (a + n)) ≡ true → (s - a < n) × (a + (s - a) ≡ s)
in_run_part a n s e = (grind (arith, nat_tests), grind (arith, nat_tests))

add_new : (o : Option Addition) (s : ℕ) (f : Flat) → is_live s (add o f).folios ≡ true → (is_live s f.folios ≡ true) ⊎ IsCached s (add o f)
add_new None s f e = inl e
add_new (Some d) s f e = by_run (leb d.serial s && ltb s (d.serial + d.pages)) refl (sym (live_with d.pages d.serial d.frame s f.folios) ∙ e)
  where
    by_run : (t : Bool) → (leb d.serial s && ltb s (d.serial + d.pages)) ≡ t → cond t true (is_live s f.folios) ≡ true → (is_live s f.folios ≡ true) ⊎ IsCached s (add (Some d) f)
    by_run true q h =
        let p = in_run_part d.serial d.pages s q in
        inr (d.file, d.index + (s - d.serial), record { serial = d.serial + (s - d.serial); frame = d.frame + (s - d.serial) }, with_run_at d.pages (s - d.serial) d.file d.index d.serial d.frame f.cache p.0, p.1)
    by_run false q h = inl h

live_before : (t : ℕ) (w : What) (a : Actor) (past : List Entry) (s : ℕ) → is_live s (flat (by t a w ∷ past)).folios ≡ true → (is_live s (flat past).folios ≡ true) ⊎ IsCached s (flat (by t a w ∷ past))
live_before t (Get b n) a past s e = add_new (adds (Get b n) a past (states past)) s (flat past) e
live_before t (Page i fo n) a past s e = add_new (adds (Page i fo n) a past (states past)) s (flat past) e
live_before t (Change f) a past s e = inl (sym (ap (is_live s) (effect_keeps f (flat past)).0) ∙ e)
live_before t (Free fo n) a past s e = inl (live_left n fo.serial s (flat past).folios e)
live_before t w a past s e = inl e

loosens_old : (t : ℕ) (w : What) (a : Actor) (past : List Entry) (s : ℕ) → loosens w ≡ true → is_live s (flat (by t a w ∷ past)).folios ≡ true → is_live s (flat past).folios ≡ true
loosens_old t (Change f) a past s n e = sym (ap (is_live s) (effect_keeps f (flat past)).0) ∙ e
loosens_old t Retry a past s n e = e
loosens_old t (Free fo k) a past s n e = live_left k fo.serial s (flat past).folios e
loosens_old t (Get b k) a past s n e = absurd (both_ways false refl n)
loosens_old t (Page i fo k) a past s n e = absurd (both_ways false refl n)
loosens_old t w a past s n e = e

-- each live folio is used now, or was before a turn that cut or retried
abbrev pub AtRest : List Entry → Type 0
AtRest past = (s : ℕ) → is_live s (flat past).folios ≡ true → IsUsed s past

abbrev pub Resting : List Entry → Type 0
Resting past = (s : ℕ) → is_live s (flat past).folios ≡ true → IsUsed s past ⊎ ((loosened past ≡ true) × IsUsed s (before_turn past))

pub rest : (past : List Entry) → Resting past → AllFreed past → AtRest past
rest past r f s e =
    elim (r s e) [
      | inl u ↦ u
      | inr u ↦ elim (f u.0 s u.1) [ inl v ↦ v | inr d ↦ absurd (both_ways (is_live s (flat past).folios) d e) ]
    ]

-- an entry in a turn that has begun
same_rest : (o : Orders) (t : ℕ) (w : What) (a : Actor) (past : List Entry) → same_turn (by t a w) past ≡ true → loosens w ≡ false → InsideIdle past → Good o.setup.callers past → May o w a past → Resting past → Resting (by t a w ∷ past)
same_rest o t w a past same n i g m r s e =
    elim (live_before t w a past s e) [
      | inr c ↦ inl (inl c)
      | inl old ↦ elim (r s old) [
        | inl u ↦ inl (used_keep o t w a past s n i g m u)
        | inr u ↦ inr (
          ap (λ (z : Bool). z || (same_turn (by t a w) past && loosened past)) n ∙ and_from (same_turn (by t a w) past) (loosened past) same u.0,
          subst (λ (h : List Entry). IsUsed s h) (sym (cond-true (same_turn (by t a w) past) (before_turn past) past same)) u.1,
        )
      ]
    ]

-- the first entry of a turn
new_rest : (o : Orders) (t : ℕ) (w : What) (a : Actor) (past : List Entry) → same_turn (by t a w) past ≡ false → InsideIdle past → Good o.setup.callers past → May o w a past → AtRest past → Resting (by t a w ∷ past)
new_rest o t w a past new i g m r s e = by_test (loosens w)
    (λ y. inr (or_left (loosens w) (same_turn (by t a w) past && loosened past) y, subst (λ (h : List Entry). IsUsed s h) (sym (cond-false (same_turn (by t a w) past) (before_turn past) past new)) (r s (loosens_old t w a past s y e))))
    (λ n. inl (elim (live_before t w a past s e) [ inr c ↦ inl c | inl old ↦ used_keep o t w a past s n i g m (r s old) ]))

pub resting : (o : Orders) (past : List Entry) → Follows o past → Resting past
resting o [] r = λ s e. absurd (both_ways false refl e)
resting o (e ∷ past) r = go (resting o past r.1)
  where
    -- the turn decides
    go : Resting past → Resting (e ∷ past)
    go q = by_test (same_turn e past)
        (λ same. same_rest o e.turn e.what e.actor past same (not_loose (loosens e.what) (same_turn e past) r.0.begins_turn same) (idle o past r.1) (good o past r.1) r.0.may q)
        (λ new. new_rest o e.turn e.what e.actor past new (idle o past r.1) (good o past r.1) r.0.may (rest past q (r.0.freed new)))
      where
        not_loose : (x y : Bool) → (x ≡ true → y ≡ false) → y ≡ true → x ≡ false
        not_loose true y f h = absurd (both_ways y (f refl) h)
        not_loose false y f h = refl

pub at_rest : (o : Orders) (past : List Entry) → Follows o past → AllFreed past → LivesAtRest past
at_rest o past r f =
    let l = lives o past r in
    record {
      frames_differ = l.frames_differ;
      live_is_used = rest past (resting o past r) f;
      used_is_live = λ s u. elim u [ inl c ↦ l.cached_live s c | inr h ↦ l.held_live s h ];
    }

-- a touch names a live folio
pub touch_live : (b : Backing) (a : Aim) (g : ℕ) (past : List Entry) → LivesOk past → CanUse a b (named_aside (flat past) g) → IsLive b (flat past)
touch_live (User u) a g past l c = tt
touch_live (InFolio fo) a g past l c = l.cached_live fo.serial (backing_cached fo.serial (InFolio fo) a (flat past) g refl c)

pub lives_of : (o : Orders) (w : What) (a : Actor) (past : List Entry) → LivesOk past → Good o.setup.callers past → May o w a past → LivesOf o.setup w a past
lives_of o (Get b n) (Vcpu u) past l g m = m.2
lives_of o (Get b n) (Caller c) past l g m = absurd m
lives_of o (Page i fo n) (Caller c) past l g m = m.2
lives_of o (Page i fo n) (Vcpu u) past l g m = absurd m
lives_of o (Touch a b level value fill) (Vcpu u) past l g m = touch_live b a a.page past l (touched o u fill value a b level past g m).now_named
lives_of o (Touch a b level value fill) (Caller c) past l g m = absurd m
lives_of o (Free fo n) (Vcpu u) past l g m = m
lives_of o (Free fo n) (Caller c) past l g m = m
lives_of o w a past l g m = tt
