-- A fault that installs its leaf.
use Rattle.std.proofs.Common.{◌≡◌, ℕ, ◌+◌, ◌&&◌, ◌||◌, List, Bool, true, false, not, set, Option, Some, None, refl, ap, cond, eqb, subst, sym, ◌∙◌}
use Rattle.gm_base.specs.Aim.{Aim}
use Rattle.gm_base.specs.declared.values.Actor.TheVariants.{Vcpu as OfVcpu}
use Rattle.gm_base.specs.declared.values.Folio.{Folio}
use Rattle.gm_base.specs.declared.values.Level.{Level}
use Rattle.gm_base.specs.declared.values.Level.TheVariants.{Small, Block}
use Rattle.gm_base.specs.declared.values.Setup.{Setup}
use Rattle.gm_base.specs.Extent.{Extent}
use Rattle.gm_callers.proofs.Stays as callers
use Rattle.gm_fault.specs.declared.ticket.Ticket.{Ticket}
use Rattle.gm_flat.specs.Attribute.{attr_of}
use Rattle.gm_base.specs.declared.leaf.Leaf.{Leaf}
use Rattle.gm_base.specs.declared.values.Kind.{Kind}
use Rattle.gm_flat.specs.FlatState.{Flat, cached}
use Rattle.gm_flat.specs.NamedPage.{unmarked}
use Rattle.gm_flat.specs.Invalidation.{hull}
use Rattle.gm_flat.specs.Replay.{flat}
use Rattle.gm_flat.specs.RightLevel.{LevelIs}
use Rattle.gm_flat.specs.Slots.{slot_over}
use Rattle.gm_flat.specs.declared.effect.Backing.{Backing}
use Rattle.gm_flat.specs.declared.effect.Backing.TheVariants.{User as InUser, Folio as InFolio}
use Rattle.gm_flat.specs.declared.entry.Entry.{Entry}
use Rattle.gm_flat.specs.declared.entry.What.TheVariants.{Install}
use Rattle.gm_flat.specs.declared.views.Looked.{Looked}
use Rattle.gm_flat.specs.declared.views.Sampled.{Sampled}
use Rattle.gm_flat.specs.declared.views.SlotView.{SlotView}
use Rattle.gm_inval.specs.Range.{open_range, range_holds}
use Rattle.gm_laws.proofs.Fates.{named_folio}
use Rattle.gm_laws.proofs.Frames.{cached_frames}
use Rattle.gm_laws.proofs.Kit.{by}
use Rattle.gm_laws.proofs.RuledIsRight.{right}
use Rattle.gm_laws.specs.May.{May}
use Rattle.gm_laws.specs.SlotsStand.{SlotsStand}
use Rattle.gm_laws.specs.TouchFrames.{HasItsFrame}
use Rattle.gm_mapping.proofs.Filling.{InstallsIn, installed}
use Rattle.gm_mapping.specs.Alike.{LieAlike, leaf_of}
use Rattle.gm_mmu.specs.Served.{Serving}
use Rattle.gm_state.specs.Holding.{IsReleasable, freed_by, released}
use Rattle.gm_state.specs.Levels.{IsLevel}
use Rattle.gm_state.specs.Stand.{Memory, StateIs}
use Rattle.gm_state.specs.Views.{StateView}
use Rattle.gm_store.proofs.Caches.{cached_has}
use Rattle.gm_store.specs.Stored.{has_triple}
use Rattle.gm_turns.proofs.FaultTurns.{can_be_seen}
use Rattle.gm_turns.proofs.LeafNames.{IsUserBelow, lie_alike, names_leaf, new_leaf}
use Rattle.gm_turns.proofs.Letting.{releasable, state_less}
use Rattle.gm_turns.proofs.OneTurn.{one_entry}
use Rattle.gm_turns.specs.Faulting.{HasGot, IsGot}
use Rattle.gm_turns.specs.Ready.{IsReady, Turned, noted}
use Rattle.gm_turns.specs.Room.{orders_of}
use Rattle.gm_turns.specs.Standing.{memory_of, stored_of}
use Rattle.gm_turns.specs.declared.parts.Core.{Core}
use Rattle.gm_vcpus.proofs.Allowed.{AtGet, may_install}
use Rattle.gm_vcpus.proofs.Flights.{flight}
use Rattle.gm_vcpus.proofs.Holders.{holds_install}
use Rattle.gm_vcpus.proofs.Moves as moves
use Rattle.gm_vcpus.proofs.Putting.{put_page_below, puts}
use Rattle.gm_vcpus.specs.Puts.{Puts, may_be_written}
use Rattle.gm_vcpus.specs.Stages.{stage_of}
use Rattle.gm_vcpus.specs.Vcpus.{settled, vcpu_at}
use Rattle.gm_vcpus.specs.declared.stage.Stage.{Stage}
use Rattle.gm_vcpus.specs.declared.stage.Stage.TheVariants as at

-- a fault that has got its backing
pub record Having (k : Core) (v : ℕ) (a : Aim) (b : Backing) (t : Bool) : Type 0 where
  pub ticket : Ticket
  pub sampled : Sampled
  pub looked : Looked
  pub here : AtGet k.setup k.vcpus k.log.past v ticket sampled looked b
  pub access_is : ticket.access ≡ a
  pub stale_is : (range_holds (open_range k.mmu.progress) ticket.access.page || not (eqb k.mmu.progress.seq sampled.seq)) ≡ t

pub having_stage : (k : Core) (v : ℕ) (d : Ticket) (stage : Stage) (a : Aim) (b : Backing) (t : Bool) → IsReady k (OfVcpu v) → (vcpu_at k.vcpus v).fault ≡ Some d → stage_of d ≡ stage → d.access ≡ a → IsGot stage a b k.mmu.progress t → Having k v a b t
having_stage k v d at.Missed a b t r held is same h = absurd h
having_stage k v d (at.Sampled x) a b t r held is same h = absurd h
having_stage k v d (at.Looked x y) a b t r held is same h = absurd h
having_stage k v d (at.Got x y c) a b t r held is same h = record {
  ticket = d;
  sampled = x;
  looked = y;
  here = record { stand = r.settled.stands.vcpus; actor = r.actor_is; in_flight = held; stage = is ∙ ap (λ (z : Backing). at.Got x y z) h.0 };
  access_is = same;
  stale_is = ap (λ (z : Aim). range_holds (open_range k.mmu.progress) z.page || not (eqb k.mmu.progress.seq x.seq)) same ∙ h.1;
}

pub having_by : (k : Core) (v : ℕ) (o : Option Ticket) (a : Aim) (b : Backing) (t : Bool) → IsReady k (OfVcpu v) → (vcpu_at k.vcpus v).fault ≡ o → HasGot o a b k.mmu.progress t → Having k v a b t
having_by k v None a b t r held h = absurd h
having_by k v (Some d) a b t r held h = having_stage k v d (stage_of d) a b t r held refl h.0 h.1

pub having : (k : Core) (v : ℕ) (a : Aim) (b : Backing) (t : Bool) → IsReady k (OfVcpu v) → HasGot (vcpu_at k.vcpus v).fault a b k.mmu.progress t → Having k v a b t
having k v a b t r h = having_by k v (vcpu_at k.vcpus v).fault a b t r refl h

-- what it puts
pub putting : (k : Core) (v : ℕ) (a : Aim) (b : Backing) → IsReady k (OfVcpu v) → Having k v a b false → Puts a b (flat k.log.past)
putting k v a b r f =
    let st = r.settled.stands in
    subst (λ (z : Aim). Puts z b (flat k.log.past)) f.access_is
    (puts (orders_of k) k.setup k.vcpus k.log.past v f.ticket f.sampled f.looked b k.mmu.progress (right (orders_of k) k.log.past r.settled.ruled) f.here st.mapping.range_is st.mapping.seq_is f.stale_is)

-- the folio that is put is cached
record PutCached (folio : Folio) (k : Core) : Type 0 where
  pub file : ℕ
  pub index : ℕ
  pub is_cached : cached file index (flat k.log.past).cache ≡ Some folio

put_cached : (k : Core) (a : Aim) (folio : Folio) → Puts a (InFolio folio) (flat k.log.past) → PutCached folio k
put_cached k a folio p =
    let f = flat k.log.past in
    let c = named_folio f a.page folio (attr_of a.page f.attrs) (unmarked (slot_over f.slots a.page)) p.gives p.named_is p.backing_is in
    record { file = c.0; index = c.1; is_cached = c.2 }

put_frame : (k : Core) (v : ℕ) (a : Aim) (b : Backing) → IsReady k (OfVcpu v) → Puts a b (flat k.log.past) → HasItsFrame b (flat k.log.past)
put_frame k v a (InUser page) r p = tt
put_frame k v a (InFolio folio) r p = let c = put_cached k a folio p in cached_frames (orders_of k) k.log.past r.settled.ruled.follows c.file c.index folio c.is_cached

pub may_release : (k : Core) (v : ℕ) (a : Aim) (b : Backing) → IsReady k (OfVcpu v) → HasGot (vcpu_at k.vcpus v).fault a b k.mmu.progress false → IsReleasable k.state.store.pool b
may_release k v a b r h =
    let f = having k v a b false r h in
    releasable k.setup k.state k.vcpus k.log.past v f.ticket f.sampled f.looked b f.here (put_frame k v a b r (putting k v a b r f)) r.settled.stands.state

-- and isn't freed
last_not : (n : Bool) (t : Bool) (folio : Folio) → t ≡ true → cond (n && not t) (Some folio) None ≡ None
last_not true true folio e = refl
last_not false true folio e = refl
last_not n false folio e = absurd (cc)

none_freed : (k : Core) (a : Aim) (b : Backing) → Puts a b (flat k.log.past) → freed_by b (stored_of k.setup k.log.past) ≡ None
none_freed k a (InUser page) p = refl
none_freed k a (InFolio folio) p =
    let c = put_cached k a folio p in
    last_not (eqb ((stored_of k.setup k.log.past).holds folio.serial) 1) (has_triple folio.serial (flat k.log.past).cache) folio (cached_has c.file c.index folio (flat k.log.past).cache c.is_cached)

user_below : (k : Core) (v : ℕ) (a : Aim) (b : Backing) → IsReady k (OfVcpu v) → Puts a b (flat k.log.past) → IsUserBelow k.setup.user b
user_below k v a (InUser page) r p = put_page_below k.setup.user page a (flat k.log.past) (can_be_seen k v r) p
user_below k v a (InFolio folio) r p = tt

-- the core after it
abbrev installed_core : Core → ℕ → Serving → StateView → Core
installed_core k v m st = record k { mmu = m; state = st; vcpus = set k.vcpus v (settled (vcpu_at k.vcpus v)) }

pub record StateAfter (k : Core) (b : Backing) (st : StateView) : Type 0 where
  pub slots_are : st.slots ≡ k.state.slots
  pub is : StateIs k.setup st (released b (memory_of k.setup k.log.past))

pub install_turn : (k : Core) (v : ℕ) (a : Aim) (b : Backing) (level : Level) (m : Serving) (st : StateView) → IsReady k (OfVcpu v) → HasGot (vcpu_at k.vcpus v).fault a b k.mmu.progress false → IsLevel level k.setup.huge a.page (flat k.log.past) (hull k.log.past) → InstallsIn k.mmu m (new_leaf level a b (flat k.log.past)) → StateAfter k b st → Turned k (noted (installed_core k v m st) (OfVcpu v) (Install a.page level)) (OfVcpu v) false
install_turn k v a b level m st r h l i after =
    let stands = r.settled.stands in
    let past : List Entry = k.log.past in
    let f = having k v a b false r h in
    let p = putting k v a b r f in
    let e : Entry = by (k.turns + 1) (OfVcpu v) (Install a.page level) in
    let g = flight v f.ticket (at.Got f.sampled f.looked b) f.here.stand f.here.actor f.here.in_flight f.here.stage in
    one_entry k (noted (installed_core k v m st) (OfVcpu v) (Install a.page level)) (OfVcpu v) (Install a.page level) false r
    (record {
      stands = record {
        vcpus = moves.installs (k.turns + 1) v a.page level stands.vcpus r.actor_is;
        callers = callers.quiet e past refl stands.callers;
        mapping = installed (k.turns + 1) v level a.page a.kind b (may_be_written a.kind (slot_over (flat past).slots a.page)) m past stands.mapping
            (record { access = f.ticket.access; missed = g.missed; sample = Some g.sample; look = Some g.seen; gotten = g.gotten; fault_is = g.fault_is; kind_is = ap (λ (z : Aim). z.kind) f.access_is })
            (names_leaf level k.setup.huge k.setup.user a b (flat past) (hull past) (can_be_seen k v r) p (user_below k v a b r p) l)
            i;
        state = state_less k.setup k.state st b e past
            (record { flat_is = refl; words_are = λ serial word. refl; user_are = λ page word. refl; holds_are = λ serial. holds_install k.setup k.vcpus past serial (k.turns + 1) v f.ticket f.sampled f.looked b a.page level f.here })
            (none_freed k a b p) stands.state after.slots_are after.is;
      };
      past_is = refl;
      orders = refl;
      turns = refl;
    })
    (subst (λ (z : Aim). May (orders_of k) (Install z.page level) (OfVcpu v) past) f.access_is
    (may_install (orders_of k) k.setup k.vcpus past v f.ticket f.sampled f.looked b k.mmu.progress level f.here stands.mapping.range_is stands.mapping.seq_is f.stale_is (subst (λ (z : Aim). LevelIs level k.setup.huge z.page past) (sym f.access_is) (level_is level k.setup.huge a.page past l)))) refl refl refl tt
  where
    level_is : (level : Level) (huge : Bool) (page : ℕ) (past : List Entry) → IsLevel level huge page (flat past) (hull past) → LevelIs level huge page past
    level_is Small huge page past l = l
    level_is Block huge page past l = l

-- the level that is asked for is the rule's
pub level_asked : (k : Core) (v : ℕ) (a : Aim) (level : Level) (page : ℕ) (range : Option Extent) → IsReady k (OfVcpu v) → page ≡ a.page → range ≡ open_range k.mmu.progress → ((s : Setup) (m : Memory) → StateIs s k.state m → SlotsStand m.stored.flat → IsLevel level k.setup.huge page m.stored.flat range) → IsLevel level k.setup.huge a.page (flat k.log.past) (hull k.log.past)
level_asked k v a level page range r e g h =
    subst (λ (p : ℕ). IsLevel level k.setup.huge p (flat k.log.past) (hull k.log.past)) e
    (subst (λ (x : Option Extent). IsLevel level k.setup.huge page (flat k.log.past) x) (g ∙ r.settled.stands.mapping.range_is)
    (h k.setup (memory_of k.setup k.log.past) r.settled.stands.state.is (can_be_seen k v r).stand))

-- a leaf of a block lies as its backing does
pub may_make_leaf : (k : Core) (v : ℕ) (a : Aim) (b : Backing) (level : Level) → IsReady k (OfVcpu v) → HasGot (vcpu_at k.vcpus v).fault a b k.mmu.progress false → IsLevel level k.setup.huge a.page (flat k.log.past) (hull k.log.past) → level ≡ Block → LieAlike a.page b
may_make_leaf k v a b level r h l e = lie_alike k.setup.huge a b (flat k.log.past) (hull k.log.past) (putting k v a b r (having k v a b false r h)) (subst (λ (x : Level). IsLevel x k.setup.huge a.page (flat k.log.past) (hull k.log.past)) e l)

-- the leaf that is installed
pub leaf_is : (level : Level) (a : Aim) (b : Backing) (f : Flat) (page : ℕ) (kind : Kind) (o : Option SlotView) (written : Bool) (leaf : Leaf) → leaf ≡ leaf_of level page kind b written → page ≡ a.page → kind ≡ a.kind → written ≡ may_be_written kind o → o ≡ slot_over f.slots page → leaf ≡ new_leaf level a b f
leaf_is level a b f page kind o written leaf e g h w n =
    let slot : o ≡ slot_over f.slots a.page = n ∙ ap (λ (p : ℕ). slot_over f.slots p) g in
    let writes : written ≡ may_be_written a.kind (slot_over f.slots a.page) = w ∙ (ap (λ (k : Kind). may_be_written k o) h ∙ ap (may_be_written a.kind) slot) in
    e ∙ (ap (λ (p : ℕ). leaf_of level p kind b written) g ∙ (ap (λ (k : Kind). leaf_of level a.page k b written) h ∙ ap (λ (x : Bool). leaf_of level a.page a.kind b x) writes))
