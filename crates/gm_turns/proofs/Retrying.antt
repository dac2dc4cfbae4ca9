-- A fault that is stale is tried again, and its folio is freed where nothing else uses it.
use Rattle.std.proofs.Common.{◌≡◌, ℕ, ◌+◌, ◌<◌, ◌&&◌, List, ◌∷◌, Bool, true, false, not, set, suc, Option, Some, None, arith, refl, ap, cond, eqb, eqb-true, inl, inr, subst, sym, ◌∙◌}
use Rattle.std.proofs.lemmas.Bool.{cases_Bool, eq-eqb}
use Rattle.std.proofs.lemmas.Bool.Decides.{nat_tests}
use Rattle.gm_base.specs.declared.values.Actor.TheVariants.{Vcpu as OfVcpu}
use Rattle.gm_base.specs.declared.values.Folio.{Folio}
use Rattle.gm_base.specs.declared.values.Setup.{Setup}
use Rattle.gm_callers.proofs.Stays as callers
use Rattle.gm_fault.specs.declared.ticket.Ticket.{Ticket}
use Rattle.gm_flat.specs.Histories.{Fault}
use Rattle.gm_flat.specs.Replay.{flat}
use Rattle.gm_flat.specs.RightLives.{IsCached}
use Rattle.gm_flat.specs.declared.effect.Backing.{Backing}
use Rattle.gm_flat.specs.declared.effect.Backing.TheVariants.{User as InUser, Folio as InFolio}
use Rattle.gm_flat.specs.declared.entry.Entry.{Entry}
use Rattle.gm_flat.specs.declared.entry.What.TheVariants.{Retry}
use Rattle.gm_flat.specs.declared.views.Looked.{Looked}
use Rattle.gm_flat.specs.declared.views.Sampled.{Sampled}
use Rattle.gm_laws.proofs.Kit.{by}
use Rattle.gm_laws.specs.Ruled.{IsUsed}
use Rattle.gm_laws.specs.TouchFrames.{HasItsFrame}
use Rattle.gm_mapping.proofs.Quiet as mapping
use Rattle.gm_state.specs.Holding.{IsReleasable, freed_by}
use Rattle.gm_state.specs.Views.{StateView}
use Rattle.gm_store.proofs.Caches.{has_cached}
use Rattle.gm_store.specs.Stored.{CachedApart, has_triple}
use Rattle.gm_turns.proofs.Freed.{freeing_entry}
use Rattle.gm_turns.proofs.HeldFrames.{HoldsFrame, held_frames}
use Rattle.gm_turns.proofs.Installing.{Having, having_by, StateAfter}
use Rattle.gm_turns.proofs.Letting.{releasable, state_less}
use Rattle.gm_turns.specs.Faulting.{IsStale}
use Rattle.gm_turns.specs.Ready.{IsReady, Turned, noted}
use Rattle.gm_turns.specs.Room.{orders_of}
use Rattle.gm_turns.specs.Standing.{stored_of}
use Rattle.gm_turns.specs.declared.parts.Core.{Core}
use Rattle.gm_vcpus.proofs.Allowed.{AtGet, may_retry_stale}
use Rattle.gm_vcpus.proofs.Flights.{flight}
use Rattle.gm_vcpus.proofs.Holders.{count_held, held_count, holds_retry}
use Rattle.gm_vcpus.proofs.Moves as moves
use Rattle.gm_vcpus.specs.Holds.{holds_of, is_of_folio, one_more}
use Rattle.gm_vcpus.specs.Vcpus.{settled, vcpu_at}
use Rattle.gm_vcpus.specs.declared.stage.Stage.TheVariants as at

-- a fault that is stale
pub record Stale (k : Core) (v : ℕ) (b : Backing) : Type 0 where
  pub ticket : Ticket
  pub having : Having k v ticket.access b true

pub stale_by : (k : Core) (v : ℕ) (o : Option Ticket) (b : Backing) → IsReady k (OfVcpu v) → (vcpu_at k.vcpus v).fault ≡ o → IsStale o b k.mmu.progress → Stale k v b
stale_by k v None b r held h = absurd h
stale_by k v (Some d) b r held h = record { ticket = d; having = having_by k v (Some d) d.access b true r held (refl, h) }

-- its folio has its frame
pub frame_at : (k : Core) (v : ℕ) (b : Backing) (t : Ticket) (x : Sampled) (y : Looked) → IsReady k (OfVcpu v) → AtGet k.setup k.vcpus k.log.past v t x y b → HasItsFrame b (flat k.log.past)
frame_at k v b t x y r h =
    let f = flight v t (at.Got x y b) h.stand h.actor h.in_flight h.stage in
    subst (λ (c : Backing). HasItsFrame c (flat k.log.past)) f.backing_is
    (subst (λ (z : Fault). HoldsFrame z (flat k.log.past)) f.fault_is (held_frames (orders_of k) k.log.past r.settled.ruled.follows v))

pub may_let_go : (k : Core) (v : ℕ) (b : Backing) → IsReady k (OfVcpu v) → IsStale (vcpu_at k.vcpus v).fault b k.mmu.progress → IsReleasable k.state.store.pool b
may_let_go k v b r h =
    let f = (stale_by k v (vcpu_at k.vcpus v).fault b r refl h).having in
    releasable k.setup k.state k.vcpus k.log.past v f.ticket f.sampled f.looked b f.here (frame_at k v b f.ticket f.sampled f.looked r f.here) r.settled.stands.state

-- the core after it
abbrev pub let_go_core : Core → ℕ → StateView → Core
let_go_core k v st = record k { state = st; vcpus = set k.vcpus v (settled (vcpu_at k.vcpus v)) }

-- what is used is used still, where no folio is freed

uses_by : (serial : ℕ) (b : Backing) (s : Setup) (e : Entry) (past : List Entry) → CachedApart (flat past).cache → flat (e ∷ past) ≡ flat past → one_more (is_of_folio serial b) (holds_of s.vcpus serial (e ∷ past)) ≡ holds_of s.vcpus serial past → freed_by b (stored_of s past) ≡ None → 0 < holds_of s.vcpus serial past → IsUsed serial (e ∷ past)
uses_by serial (InUser page) s e past apart same holds none some = inr (count_held s.vcpus serial (e ∷ past) (subst (λ (n : ℕ). 0 < n) (sym holds) some))
uses_by serial (InFolio folio) s e past apart same holds none some =
    elim (cases_Bool (eqb (holds_of s.vcpus serial (e ∷ past)) 0)) [
      | inr n ↦ inr (count_held s.vcpus serial (e ∷ past) (positive (holds_of s.vcpus serial (e ∷ past)) n))
      | inl z ↦ inl (subst (IsCached serial) (sym same) (
          let own = owns (eqb folio.serial serial) (holds_of s.vcpus serial (e ∷ past)) (holds_of s.vcpus serial past) z holds some in
          let is : folio.serial ≡ serial = eqb-true folio.serial serial own.0 in
          let one : holds_of s.vcpus folio.serial past ≡ 1 = ap (λ (n : ℕ). holds_of s.vcpus n past) is ∙ own.1 in
          let marked : has_triple folio.serial (flat past).cache ≡ true = kept_marked (eqb (holds_of s.vcpus folio.serial past) 1) (has_triple folio.serial (flat past).cache) folio (eq-eqb (holds_of s.vcpus folio.serial past) 1 one) none in
          has_cached serial (flat past).cache apart (subst (λ (n : ℕ). has_triple n (flat past).cache ≡ true) is marked)))
    ]
  where
    positive : (n : ℕ) → eqb n 0 ≡ false → 0 < n
    positive n e = grind (arith, nat_tests)

    owns : (t : Bool) (x y : ℕ) → eqb x 0 ≡ true → cond t (suc x) x ≡ y → 0 < y → (t ≡ true) × (y ≡ 1)
    owns true x y z h some = (refl, grind (arith, nat_tests))
    owns false x y z h some = absurd (zero_not x y z h some)
      where
        zero_not : (x y : ℕ) → eqb x 0 ≡ true → x ≡ y → 0 < y → ⊥
        zero_not x y z h some = grind (arith, nat_tests)

    kept_marked : (n t : Bool) (folio : Folio) → n ≡ true → cond (n && not t) (Some folio) None ≡ None → t ≡ true
    kept_marked true true folio e h = refl
    kept_marked true false folio e h = absurd (cc)
    kept_marked false t folio e h = absurd (cc)

none_left : (k : Core) (v : ℕ) (b : Backing) (t : Ticket) (x : Sampled) (y : Looked) → IsReady k (OfVcpu v) → AtGet k.setup k.vcpus k.log.past v t x y b → freed_by b (stored_of k.setup k.log.past) ≡ None → (serial : ℕ) → IsUsed serial k.log.past → IsUsed serial (by (k.turns + 1) (OfVcpu v) Retry ∷ k.log.past)
none_left k v b t x y r h none serial (inl c) = inl c
none_left k v b t x y r h none serial (inr held) =
    uses_by serial b k.setup (by (k.turns + 1) (OfVcpu v) Retry) k.log.past r.settled.stands.state.is.store.cache.apart refl (holds_retry k.setup k.vcpus k.log.past serial (k.turns + 1) v t x y b h) none (held_count serial h.stand held)

pub retry_turn : (k : Core) (v : ℕ) (b : Backing) (st : StateView) → IsReady k (OfVcpu v) → IsStale (vcpu_at k.vcpus v).fault b k.mmu.progress → freed_by b (stored_of k.setup k.log.past) ≡ None → StateAfter k b st → Turned k (noted (let_go_core k v st) (OfVcpu v) Retry) (OfVcpu v) false
retry_turn k v b st r h none after =
    let stands = r.settled.stands in
    let past : List Entry = k.log.past in
    let f = (stale_by k v (vcpu_at k.vcpus v).fault b r refl h).having in
    let e : Entry = by (k.turns + 1) (OfVcpu v) Retry in
    freeing_entry k (noted (let_go_core k v st) (OfVcpu v) Retry) (OfVcpu v) Retry r
    (record {
      stands = record {
        vcpus = moves.retries (k.turns + 1) v stands.vcpus r.actor_is;
        callers = callers.quiet e past refl stands.callers;
        mapping = mapping.quiet e past refl stands.mapping;
        state = state_less k.setup k.state st b e past
            (record { flat_is = refl; words_are = λ serial word. refl; user_are = λ page word. refl; holds_are = λ serial. holds_retry k.setup k.vcpus past serial (k.turns + 1) v f.ticket f.sampled f.looked b f.here })
            none stands.state after.slots_are after.is;
      };
      past_is = refl;
      orders = refl;
      turns = refl;
    })
    (may_retry_stale (orders_of k) k.setup k.vcpus past v f.ticket f.sampled f.looked b k.mmu.progress f.here stands.mapping.range_is stands.mapping.seq_is f.stale_is) refl refl
    (λ serial used. inl (none_left k v b f.ticket f.sampled f.looked r f.here none serial used)) tt
