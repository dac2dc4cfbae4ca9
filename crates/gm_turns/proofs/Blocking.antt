-- What a caller waits for, over a core between two turns.
use Rattle.std.proofs.Common.{◌≡◌, ℕ, ◌<◌, ◌≤◌, ◌&&◌, Bool, true, false, length, get_or, Some, None, arith, sym, ◌∙◌, refl, ltb, inl, inr}
use Rattle.std.proofs.lemmas.Bool.{both_ways, cases_Bool}
use Rattle.std.proofs.lemmas.Bool.Decides.{nat_tests}
use Rattle.gm_base.specs.declared.calls.Ioctl.{Ioctl}
use Rattle.gm_base.specs.declared.script.Command.TheVariants.{Call as CallCommand}
use Rattle.gm_base.specs.declared.values.Actor.TheVariants.{Caller}
use Rattle.gm_callers.proofs.BracketTurns as owed
use Rattle.gm_callers.proofs.Waits.{may_judge, unblocked_ack, unblocked_begin, unblocked_change, unblocked_end, unblocked_ending, unblocked_judging, unblocked_pages, waits_on}
use Rattle.gm_callers.specs.Callers.{caller_at, request_in}
use Rattle.gm_callers.specs.Holding.{is_holder}
use Rattle.gm_callers.specs.Stand.{IsAt}
use Rattle.gm_callers.specs.Waiting.{WaitsOnVcpu}
use Rattle.gm_calls.specs.Lent.{LentStand}
use Rattle.gm_calls.specs.LockSets.{HasItsLocks}
use Rattle.gm_calls.specs.declared.call.Step.{Step}
use Rattle.gm_calls.specs.declared.call.Step.TheVariants as step
use Rattle.gm_calls.specs.declared.lock_set.LockSet.{LockSet}
use Rattle.gm_calls.specs.declared.parts.Parts.{Parts}
use Rattle.gm_flat.specs.Histories.{gone}
use Rattle.gm_flat.specs.Mappings.{flushed, inside}
use Rattle.gm_flat.specs.Replay.{flat}
use Rattle.gm_flat.specs.RightOrder.{IsBlocked, next_command}
use Rattle.gm_flat.specs.declared.effect.Effect.{Effect}
use Rattle.gm_laws.proofs.RuledIsRight.{right}
use Rattle.gm_laws.proofs.SlotsKeep.{slots_now}
use Rattle.gm_laws.specs.Counting.{asked_at}
use Rattle.gm_laws.specs.SlotsStand.{SlotsStand}
use Rattle.gm_state.proofs.Lending.{IsLent, lent}
use Rattle.gm_tlb.specs.Requests.{IsDoneByAll, IsLeastWaiting, outside}
use Rattle.gm_turns.specs.Ready.{Settled}
use Rattle.gm_turns.specs.Room.{orders_of}
use Rattle.gm_turns.specs.Standing.{memory_of}
use Rattle.gm_turns.specs.Stepping.{IsStepOf}
use Rattle.gm_turns.specs.Waiting.{IsBlocker}
use Rattle.gm_turns.specs.declared.outcome.Blocker.TheVariants.{Lock as OnLock, Inside as OnVcpu}
use Rattle.gm_turns.specs.declared.parts.Core.{Core}

-- what a call is judged by

pub slots_apart : (k : Core) → Settled k → SlotsStand (flat k.log.past)
slots_apart k t = slots_now (orders_of k) k.log.past (right (orders_of k) k.log.past t.ruled)

pub lent_stands : (k : Core) (p : Parts) → Settled k → IsLent p k.state → LentStand p (flat k.log.past)
lent_stands k p t e = lent k.setup k.state (memory_of k.setup k.log.past) p e (slots_apart k t) t.stands.state.is

-- who has flushed

not_done : (i : Bool) (d r : ℕ) → (i && ltb d r) ≡ false → i ≡ true → r ≤ d
not_done true d r h e = done d r h
  where
    done : (d r : ℕ) → ltb d r ≡ false → r ≤ d
    done d r h = grind (arith, nat_tests)
not_done false d r h e = absurd (cc)

waits_parts : (i : Bool) (d r : ℕ) → (i && ltb d r) ≡ true → (i ≡ true) × (d < r)
waits_parts true d r h = (refl, less d r h)
  where
    less : (d r : ℕ) → ltb d r ≡ true → d < r
    less d r h = grind (arith, nat_tests)
waits_parts false d r h = absurd (cc)

below : (a b : ℕ) → ltb a b ≡ true → a < b
below a b h = grind (arith, nat_tests)

above : (a b : ℕ) → ltb a b ≡ false → b ≤ a
above a b h = grind (arith, nat_tests)

-- a vCPU that doesn't wait for a request has flushed since it was made, if it is inside
pub has_flushed : (k : Core) (r v : ℕ) → Settled k → (v < length k.mmu.requests.seats → ((get_or k.mmu.requests.seats v outside).inside && ltb (get_or k.mmu.requests.seats v outside).done r) ≡ false) → inside v k.log.past ≡ true → r ≤ asked_at (flushed v k.log.past) k.log.past
has_flushed k r v t h i =
    let m = t.stands.mapping in
    elim (cases_Bool (ltb v k.setup.vcpus)) [
      | inl lt ↦
          let l : v < k.setup.vcpus = below v k.setup.vcpus lt in
          let seat = m.seats_are v outside l in
          let count = m.seat_count in
          let d = seat.done_is in
          let q = not_done (get_or k.mmu.requests.seats v outside).inside (get_or k.mmu.requests.seats v outside).done r (h (omega arith)) (seat.is_inside ∙ i) in
          omega arith
      | inr ge ↦ absurd (both_ways _ (m.none_beyond v (above v k.setup.vcpus ge)) i)
    ]

-- the bracket waits for a vCPU
pub waits_inside : (k : Core) (c v : ℕ) (effect : Effect) → Settled k → c < k.setup.callers → IsAt effect (Some step.Begin) (caller_at k.callers c).call → IsLeastWaiting k.mmu.requests (request_in (caller_at k.callers c).call) v → WaitsOnVcpu c v k.log.past
waits_inside k c v effect t lt at w =
    let m = t.stands.mapping in
    let n = request_in (caller_at k.callers c).call in
    let one = w.is_one in
    let seat = m.seats_are v outside (let count = m.seat_count in omega arith) in
    let p = waits_parts (get_or k.mmu.requests.seats v outside).inside (get_or k.mmu.requests.seats v outside).done n w.waits in
    owed.waits_on_vcpu c v effect t.stands.callers lt at (sym seat.is_inside ∙ p.0) (let q = p.1 in let d = seat.done_is in omega arith)
    (λ u less i. has_flushed k n u t (λ _. w.none_before u less) i)

-- where each vCPU inside has done the request, the caller waits for nobody
pub ack_unblocked : (k : Core) (c : ℕ) (effect : Effect) → Settled k → c < k.setup.callers → IsAt effect (Some step.Begin) (caller_at k.callers c).call → IsDoneByAll k.mmu.requests (request_in (caller_at k.callers c).call) → IsBlocked (orders_of k) (Caller c) k.log.past → ⊥
ack_unblocked k c effect t lt at all = unblocked_ack (orders_of k) c effect t.stands.callers lt at (λ v i. has_flushed k (request_in (caller_at k.callers c).call) v t (all v) i)

-- the blocker of a caller

pub present_is : (k : Core) (c : ℕ) → Settled k → c < k.setup.callers → (caller_at k.callers c).gone ≡ false → gone (Caller c) k.log.past ≡ false
present_is k c t lt e = sym (t.stands.callers.each c lt).gone_is ∙ e

-- of a call in progress
pub acked_blocker : (k : Core) (c v : ℕ) → Settled k → c < k.setup.callers → (caller_at k.callers c).gone ≡ false → IsStepOf (caller_at k.callers c).call step.Acked → IsLeastWaiting k.mmu.requests (request_in (caller_at k.callers c).call) v → IsBlocker (orders_of k) (Caller c) k.log.past (Some (OnVcpu v))
acked_blocker k c v t lt present at w = (present_is k c t lt present, waits_inside k c v at.0 t lt at.1 w)

pub acked_free : (k : Core) (c : ℕ) → Settled k → c < k.setup.callers → IsStepOf (caller_at k.callers c).call step.Acked → IsDoneByAll k.mmu.requests (request_in (caller_at k.callers c).call) → IsBlocker (orders_of k) (Caller c) k.log.past None
acked_free k c t lt at all = inr (ack_unblocked k c at.0 t lt at.1 all)

-- a step that waits for nobody
abbrev pub IsFree : Step → Type 0
IsFree step.Acked = ⊥
IsFree s = Unit {0}

pub step_free : (k : Core) (c : ℕ) (s : Step) → IsFree s → Settled k → c < k.setup.callers → IsStepOf (caller_at k.callers c).call s → IsBlocker (orders_of k) (Caller c) k.log.past None
step_free k c step.Begin f t lt at = inr (unblocked_begin (orders_of k) c at.0 t.stands.callers lt at.1)
step_free k c step.Acked f t lt at = absurd f
step_free k c step.Change f t lt at = inr (unblocked_change (orders_of k) c at.0 t.stands.callers lt at.1)
step_free k c step.End f t lt at = inr (unblocked_end (orders_of k) c at.0 t.stands.callers lt at.1)
step_free k c step.PageStep f t lt at = inr (unblocked_pages (orders_of k) c at.0 t.stands.callers lt at.1)

-- of the next call
pub lock_blocker : (k : Core) (c holder : ℕ) (i : Ioctl) (needed : LockSet) → Settled k → c < k.setup.callers → (caller_at k.callers c).gone ≡ false → (caller_at k.callers c).call ≡ None → next_command (orders_of k) (Caller c) k.log.past ≡ Some (CallCommand i) → HasItsLocks needed i (flat k.log.past) → is_holder k.callers c needed holder ≡ true → ((other : ℕ) → other < holder → is_holder k.callers c needed other ≡ false) → IsBlocker (orders_of k) (Caller c) k.log.past (Some (OnLock holder))
lock_blocker k c holder i needed t lt present idle command locks one least = (present_is k c t lt present, waits_on (orders_of k) c holder i needed t.stands.callers lt idle command locks one least)

pub locks_free : (k : Core) (c : ℕ) (i : Ioctl) (needed : LockSet) → Settled k → c < k.setup.callers → (caller_at k.callers c).call ≡ None → next_command (orders_of k) (Caller c) k.log.past ≡ Some (CallCommand i) → HasItsLocks needed i (flat k.log.past) → ((other : ℕ) → is_holder k.callers c needed other ≡ false) → IsBlocker (orders_of k) (Caller c) k.log.past None
locks_free k c i needed t lt idle command locks none = inr (unblocked_judging (orders_of k) c i t.stands.callers lt idle (may_judge (orders_of k) c i needed t.stands.callers lt idle command locks none))

pub nothing_next : (k : Core) (c : ℕ) → Settled k → c < k.setup.callers → (caller_at k.callers c).call ≡ None → next_command (orders_of k) (Caller c) k.log.past ≡ None → IsBlocker (orders_of k) (Caller c) k.log.past None
nothing_next k c t lt idle none = inr (unblocked_ending (orders_of k) c t.stands.callers lt idle none)
