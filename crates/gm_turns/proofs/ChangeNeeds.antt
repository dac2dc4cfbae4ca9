-- What the change of a bracket needs: the effect can be made, and there is room for it.
use Rattle.std.proofs.Common.{◌≡◌, ℕ, ◌+◌, ◌-◌, ◌<◌, ◌≤◌, List, [], false, length, Option, Some, None, IsSome, arith, subst, ◌∙◌, ap, refl}
use Rattle.gm_base.specs.Extent.{Extent}
use Rattle.gm_base.specs.declared.values.Actor.TheVariants.{Caller}
use Rattle.gm_callers.proofs.Moves as moves
use Rattle.gm_callers.specs.Callers.{caller_at}
use Rattle.gm_callers.specs.Stand.{IsAt}
use Rattle.gm_callers.specs.declared.caller.InProgress.{InProgress}
use Rattle.gm_calls.specs.declared.call.Step.TheVariants as step
use Rattle.gm_calls.specs.declared.judged.Judged.{Judged}
use Rattle.gm_flat.specs.Calls.{Bracketed, Plan, plan}
use Rattle.gm_flat.specs.Histories.{bracket}
use Rattle.gm_flat.specs.Replay.{flat}
use Rattle.gm_flat.specs.RightLives.{plan_of}
use Rattle.gm_flat.specs.declared.effect.Effect.{Effect}
use Rattle.gm_flat.specs.declared.effect.Effect.TheVariants.{Attr, Cut, File, Mark, Move, NoSlot, Shut, Slot, Word}
use Rattle.gm_laws.proofs.RowsSeen.{sees_row-now}
use Rattle.gm_laws.proofs.RuledIsRight.{right}
use Rattle.gm_base.specs.declared.values.Folio.{Folio}
use Rattle.gm_laws.specs.Ruled.{cuts}
use Rattle.gm_state.proofs.PlannedReads.{bracket_slotless, makes_slot, none_due, same_cache}
use Rattle.gm_state.proofs.Promises.{promises}
use Rattle.gm_state.specs.Applying.{CanApply, HasRoomFor}
use Rattle.gm_state.specs.Promised.{Promised}
use Rattle.gm_base.specs.declared.calls.Ioctl.{Ioctl}
use Rattle.gm_state.specs.Stand.{Applied}
use Rattle.gm_state.specs.Views.{StateView}
use Rattle.gm_store.specs.Stored.{applied as stored_after}
use Rattle.gm_turns.proofs.Blocking.{slots_apart}
use Rattle.gm_turns.proofs.FewDue.{few_cut, few_frames, few_shut}
use Rattle.gm_turns.specs.Brackets.{ioctl_in}
use Rattle.gm_turns.specs.Ready.{IsReady}
use Rattle.gm_turns.specs.Room.{HasCallRoom, HasChangeRoom, HasStepRoom, orders_of}
use Rattle.gm_turns.specs.Standing.{memory_of}
use Rattle.gm_turns.specs.declared.parts.Core.{Core}

-- the bracket's effect is its call's plan now
record PlannedNow (k : Core) (c : ℕ) (effect : Effect) : Type 0 where
  spans : List Extent
  is : plan k.setup (ioctl_in (caller_at k.callers c).call) (flat k.log.past) ≡ Bracketed effect spans

planned_now : (k : Core) (c : ℕ) (effect : Effect) → IsReady k (Caller c) → IsAt effect (Some step.Acked) (caller_at k.callers c).call → PlannedNow k c effect
planned_now k c effect r at =
    let g = moves.in_bracket c effect (Some step.Acked) r.settled.stands.callers r.actor_is at in
    let b = moves.acked_is effect g.x.request g.y.made (bracket c k.log.past) (plan_of k.setup g.y k.log.past) k.log.past g.stage in
    let now : plan k.setup g.y.ioctl (flat k.log.past) ≡ plan_of k.setup g.y k.log.past = sees_row-now (orders_of k) k.log.past (right (orders_of k) k.log.past r.settled.ruled) c g.y g.call_is b.2.made_is in
    let asked : ioctl_in (caller_at k.callers c).call ≡ g.y.ioctl = ap (λ (o : Option InProgress). ioctl_in o) g.is_x ∙ g.ties.ioctl_is in
    record { spans = b.0.spans; is = ap (λ (i : Ioctl). plan k.setup i (flat k.log.past)) asked ∙ (now ∙ b.2.is_bracket) }

pub can_make : (k : Core) (c : ℕ) (effect : Effect) → IsReady k (Caller c) → IsAt effect (Some step.Acked) (caller_at k.callers c).call → CanApply k.setup k.state (memory_of k.setup k.log.past) (ioctl_in (caller_at k.callers c).call) effect
can_make k c effect r at =
    let p = planned_now k c effect r at in
    let i = ioctl_in (caller_at k.callers c).call in
    record {
      is = r.settled.stands.state.is;
      makes = subst (λ (q : Plan). Promised k.setup i (flat k.log.past) q) p.is (promises k.setup i (flat k.log.past));
      apart = slots_apart k r.settled;
      small = r.settled.limits.user;
    }

pub change_room : (k : Core) (c : ℕ) (effect : Effect) → IsReady k (Caller c) → IsAt effect (Some step.Acked) (caller_at k.callers c).call → HasChangeRoom k effect
change_room k c effect r at =
    let g = moves.in_bracket c effect (Some step.Acked) r.settled.stands.callers r.actor_is at in
    subst (λ (j : Judged). HasStepRoom k j) g.judged_is (subst (λ (o : Option InProgress). HasCallRoom k c o) g.is_x r.room.own)

by_effect : (k : Core) (c : ℕ) (effect : Effect) → IsReady k (Caller c) → HasChangeRoom k effect → makes_slot effect ≡ false → HasRoomFor k.state effect
by_effect k c (File file pages block) r h n = r.room.files
by_effect k c (Slot slot base pages user flags file index) r h n = absurd (cc)
by_effect k c (Attr span kind) r h n = r.room.kinds
by_effect k c (Cut file lo hi) r h n = h.0
by_effect k c (Shut file) r h n = h.0
by_effect k c (Mark slot) r h n = tt
by_effect k c (NoSlot slot) r h n = tt
by_effect k c (Move slot base) r h n = r.room.blocks
by_effect k c (Word page word value) r h n = tt

pub state_room : (k : Core) (c : ℕ) (effect : Effect) → IsReady k (Caller c) → IsAt effect (Some step.Acked) (caller_at k.callers c).call → HasRoomFor k.state effect
state_room k c effect r at =
    let p = planned_now k c effect r at in
    by_effect k c effect r (change_room k c effect r at) (bracket_slotless k.setup (ioctl_in (caller_at k.callers c).call) (flat k.log.past) effect p.spans p.is)

pub is_open : (effect : Effect) (o : Option InProgress) → IsAt effect (Some step.Acked) o → IsSome o
is_open effect None at = absurd at
is_open effect (Some x) at = refl

-- what is freed is little

pub freed_count : (k : Core) (c : ℕ) (effect : Effect) (new : StateView) → IsReady k (Caller c) → Applied k.setup (memory_of k.setup k.log.past) effect new → length new.freed.list < 4294967296
freed_count k c effect new r a =
    let f = few_frames k.setup.frames k.state.store (memory_of k.setup k.log.past).stored effect new.freed.list r.settled.stands.state.is.store a.frees.due in
    let l = r.settled.limits.frames in
    omega arith

calm : (k : Core) (c : ℕ) (effect : Effect) (new : StateView) → IsReady k (Caller c) → Applied k.setup (memory_of k.setup k.log.past) effect new → cuts effect ≡ false → length new.freed.list + 1 ≤ k.log.spare
calm k c effect new r a u =
    let m = memory_of k.setup k.log.past in
    let none : new.freed.list ≡ [] = none_due (flat k.log.past).cache (stored_after effect m.stored) new.freed.list r.settled.stands.state.is.store.cache.apart (same_cache effect (flat k.log.past) u) a.frees.due in
    let z : length new.freed.list ≡ 0 = ap (λ (ps : List (ℕ × Folio)). length ps) none in
    let e = r.room.entries in
    omega arith

by_room : (k : Core) (c : ℕ) (effect : Effect) (new : StateView) → IsReady k (Caller c) → HasChangeRoom k effect → Applied k.setup (memory_of k.setup k.log.past) effect new → length new.freed.list + 1 ≤ k.log.spare
by_room k c (Cut file lo hi) new r h a =
    let f = few_cut k.setup.frames k.state.store (memory_of k.setup k.log.past).stored file lo hi new.freed.list r.settled.stands.state.is.store a.frees.due in
    let l = h.1 in
    omega arith
by_room k c (Shut file) new r h a =
    let f = few_shut k.setup.frames k.state.store (memory_of k.setup k.log.past).stored file new.freed.list r.settled.stands.state.is.store a.frees.due in
    let l = h.1 in
    omega arith
by_room k c effect new r h a = calm k c effect new r a refl

pub freed_room : (k : Core) (c : ℕ) (effect : Effect) (new : StateView) → IsReady k (Caller c) → IsAt effect (Some step.Acked) (caller_at k.callers c).call → Applied k.setup (memory_of k.setup k.log.past) effect new → length new.freed.list ≤ k.log.spare - 1
freed_room k c effect new r at a = let l = by_room k c effect new r (change_room k c effect r at) a in omega arith
