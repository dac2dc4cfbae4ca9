-- The turn in which a call is judged, makes its change and is answered.
use Rattle.std.proofs.Common.{◌≡◌, ℕ, ◌+◌, ◌≤◌, List, [], ◌∷◌, Bool, true, false, Some, None, IsSome, arith, subst, sym, refl}
use Rattle.gm_base.specs.declared.calls.Ioctl.{Ioctl}
use Rattle.gm_base.specs.declared.calls.Ioctl.TheVariants.{Region2}
use Rattle.gm_base.specs.declared.calls.Region.{Region}
use Rattle.gm_base.specs.declared.script.Command.TheVariants.{Call as CallCommand}
use Rattle.gm_base.specs.declared.values.Actor.TheVariants.{Caller}
use Rattle.gm_base.specs.declared.values.Folio.{Folio}
use Rattle.gm_base.specs.declared.values.Setup.{Setup}
use Rattle.gm_callers.proofs.Answering as answering
use Rattle.gm_callers.proofs.Replies as owed
use Rattle.gm_callers.specs.Callers.{caller_at}
use Rattle.gm_flat.specs.Calls.{Plan, Short, new_slot, plan, wants_file}
use Rattle.gm_flat.specs.Replay.{flat}
use Rattle.gm_flat.specs.RightOrder.{Judges, next_command}
use Rattle.gm_flat.specs.declared.effect.Effect.{Effect}
use Rattle.gm_flat.specs.declared.effect.Effect.TheVariants.{Attr, Cut, File, Mark, Move, NoSlot, Shut, Slot, Word}
use Rattle.gm_flat.specs.declared.effect.Reply.TheVariants.{Good}
use Rattle.gm_flat.specs.declared.entry.Entry.{Entry}
use Rattle.gm_flat.specs.declared.entry.What.TheVariants.{Answer, Change, Judge}
use Rattle.gm_laws.proofs.Kit.{by}
use Rattle.gm_laws.specs.Ruled.{cuts}
use Rattle.gm_mapping.proofs.Quiet as mapping
use Rattle.gm_state.proofs.Alike.{alike}
use Rattle.gm_state.proofs.PlannedReads.{none_due, same_cache, short_uncut}
use Rattle.gm_state.proofs.Promises.{promises}
use Rattle.gm_state.specs.Applying.{CanApply, HasBindRoom, HasBlockRoom, HasRoomFor}
use Rattle.gm_state.specs.Promised.{Makes, Promised}
use Rattle.gm_state.specs.Stand.{Applied, StateIs, after_effect}
use Rattle.gm_state.specs.Views.{StateView}
use Rattle.gm_store.proofs.SlotEffects.{is_there}
use Rattle.gm_store.specs.Stored.{applied as stored_after}
use Rattle.gm_store.specs.Views.{file_in}
use Rattle.gm_turns.proofs.Blocking.{slots_apart}
use Rattle.gm_turns.proofs.JudgeTurns.{has_room, still_idle, taken, taken_stand}
use Rattle.gm_turns.proofs.OneTurn.{three_entries}
use Rattle.gm_turns.proofs.StateQuiet as state
use Rattle.gm_turns.specs.Judging.{changed_now}
use Rattle.gm_turns.specs.Ready.{IsReady, Turned}
use Rattle.gm_turns.specs.Room.{CanBind, orders_of}
use Rattle.gm_turns.specs.Standing.{StateStands, memory_of}
use Rattle.gm_turns.specs.declared.parts.Core.{Core}
use Rattle.gm_vcpus.proofs.Holders.{holds_quiet}
use Rattle.gm_vcpus.proofs.Stays as vcpus

-- the effect is the call's
pub makes_it : (k : Core) (i : Ioctl) (effect : Effect) (answer : ℕ) → plan k.setup i (flat k.log.past) ≡ Short effect answer → Makes k.setup i (flat k.log.past) effect
makes_it k i effect answer e = subst (λ (p : Plan). Promised k.setup i (flat k.log.past) p) e (promises k.setup i (flat k.log.past))

-- and can be made, also after the entry of its judgement
pub can_change : (k : Core) (c : ℕ) (i : Ioctl) (effect : Effect) (answer : ℕ) → IsReady k (Caller c) → plan k.setup i (flat k.log.past) ≡ Short effect answer → CanApply k.setup k.state (memory_of k.setup (by (k.turns + 1) (Caller c) (Judge i) ∷ k.log.past)) i effect
can_change k c i effect answer r e = record {
  is = (state.quiet (by (k.turns + 1) (Caller c) (Judge i)) k.log.past refl r.settled.stands.state).is;
  makes = makes_it k i effect answer e;
  apart = slots_apart k r.settled;
  small = r.settled.limits.user;
}

-- room for it

new_room : (st : StateView) (r : Region) (t : Bool) → (t ≡ true → HasBindRoom st (Some r.fd)) → HasBlockRoom st → HasRoomFor st (new_slot r t)
new_room st r true h b = (h refl, b)
new_room st r false h b = (tt, b)

slot_room : (k : Core) (c : ℕ) (r : Region) (effect : Effect) → IsReady k (Caller c) → (caller_at k.callers c).call ≡ None → next_command (orders_of k) (Caller c) k.log.past ≡ Some (CallCommand (Region2 r)) → effect ≡ new_slot r (wants_file r) → (wants_file r ≡ true → IsSome (file_in k.state.store.files r.fd)) → HasRoomFor k.state effect
slot_room k c r effect x none command e there =
    let own : CanBind k c = (has_room k c x none).1 in
    subst (HasRoomFor k.state) (sym e) (new_room k.state r (wants_file r) (λ t. own r command t (there t)) x.room.blocks)

pub short_room : (k : Core) (c : ℕ) (i : Ioctl) (effect : Effect) → IsReady k (Caller c) → (caller_at k.callers c).call ≡ None → next_command (orders_of k) (Caller c) k.log.past ≡ Some (CallCommand i) → Makes k.setup i (flat k.log.past) effect → cuts effect ≡ false → HasRoomFor k.state effect
short_room k c i (File file pages block) r none command m u = r.room.files
short_room k c i (Attr span kind) r none command m u = r.room.kinds
short_room k c i (Cut file lo hi) r none command m u = absurd (cc)
short_room k c i (Shut file) r none command m u = absurd (cc)
short_room k c (Region2 x) (Slot slot base pages user flags file index) r none command m u =
    slot_room k c x (Slot slot base pages user flags file index) r none command m.effect_is (λ t. is_there k.setup.frames k.state.store (memory_of k.setup k.log.past).stored x.fd r.settled.stands.state.is.store (m.binds t).used)
short_room k c i (Slot slot base pages user flags file index) r none command m u = absurd m
short_room k c i (NoSlot slot) r none command m u = tt
short_room k c i (Move slot base) r none command m u = r.room.blocks
short_room k c i (Mark slot) r none command m u = tt
short_room k c i (Word page word value) r none command m u = tt

-- the state after it

applied_stands : {s : Setup} (t c : ℕ) (effect : Effect) (old new : StateView) (past : List Entry) → StateStands s old past → cuts effect ≡ false → Applied s (memory_of s past) effect new → new.slots.generation ≤ old.slots.generation + 1 → StateStands s new (by t (Caller c) (Change effect) ∷ past)
applied_stands {s = s} t c effect old new past h u a g =
    let e = by t (Caller c) (Change effect) in
    let m = memory_of s past in
    let none : new.freed.list ≡ [] = none_due (flat past).cache (stored_after effect m.stored) new.freed.list h.is.store.cache.apart (same_cache effect (flat past) u) a.frees.due in
    let is : StateIs s new (after_effect effect [] m) = subst (λ (ps : List (ℕ × Folio)). StateIs s new (after_effect effect ps m)) none a.is in
    record {
      is = alike s new (after_effect effect [] m) (memory_of s (e ∷ past)) (record { flat = refl; holds = λ serial. holds_quiet s.vcpus serial e past refl; words = λ serial word. refl; user_words = λ page word. refl }) is;
      generation = let o = h.generation in omega arith;
    }

pub change_turn : (k : Core) (c : ℕ) (i : Ioctl) (effect : Effect) (answer : ℕ) (new : StateView) → IsReady k (Caller c) → (caller_at k.callers c).call ≡ None → Judges (orders_of k) c i k.log.past → plan k.setup i (flat k.log.past) ≡ Short effect answer → Applied k.setup (memory_of k.setup (by (k.turns + 1) (Caller c) (Judge i) ∷ k.log.past)) effect new → new.slots.generation ≤ k.state.slots.generation + 1 → Turned k (changed_now (taken k c) c i effect new (Good answer)) (Caller c) false
change_turn k c i effect answer new r none judges e applied g =
    let st = r.settled.stands in
    let t = k.turns + 1 in
    let j = by t (Caller c) (Judge i) in
    let h = by t (Caller c) (Change effect) in
    let a = by t (Caller c) (Answer (Good answer)) in
    let one = j ∷ k.log.past in
    let two = h ∷ one in
    let u = short_uncut k.setup i (flat k.log.past) effect answer e in
    three_entries k (changed_now (taken k c) c i effect new (Good answer)) (Caller c) (Judge i) (Change effect) (Answer (Good answer)) r
    (record {
      stands = record {
        vcpus = vcpus.quiet a two refl (vcpus.quiet h one refl (vcpus.quiet j k.log.past refl st.vcpus));
        callers = answering.at_once t c i effect (Good answer) (taken_stand k c r) r.actor_is (still_idle k c r none);
        mapping = mapping.quiet a two refl (mapping.quiet h one refl (mapping.quiet j k.log.past refl st.mapping));
        state = state.quiet a two refl (applied_stands t c effect k.state new one (state.quiet j k.log.past refl st.state) u applied g);
      };
      past_is = refl;
      orders = refl;
      turns = refl;
    })
    (judges, owed.may_change (orders_of k) t c i effect answer st.callers r.actor_is none e, owed.may_answer (orders_of k) t c i effect answer st.callers r.actor_is none e)
    (owed.row_short k.setup c i effect answer (Good answer) k.log.past e) refl (refl, u, refl) tt
