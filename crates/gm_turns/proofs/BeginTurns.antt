-- A bracket begins, with the mark of the slot that it deletes or moves.
use Rattle.std.proofs.Common.{◌≡◌, ℕ, ◌+◌, ◌^◌, ◌-◌, ◌<◌, List, ◌∷◌, false, set, Option, Some, None, IsSome, arith, subst, sym, ◌∙◌, ap, refl}
use Rattle.gm_base.specs.declared.numbers.TheConstants.{COUNTER_LIMIT}
use Rattle.gm_base.specs.Extent.{Extent}
use Rattle.gm_base.specs.declared.values.Actor.TheVariants.{Caller}
use Rattle.gm_base.specs.declared.values.Setup.{Setup}
use Rattle.gm_callers.proofs.BracketTurns as owed
use Rattle.gm_callers.proofs.Moves as moves
use Rattle.gm_callers.specs.Callers.{begun, caller_at, spans_in}
use Rattle.gm_callers.specs.Stand.{IsAt, IsJudged}
use Rattle.gm_callers.specs.declared.caller.InProgress.{InProgress}
use Rattle.gm_calls.specs.declared.judged.Judged.{Judged}
use Rattle.gm_calls.specs.declared.judged.Judged.TheVariants as judgement
use Rattle.gm_flat.specs.Calls.{Bracketed, Plan, mark_of, plan}
use Rattle.gm_flat.specs.Replay.{flat}
use Rattle.gm_flat.specs.RightLives.{plan_of}
use Rattle.gm_flat.specs.Roomy.{Roomy}
use Rattle.gm_flat.specs.Slots.{slot_by_id}
use Rattle.gm_flat.specs.declared.effect.Effect.{Effect}
use Rattle.gm_flat.specs.declared.effect.Effect.TheVariants.{Mark}
use Rattle.gm_flat.specs.declared.entry.Entry.{Entry}
use Rattle.gm_flat.specs.declared.entry.What.TheVariants.{Begin, Change}
use Rattle.gm_flat.specs.declared.views.SlotView.{SlotView}
use Rattle.gm_laws.proofs.Counted.{asked_le}
use Rattle.gm_laws.proofs.Kit.{by}
use Rattle.gm_laws.proofs.OpenBrackets.{open_most}
use Rattle.gm_laws.proofs.RowsSeen.{sees_row-now}
use Rattle.gm_laws.proofs.RuledIsRight.{right}
use Rattle.gm_laws.proofs.Touches.{good}
use Rattle.gm_mapping.proofs.Quiet as mapping
use Rattle.gm_mapping.proofs.Spanning.{opened, plus_one}
use Rattle.gm_mapping.specs.Opened.{Opened}
use Rattle.gm_mmu.specs.Served.{Serving}
use Rattle.gm_state.proofs.Alike.{alike}
use Rattle.gm_state.proofs.SlotMarks.{mark_absent, mark_stands, mark_there, marked_exists}
use Rattle.gm_state.specs.Marked.{mark_slot, with_mark}
use Rattle.gm_state.specs.Views.{StateView}
use Rattle.gm_turns.proofs.OneTurn.{one_entry, two_entries}
use Rattle.gm_turns.proofs.StateQuiet as state
use Rattle.gm_turns.specs.Brackets.{slot_by, slot_to_mark}
use Rattle.gm_turns.specs.Ready.{IsReady, Turned, noted}
use Rattle.gm_turns.specs.Room.{orders_of}
use Rattle.gm_turns.specs.Standing.{StateStands, memory_of}
use Rattle.gm_turns.specs.declared.parts.Core.{Core}
use Rattle.gm_vcpus.proofs.Holders.{holds_quiet}
use Rattle.gm_vcpus.proofs.Stays as vcpus

-- counters

pub count_fits : (k : Core) (c : ℕ) → IsReady k (Caller c) → k.mmu.progress.count < 2 ^ 32 - 1
count_fits k c r =
    let m = open_most k.setup.callers k.log.past (good (orders_of k) k.log.past r.settled.ruled.follows) in
    let l = r.settled.limits.callers in
    let e = r.settled.stands.mapping.count_is in
    omega arith

pub asked_fits : (k : Core) (c : ℕ) → IsReady k (Caller c) → k.mmu.requests.asked < COUNTER_LIMIT
asked_fits k c r = let l = asked_le k.log.past in let e = r.settled.stands.mapping.asked_is in let s = r.room.short in omega arith

pub generation_fits : (k : Core) (c : ℕ) → IsReady k (Caller c) → k.state.slots.generation < COUNTER_LIMIT
generation_fits k c r = let g = r.settled.stands.state.generation in let s = r.room.short in omega arith

-- the slot that is marked

-- the mark of a call by its effect
pub mark_by : (effect : Effect) (o : Option InProgress) → IsAt effect None o → slot_to_mark o ≡ mark_slot effect
mark_by effect None at = absurd at
mark_by effect (Some x) at = ap (λ (j : Judged). slot_by j) at.0

planned : (effect : Effect) (spans : Option Roomy) (p : Plan) → IsJudged (judgement.Bracket effect) spans p → (xs : List Extent) × (p ≡ Bracketed effect xs)
planned effect (Some spans) p h = (spans.list, h)
planned effect None p h = absurd h

-- it exists
pub slot_there : (k : Core) (c : ℕ) (effect : Effect) (slot : ℕ) → IsReady k (Caller c) → IsAt effect None (caller_at k.callers c).call → mark_slot effect ≡ Some slot → IsSome (slot_by_id k.state.slots.slots slot)
slot_there k c effect slot r at h =
    let g = moves.in_bracket c effect None r.settled.stands.callers r.actor_is at in
    let now : plan k.setup g.y.ioctl (flat k.log.past) ≡ plan_of k.setup g.y k.log.past = sees_row-now (orders_of k) k.log.past (right (orders_of k) k.log.past r.settled.ruled) c g.y g.call_is g.stage.unmade in
    let p = planned effect g.x.spans (plan_of k.setup g.y k.log.past) g.stage.is_judged in
    subst (λ (xs : List SlotView). IsSome (slot_by_id xs slot)) (sym r.settled.stands.state.is.slots_are) (marked_exists k.setup g.y.ioctl (flat k.log.past) effect p.0 slot (now ∙ p.1) h)

-- the state after it is marked
state_marked : {s : Setup} {st : StateView} (t c slot : ℕ) (past : List Entry) → StateStands s st past → StateStands s (with_mark slot st) (by t (Caller c) (Change (Mark slot)) ∷ past)
state_marked {s = s} {st = st} t c slot past h = record {
  is = alike s (with_mark slot st) _ (memory_of s (by t (Caller c) (Change (Mark slot)) ∷ past)) (record { flat = refl; holds = λ serial. holds_quiet s.vcpus serial (by t (Caller c) (Change (Mark slot))) past refl; words = λ serial word. refl; user_words = λ page word. refl }) (mark_stands s st (memory_of s past) slot h.is);
  generation = let g = h.generation in omega arith;
}

-- the core after the entry that begins the bracket

abbrev pub begun_core : Core → ℕ → Serving → ℕ → Core
begun_core k c m r = noted (record k { callers = set k.callers c (begun (caller_at k.callers c) r); mmu = m }) (Caller c) (Begin (spans_in (caller_at k.callers c).call))

pub begin_turn : (k : Core) (c : ℕ) (effect : Effect) (m : Serving) (n : ℕ) → IsReady k (Caller c) → IsAt effect None (caller_at k.callers c).call → Opened k.mmu m (spans_in (caller_at k.callers c).call).list → n ≡ k.mmu.requests.asked + 1 → mark_slot effect ≡ None → Turned k (begun_core k c m n) (Caller c) false
begin_turn k c effect m n r at o number none =
    let st = r.settled.stands in
    let t = k.turns + 1 in
    let spans = spans_in (caller_at k.callers c).call in
    let e = by t (Caller c) (Begin spans) in
    one_entry k (begun_core k c m n) (Caller c) (Begin spans) false r
    (record {
      stands = record {
        vcpus = vcpus.quiet e k.log.past refl st.vcpus;
        callers = moves.began t c n effect st.callers r.actor_is at (number ∙ plus_one _ _ st.mapping.asked_is);
        mapping = opened t c spans m o st.mapping;
        state = state.quiet e k.log.past refl st.state;
      };
      past_is = refl;
      orders = refl;
      turns = refl;
    })
    (owed.may_begin (orders_of k) c effect st.callers r.actor_is at) (owed.row_begin c effect spans st.callers r.actor_is at (mark_absent effect none)) refl refl tt

pub mark_turn : (k : Core) (c : ℕ) (effect : Effect) (m : Serving) (n slot : ℕ) → IsReady k (Caller c) → IsAt effect None (caller_at k.callers c).call → Opened k.mmu m (spans_in (caller_at k.callers c).call).list → n ≡ k.mmu.requests.asked + 1 → mark_slot effect ≡ Some slot → Turned k (noted (record (begun_core k c m n) { state = with_mark slot k.state }) (Caller c) (Change (Mark slot))) (Caller c) false
mark_turn k c effect m n slot r at o number is =
    let st = r.settled.stands in
    let t = k.turns + 1 in
    let spans = spans_in (caller_at k.callers c).call in
    let b = by t (Caller c) (Begin spans) in
    let e = by t (Caller c) (Change (Mark slot)) in
    let past = b ∷ k.log.past in
    let mark : mark_of effect ≡ Some (Mark slot) = mark_there effect slot is in
    two_entries k (noted (record (begun_core k c m n) { state = with_mark slot k.state }) (Caller c) (Change (Mark slot))) (Caller c) (Begin spans) (Change (Mark slot)) r
    (record {
      stands = record {
        vcpus = vcpus.quiet e past refl (vcpus.quiet b k.log.past refl st.vcpus);
        callers = owed.marked t c effect (Mark slot) mark (moves.began t c n effect st.callers r.actor_is at (number ∙ plus_one _ _ st.mapping.asked_is));
        mapping = mapping.quiet e past refl (opened t c spans m o st.mapping);
        state = state_marked t c slot past (state.quiet b k.log.past refl st.state);
      };
      past_is = refl;
      orders = refl;
      turns = refl;
    })
    (owed.may_begin (orders_of k) c effect st.callers r.actor_is at, owed.may_mark (orders_of k) t c effect (Mark slot) st.callers r.actor_is at mark) (owed.row_mark c effect (Mark slot) spans st.callers r.actor_is at mark) refl (refl, refl) tt
