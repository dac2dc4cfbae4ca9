-- The turns of a bracket.
use Rattle.std.proofs.Common.{ℕ, ◌+◌, ◌-◌, ◌<◌, ◌≤◌, ◌∷◌, false, set, Some, arith, refl}
use Rattle.gm_base.specs.declared.numbers.TheConstants.{COUNTER_LIMIT}
use Rattle.gm_base.specs.declared.values.Actor.TheVariants.{Caller}
use Rattle.gm_callers.proofs.Answering as answering
use Rattle.gm_callers.proofs.BracketTurns as owed
use Rattle.gm_callers.proofs.Moves as moves
use Rattle.gm_callers.proofs.NextCommand.{ended_le}
use Rattle.gm_callers.specs.Callers.{answered, caller_at, request_in, stepped}
use Rattle.gm_callers.specs.Stand.{IsAt}
use Rattle.gm_calls.specs.declared.call.Step.TheVariants as step
use Rattle.gm_flat.specs.Invalidation.{count}
use Rattle.gm_flat.specs.declared.effect.Effect.{Effect}
use Rattle.gm_flat.specs.declared.effect.Reply.TheVariants.{Good}
use Rattle.gm_flat.specs.declared.entry.What.TheVariants.{Acked, Answer, End}
use Rattle.gm_laws.proofs.Counted.{ends_le}
use Rattle.gm_laws.proofs.Kit.{by}
use Rattle.gm_laws.proofs.MoreReadings.{open_count}
use Rattle.gm_laws.proofs.Touches.{good}
use Rattle.gm_mapping.proofs.Quiet as mapping
use Rattle.gm_mapping.proofs.Spanning.{closed}
use Rattle.gm_mmu.specs.Served.{Serving}
use Rattle.gm_tlb.specs.Requests.{IsDoneByAll}
use Rattle.gm_turns.proofs.Blocking.{has_flushed}
use Rattle.gm_turns.proofs.OneTurn.{one_entry, two_entries}
use Rattle.gm_turns.proofs.StateQuiet as state
use Rattle.gm_turns.specs.Ready.{IsReady, Turned, noted}
use Rattle.gm_turns.specs.Room.{orders_of}
use Rattle.gm_turns.specs.declared.parts.Core.{Core}
use Rattle.gm_vcpus.proofs.Stays as vcpus

pub ack_turn : (k : Core) (c : ℕ) (effect : Effect) → IsReady k (Caller c) → IsAt effect (Some step.Begin) (caller_at k.callers c).call → IsDoneByAll k.mmu.requests (request_in (caller_at k.callers c).call) → Turned k (noted (record k { callers = set k.callers c (stepped (caller_at k.callers c) step.Acked) }) (Caller c) Acked) (Caller c) false
ack_turn k c effect r at all =
    let st = r.settled.stands in
    let e = by (k.turns + 1) (Caller c) Acked in
    one_entry k (noted (record k { callers = set k.callers c (stepped (caller_at k.callers c) step.Acked) }) (Caller c) Acked) (Caller c) Acked false r
    (record {
      stands = record {
        vcpus = vcpus.quiet e k.log.past refl st.vcpus;
        callers = moves.acked (k.turns + 1) c effect st.callers r.actor_is at;
        mapping = mapping.quiet e k.log.past refl st.mapping;
        state = state.quiet e k.log.past refl st.state;
      };
      past_is = refl;
      orders = refl;
      turns = refl;
    })
    (owed.may_ack (orders_of k) c effect st.callers r.actor_is at (λ v i. has_flushed k (request_in (caller_at k.callers c).call) v r.settled (all v) i)) refl refl refl tt

-- it ends

-- the memory unit with one bracket fewer in progress
abbrev pub with_end : Serving → Serving
with_end m = record m { progress = record { seq = m.progress.seq + 1; count = m.progress.count - 1; kept = m.progress.kept } }

-- a bracket that may end counts
pub one_open : (k : Core) (c : ℕ) (effect : Effect) → IsReady k (Caller c) → IsAt effect (Some step.Change) (caller_at k.callers c).call → 1 ≤ count k.log.past
one_open k c effect r at = open_count (orders_of k) k.log.past (good (orders_of k) k.log.past r.settled.ruled.follows) c (owed.may_end (orders_of k) c effect r.settled.stands.callers r.actor_is at)

pub end_turn : (k : Core) (c : ℕ) (effect : Effect) → IsReady k (Caller c) → IsAt effect (Some step.Change) (caller_at k.callers c).call → Turned k (noted (record (noted (record k { mmu = with_end k.mmu }) (Caller c) End) { callers = set k.callers c (answered (caller_at k.callers c)) }) (Caller c) (Answer (Good 0))) (Caller c) false
end_turn k c effect r at =
    let st = r.settled.stands in
    let t = k.turns + 1 in
    let e = by t (Caller c) End in
    let a = by t (Caller c) (Answer (Good 0)) in
    let past = e ∷ k.log.past in
    let one = one_open k c effect r at in
    two_entries k (noted (record (noted (record k { mmu = with_end k.mmu }) (Caller c) End) { callers = set k.callers c (answered (caller_at k.callers c)) }) (Caller c) (Answer (Good 0))) (Caller c) End (Answer (Good 0)) r
    (record {
      stands = record {
        vcpus = vcpus.quiet a past refl (vcpus.quiet e k.log.past refl st.vcpus);
        callers = answering.ended t c (Good 0) st.callers r.actor_is;
        mapping = mapping.quiet a past refl (closed t c (omega arith) st.mapping);
        state = state.quiet a past refl (state.quiet e k.log.past refl st.state);
      };
      past_is = refl;
      orders = refl;
      turns = refl;
    })
    (owed.may_end (orders_of k) c effect st.callers r.actor_is at, owed.may_answer (orders_of k) t c effect st.callers r.actor_is at) refl refl (refl, refl) tt

-- how many commands the caller has ended, and how many brackets have
pub ended_fits : (k : Core) (c : ℕ) → IsReady k (Caller c) → (caller_at k.callers c).ended < 2305843009213693952
ended_fits k c r = let l = ended_le c r.settled.stands.callers r.actor_is in let s = r.room.short in omega arith

pub seq_fits : (k : Core) (c : ℕ) → IsReady k (Caller c) → k.mmu.progress.seq < COUNTER_LIMIT
seq_fits k c r = let l = ends_le k.log.past in let e = r.settled.stands.mapping.seq_is in let s = r.room.short in omega arith
