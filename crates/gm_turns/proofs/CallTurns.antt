-- The turns of a caller outside a bracket.
use Rattle.std.proofs.Common.{◌≡◌, ℕ, ◌+◌, false, set, None, refl}
use Rattle.gm_base.specs.declared.values.Actor.TheVariants.{Caller}
use Rattle.gm_callers.proofs.Moves as moves
use Rattle.gm_callers.proofs.NextCommand.{may_leave}
use Rattle.gm_callers.specs.Callers.{caller_at, leaving}
use Rattle.gm_flat.specs.RightOrder.{next_command}
use Rattle.gm_flat.specs.declared.entry.What.TheVariants.{Gone}
use Rattle.gm_laws.proofs.Kit.{by}
use Rattle.gm_mapping.proofs.Quiet as mapping
use Rattle.gm_turns.proofs.OneTurn.{one_entry}
use Rattle.gm_turns.proofs.StateQuiet as state
use Rattle.gm_turns.specs.Ready.{IsReady, Turned, noted}
use Rattle.gm_turns.specs.Room.{orders_of}
use Rattle.gm_turns.specs.declared.parts.Core.{Core}
use Rattle.gm_vcpus.proofs.Stays as vcpus

pub leave_turn : (k : Core) (c : ℕ) → IsReady k (Caller c) → (caller_at k.callers c).gone ≡ false → next_command (orders_of k) (Caller c) k.log.past ≡ None → Turned k (noted (record k { callers = set k.callers c (leaving (caller_at k.callers c)) }) (Caller c) Gone) (Caller c) false
leave_turn k c r present none =
    let st = r.settled.stands in
    let e = by (k.turns + 1) (Caller c) Gone in
    one_entry k (noted (record k { callers = set k.callers c (leaving (caller_at k.callers c)) }) (Caller c) Gone) (Caller c) Gone false r
    (record {
      stands = record {
        vcpus = vcpus.quiet e k.log.past refl st.vcpus;
        callers = moves.leaves (k.turns + 1) c st.callers r.actor_is;
        mapping = mapping.quiet e k.log.past refl st.mapping;
        state = state.quiet e k.log.past refl st.state;
      };
      past_is = refl;
      orders = refl;
      turns = refl;
    })
    (may_leave (orders_of k) c st.callers r.actor_is none present) refl refl refl tt
