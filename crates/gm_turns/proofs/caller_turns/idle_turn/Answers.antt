use Rattle.gm_callers.proofs.Waits.{unblocked_ending}
use Rattle.gm_turns.proofs.ActorTurns.{caller_taken}
use Rattle.gm_turns.specs.Room.{orders_of}
use Rattle.gm_turns.proofs.caller_turns.idle_turn.Goals as goal

pub returns-in-None : goal.returns-in-None
returns-in-None c =
    let k = c.args.core.now in
    caller_taken k _ c.args.c c.requires.ready c.requires.present (unblocked_ending (orders_of k) c.args.c c.requires.ready.settled.stands.callers c.requires.ready.actor_is c.requires.idle c.in-None.ensures) c.leave.ensures
