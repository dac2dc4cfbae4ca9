use Rattle.gm_turns.proofs.FaultTurns.{exit_turn, few_ended}
use Rattle.gm_turns.proofs.faults.exit.Goals as goal

pub exit-requires-clause-bound : goal.exit-requires-clause-bound
exit-requires-clause-bound c = few_ended c.args.core.now c.args.v c.requires.ready

pub returns : goal.returns
returns c = rw (c.note.ensures, c.exit.ensures) (exit_turn c.args.core.now c.args.v c.args.why c.requires.ready c.requires.looked c.requires.may)
