use Rattle.gm_turns.proofs.FaultTurns.{again_turn}
use Rattle.gm_turns.proofs.faults.again.Goals as goal

pub returns : goal.returns
returns c = rw (c.note.ensures, c.settle.ensures) (again_turn c.args.core.now c.args.v c.requires.ready c.requires.looked c.requires.may)
