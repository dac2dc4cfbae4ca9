use Rattle.gm_turns.proofs.CallTurns.{leave_turn}
use Rattle.gm_turns.proofs.calls.leave.Goals as goal

pub returns : goal.returns
returns c = rw (c.note.ensures, c.leave.ensures) (leave_turn c.args.core.now c.args.c c.requires.ready c.requires.present c.requires.none_left)
