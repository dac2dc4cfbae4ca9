use Rattle.gm_turns.proofs.GuestTurns.{leave_turn}
use Rattle.gm_turns.proofs.guest.leave.Goals as goal

pub returns : goal.returns
returns c = rw (c.note.ensures, c.leave-2.ensures, c.leave.ensures) (leave_turn c.args.core.now c.args.v c.requires.ready c.requires.present c.requires.none_left)
