use Rattle.gm_turns.proofs.GuestTouches.{miss_turn}
use Rattle.gm_turns.proofs.touches.miss.Goals as goal

pub returns : goal.returns
returns c = rw (c.note.ensures, c.leave.ensures, c.miss.ensures) (miss_turn c.args.core.now c.args.v c.args.access c.position-after.result c.position-after.ensures.at c.requires.ready c.requires.no_fault c.requires.is_inside c.requires.command c.requires.unserved)
