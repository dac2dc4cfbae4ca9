-- A command more leaves a right history right.
use Rattle.gm_turns.proofs.Longer.{right_longer}
use Rattle.gm_machine.proofs.laws.pushes_keep_right.Goals as goal

pub returns : goal.returns
returns c = right_longer
