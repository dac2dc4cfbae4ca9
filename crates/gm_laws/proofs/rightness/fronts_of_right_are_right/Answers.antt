-- What stands before a turn is right.
use Rattle.gm_laws.proofs.Fronts.{front_right}
use Rattle.gm_laws.proofs.rightness.fronts_of_right_are_right.Goals as goal

pub returns : goal.returns
returns c = front_right
