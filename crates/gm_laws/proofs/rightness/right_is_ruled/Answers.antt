-- A right history follows the tables.
use Rattle.gm_laws.proofs.RightIsRuled.{ruled}
use Rattle.gm_laws.proofs.rightness.right_is_ruled.Goals as goal

pub returns : goal.returns
returns c = ruled
