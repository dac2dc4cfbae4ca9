-- A touch has what is named at its own position.
use Rattle.gm_laws.proofs.RightIsRuled.{right_now}
use Rattle.gm_laws.proofs.rightness.touches_are_named_now.Goals as goal

pub returns : goal.returns
returns c = right_now
