-- Where no bracket is open, a touch has what is named.
use Rattle.gm_laws.proofs.QuietTouches.{quiet_touches}
use Rattle.gm_laws.proofs.rightness.quiet_touches.Goals as goal

pub returns : goal.returns
returns c = quiet_touches
