-- Where no slot was ever marked, a touch has what is named.
use Rattle.gm_laws.proofs.QuietTouches.{quiet_names}
use Rattle.gm_laws.proofs.rightness.quiet_names.Goals as goal

pub returns : goal.returns
returns c = quiet_names
