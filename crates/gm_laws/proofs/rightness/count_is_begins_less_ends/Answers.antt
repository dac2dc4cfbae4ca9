-- The count is the Begins less the Ends.
use Rattle.gm_laws.proofs.RightIsRuled.{right_count}
use Rattle.gm_laws.proofs.rightness.count_is_begins_less_ends.Goals as goal

pub returns : goal.returns
returns c = right_count
