use Rattle.gm_ioctl.proofs.Ranges.{passed_in_range}
use Rattle.gm_ioctl.proofs.laws.arguments_that_pass_are_in_range.Goals as goal

pub returns : goal.returns
returns c = passed_in_range
