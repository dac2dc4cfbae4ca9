use Rattle.gm_file.proofs.Sharing.{meets_is}
use Rattle.gm_file.proofs.laws.meeting_is_meets.Goals as goal

pub returns : goal.returns
returns c = meets_is
