use Rattle.gm_file.proofs.Sharing.{meets_range_is}
use Rattle.gm_file.proofs.laws.meeting_is_sharing_an_index.Goals as goal

pub returns : goal.returns
returns c = meets_range_is
