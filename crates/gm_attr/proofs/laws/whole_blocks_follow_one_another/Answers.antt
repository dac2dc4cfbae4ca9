use Rattle.gm_attr.proofs.Renewing.{lies_in_is}
use Rattle.gm_attr.proofs.laws.whole_blocks_follow_one_another.Goals as goal

pub returns : goal.returns
returns c = lies_in_is
