-- Right histories are plain.
use Rattle.gm_text.proofs.RightIsPlain.{right_is_plain as plain}
use Rattle.gm_text.proofs.laws.right_is_plain.Goals as goal

pub returns : goal.returns
returns c = plain
