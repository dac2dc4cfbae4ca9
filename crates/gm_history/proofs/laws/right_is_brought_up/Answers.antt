use Rattle.gm_history.proofs.RightUp.{right_up}
use Rattle.gm_history.proofs.laws.right_is_brought_up.Goals as goal

pub returns : goal.returns
returns c = right_up
