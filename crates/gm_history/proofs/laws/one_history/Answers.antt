use Rattle.gm_history.proofs.Judging.{one_history}
use Rattle.gm_history.proofs.laws.one_history.Goals as goal

pub returns : goal.returns
returns c = λ bytes g h p q. one_history bytes g h p q
