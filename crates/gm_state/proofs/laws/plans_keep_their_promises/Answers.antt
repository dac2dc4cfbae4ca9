use Rattle.gm_state.proofs.Promises.{promises}
use Rattle.gm_state.proofs.laws.plans_keep_their_promises.Goals as goal

pub returns : goal.returns
returns c = promises
