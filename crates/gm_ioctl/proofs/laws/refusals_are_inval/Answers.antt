use Rattle.gm_ioctl.proofs.Refusals.{refusal_is_inval}
use Rattle.gm_ioctl.proofs.laws.refusals_are_inval.Goals as goal

pub returns : goal.returns
returns c = refusal_is_inval
