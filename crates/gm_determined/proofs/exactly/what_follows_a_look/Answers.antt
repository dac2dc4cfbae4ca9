-- After a Look.
use Rattle.gm_determined.proofs.AfterLook.{look_followed}
use Rattle.gm_determined.proofs.exactly.what_follows_a_look.Goals as goal

pub returns : goal.returns
returns c = look_followed
