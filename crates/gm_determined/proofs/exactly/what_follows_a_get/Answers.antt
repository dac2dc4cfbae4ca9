-- After a Get.
use Rattle.gm_determined.proofs.AfterFault.{get_followed}
use Rattle.gm_determined.proofs.exactly.what_follows_a_get.Goals as goal

pub returns : goal.returns
returns c = get_followed
