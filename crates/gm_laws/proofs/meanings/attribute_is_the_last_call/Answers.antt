-- The last attribute call that covers the page.
use Rattle.gm_laws.proofs.MoreReadings.{attribute_is_last}
use Rattle.gm_laws.proofs.meanings.attribute_is_the_last_call.Goals as goal

pub returns : goal.returns
returns c = attribute_is_last
