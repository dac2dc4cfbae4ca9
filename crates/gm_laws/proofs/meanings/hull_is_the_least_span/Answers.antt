-- The least span over the begun spans.
use Rattle.gm_laws.proofs.MoreReadings.{hull_is_least}
use Rattle.gm_laws.proofs.meanings.hull_is_the_least_span.Goals as goal

pub returns : goal.returns
returns c = hull_is_least
