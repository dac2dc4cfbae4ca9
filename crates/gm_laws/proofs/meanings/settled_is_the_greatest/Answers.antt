-- The greatest position after an answered change.
use Rattle.gm_laws.proofs.MoreReadings.{settled_is_least, settled_is_one}
use Rattle.gm_laws.proofs.meanings.settled_is_the_greatest.Goals as goal

pub returns : goal.returns
returns c = record { bound = settled_is_least; reached = settled_is_one }
