-- The last Flush.
use Rattle.gm_laws.proofs.Readings.{flushed_is_last}
use Rattle.gm_laws.proofs.meanings.flushed_is_the_last_flush.Goals as goal

pub returns : goal.returns
returns c = flushed_is_last
