-- A Begin since the last Flush.
use Rattle.gm_laws.proofs.Readings.{pending_is_begin}
use Rattle.gm_laws.proofs.meanings.pending_is_a_begin_since.Goals as goal

pub returns : goal.returns
returns c = pending_is_begin
