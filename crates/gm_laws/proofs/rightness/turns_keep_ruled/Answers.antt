-- A whole turn keeps a history ruled.
use Rattle.gm_laws.proofs.TurnsKeep.{turn_ruled}
use Rattle.gm_laws.proofs.rightness.turns_keep_ruled.Goals as goal

pub returns : goal.returns
returns c = turn_ruled
