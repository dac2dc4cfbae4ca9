-- An End since a position.
use Rattle.gm_laws.proofs.MoreReadings.{ended_is_end}
use Rattle.gm_laws.proofs.meanings.ended_is_an_end.Goals as goal

pub returns : goal.returns
returns c = ended_is_end
