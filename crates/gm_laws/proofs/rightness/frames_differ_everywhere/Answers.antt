-- Folios at every position.
use Rattle.gm_laws.proofs.Fronts.{front_lives}
use Rattle.gm_laws.proofs.rightness.frames_differ_everywhere.Goals as goal

pub returns : goal.returns
returns c = record { now = λ o past r. (front_lives o past r).0; before = λ o e front past r s. (front_lives o past r).1 e front s }
