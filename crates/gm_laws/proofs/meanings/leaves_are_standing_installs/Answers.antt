-- Leaves stand since their Install.
use Rattle.gm_laws.proofs.Readings.{leaves_stand}
use Rattle.gm_laws.proofs.meanings.leaves_are_standing_installs.Goals as goal

pub returns : goal.returns
returns c = leaves_stand
