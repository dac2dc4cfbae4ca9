-- The last move is an Enter.
use Rattle.gm_laws.proofs.Readings.{inside_is_enter}
use Rattle.gm_laws.proofs.meanings.inside_is_the_last_enter.Goals as goal

pub returns : goal.returns
returns c = inside_is_enter
