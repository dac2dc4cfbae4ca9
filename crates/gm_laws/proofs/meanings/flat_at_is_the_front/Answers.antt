-- The state at a position, read off the entries before it.
use Rattle.gm_laws.proofs.FlatFronts.{flat_of_front}
use Rattle.gm_laws.proofs.meanings.flat_at_is_the_front.Goals as goal

pub returns : goal.returns
returns c = flat_of_front
