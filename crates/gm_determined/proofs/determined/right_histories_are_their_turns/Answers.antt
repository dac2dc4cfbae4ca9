-- A right history is its turns.
use Rattle.gm_determined.proofs.Bare.{its_turns}
use Rattle.gm_determined.proofs.determined.right_histories_are_their_turns.Goals as goal

pub returns : goal.returns
returns c = its_turns
