-- Turns without spare room.
use Rattle.gm_determined.proofs.Stamped.{turn_bare}
use Rattle.gm_determined.proofs.determined.turns_need_no_spare_room.Goals as goal

pub returns : goal.returns
returns c = turn_bare
