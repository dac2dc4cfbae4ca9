use Rattle.gm_history.specs.Whats.{look_of}
use Rattle.gm_history.proofs.faults.read_look.Goals as goal

pub returns : goal.returns
unfolding look_of
returns c = rw (c.in_ok-at.ensures, c.in_ok-slot.ensures, c.in_ok-attr.ensures, c.in_ok-file.ensures) c.ended.ensures
