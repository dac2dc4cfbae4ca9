use Rattle.gm_history.specs.Whats.{punch_of}
use Rattle.gm_history.proofs.calls.read_punch.Goals as goal

pub returns : goal.returns
unfolding punch_of
returns c = rw (c.in_ok-fd.ensures, c.in_ok-offset.ensures, c.in_ok-length.ensures) c.ended.ensures
