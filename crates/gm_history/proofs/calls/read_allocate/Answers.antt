use Rattle.gm_history.specs.Whats.{allocate_of}
use Rattle.gm_history.proofs.calls.read_allocate.Goals as goal

pub returns : goal.returns
unfolding allocate_of
returns c = rw (c.in_ok-fd.ensures, c.in_ok-offset.ensures, c.in_ok-length.ensures) c.ended.ensures
