use Rattle.gm_history.specs.Whats.{region_of}
use Rattle.gm_history.proofs.calls.read_region.Goals as goal

pub returns : goal.returns
unfolding region_of
returns c = rw (c.in_ok-slot.ensures, c.in_ok-flags.ensures, c.in_ok-gpa.ensures, c.in_ok-size.ensures, c.in_ok-user.ensures, c.in_ok-fd.ensures, c.in_ok-offset.ensures) c.ended.ensures
