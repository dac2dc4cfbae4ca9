use Rattle.gm_history.specs.Whats.{fault_of}
use Rattle.gm_history.proofs.faults.read_fault.Goals as goal

pub returns : goal.returns
unfolding fault_of
returns c = rw (c.in_ok-flags.ensures, c.in_ok-gpa.ensures, c.in_ok-last.ensures) c.ended.ensures
