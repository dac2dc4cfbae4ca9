use Rattle.gm_history.specs.Lines.{machine_of}
use Rattle.gm_history.proofs.history.read_machine.Goals as goal

pub returns : goal.returns
unfolding machine_of
returns c = rw (c.in_ok-frames.ensures, c.in_ok-user.ensures, c.in_ok-vcpus.ensures, c.in_ok-callers.ensures, c.in_ok-huge.ensures) c.ended.ensures
