-- A blocked caller.
use Rattle.gm_determined.proofs.Callers.{blocked_silent}
use Rattle.gm_determined.proofs.exactly.blocked_callers_write_nothing.Goals as goal

pub returns : goal.returns
returns c = blocked_silent
