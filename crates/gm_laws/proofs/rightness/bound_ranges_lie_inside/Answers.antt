-- Bound ranges at every position.
use Rattle.gm_laws.proofs.BoundRanges.{ranges_now, ranges_then}
use Rattle.gm_laws.proofs.rightness.bound_ranges_lie_inside.Goals as goal

pub returns : goal.returns
returns c = record { now = ranges_now; before = ranges_then }
