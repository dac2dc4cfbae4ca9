-- The parts of the invariant at every position.
use Rattle.gm_laws.proofs.Parts.{invariant_now, invariant_then}
use Rattle.gm_laws.proofs.rightness.invariant_holds.Goals as goal

pub returns : goal.returns
returns c = record { now = invariant_now; before = invariant_then }
