-- The rows of calls in progress.
use Rattle.gm_laws.proofs.RowsSeen.{calls_go_on, sees_row-now, sees_row-then}
use Rattle.gm_laws.proofs.rightness.calls_see_their_rows.Goals as goal

pub returns : goal.returns
returns c = record { now = sees_row-now; before = sees_row-then; go_on = calls_go_on }
