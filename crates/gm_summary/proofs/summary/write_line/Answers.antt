use Rattle.gm_io.proofs.Adding.{Wrote_put, Wrote_fails}
use Rattle.gm_summary.proofs.summary.write_line.Goals as goal

pub returns-in-Err-clause-wrote : goal.returns-in-Err-clause-wrote
returns-in-Err-clause-wrote g c = Wrote_fails _ _ _ _ _ _ _ (rw c.new-out.ensures at (c.in-Err.ensures {u = tt}))

pub returns-clause-wrote : goal.returns-clause-wrote
returns-clause-wrote g c = Wrote_put _ _ _ _ _ _ _ _ tt _ (rw c.new-out.ensures at (c.in-Ok.ensures {u = tt})) c.put.ensures.same c.put.ensures.empty c.put.ensures.grows
