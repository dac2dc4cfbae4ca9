-- The range is the fold of the hull over the spans, and the fold is the least.
use Rattle.gm_inval.proofs.Least.{widen_all-least}
use Rattle.gm_inval.proofs.inval.Inval.begin.Goals as goal

pub returns-clause-least : goal.returns-clause-least
returns-clause-least c = rw (c.widened-self-inside.ensures, c.hull.ensures) (widen_all-least _ _)
