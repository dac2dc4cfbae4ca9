use Rattle.gm_radix.proofs.Kept.{entries_of-rises}
use Rattle.gm_radix.proofs.radix.Radix.get.Goals as goal

pub returns-clause-rises : goal.returns-clause-rises
returns-clause-rises g c = rw (← c.self.view_is) (entries_of-rises _ _ c.self.invariant.rest)
