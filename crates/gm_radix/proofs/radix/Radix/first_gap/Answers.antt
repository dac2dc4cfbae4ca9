use Rattle.std.specs.Prelude.{Some}
use Rattle.gm_radix.proofs.Kept.{entries_of-rises}
use Rattle.gm_radix.proofs.Lists.{gap_from-first}
use Rattle.gm_radix.proofs.radix.Radix.first_gap.Goals as goal

pub returns-in-Some-clause-gap : goal.returns-in-Some-clause-gap
returns-in-Some-clause-gap g c =
    rw (c.first_gap.ensures.gap, ← c.self.view_is, c.in-Some.is) (gap_from-first c.args.index _ _ _ (entries_of-rises _ (Some c.in-Some.key) (rw c.in-Some.is at c.self.invariant.rest)))
