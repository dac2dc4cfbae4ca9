use Rattle.std.proofs.Common.{sym, ◌∙◌}
use Rattle.gm_table.proofs.Installs.{without-block, without-plain}
use Rattle.gm_table.proofs.table.first_met.Goals as goal

pub returns-in-Some-clause-leaves : goal.returns-in-Some-clause-leaves
returns-in-Some-clause-leaves c hi =
    rw c.block_start-first.ensures
    (without-block c.args.page hi c.in-Some.field-0 _ c.requires (rw c.block_start-first.ensures at (sym c.leaf_at.ensures ∙ c.in-Some.is)))

pub returns-in-None-clause-leaves : goal.returns-in-None-clause-leaves
returns-in-None-clause-leaves c hi = without-plain c.args.page hi _ c.requires (rw c.block_start-first.ensures at (sym c.leaf_at.ensures ∙ c.in-None.is))
