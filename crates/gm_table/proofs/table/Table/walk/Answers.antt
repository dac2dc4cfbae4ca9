use Rattle.std.proofs.Common.{sym, ◌∙◌, ap, ℕ}
use Rattle.gm_table.specs.Kept.{leaves_of}
use Rattle.gm_table.specs.Leaves.{Mapped, leaf_over}
use Rattle.gm_table.proofs.Members.{over_found, over_last, lie_apart}
use Rattle.gm_table.proofs.table.Table.walk.Goals as goal

pub returns-in-Some-clause-leaf : goal.returns-in-Some-clause-leaf
returns-in-Some-clause-leaf c =
    sym (over_found c.number-page.result c.number-page.result c.in-Some.leaf _ c.self.invariant (sym c.leaf_at.ensures ∙ c.in-Some.is))
    ∙ (ap (λ (n : ℕ). leaf_over (leaves_of c.self.inside.leaves.entries) n) c.number-page.ensures.number
    ∙ ap (λ (m : Mapped). leaf_over m.leaves c.args.page) c.self.view_is)

pub returns-in-Some-clause-apart : goal.returns-in-Some-clause-apart
returns-in-Some-clause-apart c = rw (← c.self.view_is) (lie_apart 0 _ c.self.invariant)

pub returns-in-None-clause-leaf : goal.returns-in-None-clause-leaf
returns-in-None-clause-leaf c =
    c.leaf_at-in-None.ensures
    ∙ (rw c.block_start.ensures (over_last c.number-page.result _ c.self.invariant (sym c.leaf_at.ensures ∙ c.in-None.is))
    ∙ (ap (λ (n : ℕ). leaf_over (leaves_of c.self.inside.leaves.entries) n) c.number-page.ensures.number
    ∙ ap (λ (m : Mapped). leaf_over m.leaves c.args.page) c.self.view_is))

pub returns-in-None-clause-apart : goal.returns-in-None-clause-apart
returns-in-None-clause-apart c = rw (← c.self.view_is) (lie_apart 0 _ c.self.invariant)
