use Rattle.std.proofs.Common.{◌≡◌, ap, ◌∙◌, arith, List}
use Rattle.gm_base.specs.declared.leaf.Leaf.{Leaf}
use Rattle.gm_radix.proofs.Lists.{lookup-without}
use Rattle.gm_table.specs.Kept.{leaves_of}
use Rattle.gm_table.specs.Leaves.{Mapped, apart_from, place, extent_of, installed, leaf_over, LieApart}
use Rattle.gm_table.proofs.Members.{lie_apart, pages_some}
use Rattle.gm_table.proofs.Points.{leaf_over-installed}
use Rattle.gm_table.proofs.Installs.{IsKept-without, IsPut, is_put, none_meet}
use Rattle.gm_table.proofs.table.Table.install.Goals as goal

-- what the removal leaves are the leaves apart from the new one
apart : (c : goal.After-insert_new) → leaves_of c.discard.new.self.entries ≡ apart_from (extent_of c.args.leaf) (leaves_of c.self.inside.leaves.entries)
apart c =
    rw (c.discard.ensures.entries, c.pages.ensures) (c.first_met-from.ensures.leaves _)

put_there : (c : goal.After-insert_new) → IsPut 0 c.args.leaf c.discard.new.self.entries
put_there c =
    is_put 0 c.args.leaf c.discard.new.self.entries (omega arith) c.requires.leaf.aligned (rw c.discard.ensures.entries (IsKept-without 0 c.first_met-from.result _ _ c.self.invariant)) (rw (apart c) (none_meet (extent_of c.args.leaf) _))

pub invariant_of-self : goal.invariant_of-self
invariant_of-self c = rw c.insert_new.ensures.entries (put_there c).kept

pub returns-clause-leaves : goal.returns-clause-leaves
returns-clause-leaves c =
    rw c.insert_new.ensures.entries ((put_there c).leaves ∙ (ap (λ (ls : List Leaf). place c.args.leaf ls) (apart c) ∙ ap (λ (m : Mapped). installed c.args.leaf m.leaves) c.self.view_is))

pub returns-clause-over : goal.returns-clause-over
returns-clause-over c page =
    let lie : LieApart 0 c.args.self.now.leaves = rw (← c.self.view_is) (lie_apart 0 _ c.self.invariant) in
    ap (λ (ls : List Leaf). leaf_over ls page) (returns-clause-leaves c) ∙ leaf_over-installed 0 c.args.leaf c.args.self.now.leaves page lie

pub insert_new-requires-clause-free : goal.insert_new-requires-clause-free
insert_new-requires-clause-free c =
    rw c.discard.ensures.entries (lookup-without c.args.leaf.first c.first_met-from.result _ c.self.inside.leaves.entries c.first_met-from.ensures.low (omega (arith, pages_some c.args.leaf.level, c.pages.ensures)))
