use Rattle.std.proofs.Common.{◌≡◌, ap, length, arith, refl, ◌∙◌, List}
use Rattle.gm_base.specs.Extent.{Extent}
use Rattle.gm_base.specs.declared.leaf.Leaf.{Leaf}
use Rattle.gm_table.specs.Kept.{leaves_of}
use Rattle.gm_table.specs.Leaves.{Mapped, leaf_over, unless_met, LieApart}
use Rattle.gm_table.proofs.Members.{lie_apart}
use Rattle.gm_table.proofs.Points.{leaf_over-apart_from}
use Rattle.gm_table.proofs.Installs.{IsKept-without, length-leaves_of}
use Rattle.gm_table.proofs.table.Table.zap.Goals as goal

pub invariant_of-self : goal.invariant_of-self
invariant_of-self c = rw c.discard.ensures.entries (IsKept-without 0 c.first_met-from.result c.hi.result _ c.self.invariant)

pub returns-clause-count : goal.returns-clause-count
returns-clause-count c =
    omega (
      arith,
      c.discard.ensures.count,
      length-leaves_of c.discard.new.self.entries,
      length-leaves_of c.self.inside.leaves.entries,
      ap (λ (m : Mapped). length m.leaves) c.self.view_is,
    )

pub returns-clause-over : goal.returns-clause-over
returns-clause-over c page =
    let lie : LieApart 0 (leaves_of c.self.inside.leaves.entries) = lie_apart 0 _ c.self.invariant in
    let span : Extent = record { lo = c.lo.result; hi = c.hi.result } in
    let is : span ≡ c.args.span = rw (c.lo.ensures.lo, c.hi.ensures.hi) refl in
    rw c.discard.ensures.entries
    (ap (λ (ls : List Leaf). leaf_over ls page) (c.first_met-from.ensures.leaves c.hi.result)
    ∙ (leaf_over-apart_from 0 span (leaves_of c.self.inside.leaves.entries) page lie
    ∙ (ap (λ (s : Extent). unless_met s (leaf_over (leaves_of c.self.inside.leaves.entries) page)) is
    ∙ ap (λ (m : Mapped). unless_met c.args.span (leaf_over m.leaves page)) c.self.view_is)))
