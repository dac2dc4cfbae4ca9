use Rattle.std.proofs.Common.{Some, ap, arith, ◌∙◌}
use Rattle.gm_radix.specs.Nodes.{leaf}
use Rattle.gm_radix.proofs.Frames.{StandsBeside-block}
use Rattle.gm_radix.proofs.Held.{at_fork, at_leaf, Holds-order, Holds-wider}
use Rattle.gm_radix.proofs.Lists.{put_same}
use Rattle.gm_radix.proofs.inserting.insert_at.Goals as goal

pub part-requires-clause-beside : goal.part-requires-clause-beside
part-requires-clause-beside g c =
    StandsBeside-block _ c.block_beside-block.result c.args.index (c.index.ensures ∙ ap (λ n. Some n) c.in-Leaf.is) c.requires.tree c.block_beside-block.ensures.beside

pub block_beside-block-requires-in-Fork-clause-order : goal.block_beside-block-requires-in-Fork-clause-order
block_beside-block-requires-in-Fork-clause-order g c =
    let f = at_fork c.in-Fork.parts c.requires.limit (c.index.ensures ∙ ap (λ n. Some n) c.in-Fork.is) c.requires.tree in
    omega (arith, Holds-order f.left.holds, Holds-order f.right.holds)

pub part-requires-in-Fork-clause-beside : goal.part-requires-in-Fork-clause-beside
part-requires-in-Fork-clause-beside g c =
    StandsBeside-block _ c.block_beside-block-in-Fork.result c.args.index (c.index.ensures ∙ ap (λ n. Some n) c.in-Fork.is) c.requires.tree c.block_beside-block-in-Fork.ensures.beside

pub returns-then-at-index-clause-entries : goal.returns-then-at-index-clause-entries
returns-then-at-index-clause-entries g c =
    let f = at_leaf c.in-Leaf.at c.in-Leaf.field-1 (c.index.ensures ∙ ap (λ n. Some n) c.in-Leaf.is) c.requires.tree in
    rw (f.is, put_same c.args.index c.args.value c.in-Leaf.at c.in-Leaf.field-1 c.if-at-index.true) (leaf c.set.ensures.updates.changed c.requires.low c.requires.high)

pub returns-else-at-index-clause-entries : goal.returns-else-at-index-clause-entries
returns-else-at-index-clause-entries g c =
    Holds-wider _ _ c.block_beside-block.ensures.low c.block_beside-block.ensures.high c.part.ensures.entries

pub returns-in-Fork-clause-entries : goal.returns-in-Fork-clause-entries
returns-in-Fork-clause-entries g c =
    Holds-wider _ _ c.block_beside-block-in-Fork.ensures.low c.block_beside-block-in-Fork.ensures.high c.part-in-Fork.ensures.entries
