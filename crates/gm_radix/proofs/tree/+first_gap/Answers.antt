use Rattle.std.proofs.Common.{Some, inl, inr, arith, ap, sym, ◌∙◌}
use Rattle.gm_radix.proofs.Counts.{gap_from-full}
use Rattle.gm_radix.proofs.Held.{at_fork, Holds-from, Holds-wider}
use Rattle.gm_radix.proofs.Lists.{gap_from-append, gap_from-outside, gap_from-within}
use Rattle.gm_base.specs.declared.numbers.TheConstants.{PAGE_LIMIT}
use Rattle.gm_radix.specs.Nodes.{under}
use Rattle.gm_radix.proofs.tree.+first_gap.Goals as goal

pub first_gap-requires : goal.first_gap-requires
first_gap-requires g t c κs within =
    let f = at_fork c.in-Fork.parts (omega arith) (c.index.ensures ∙ ap (λ n. Some n) c.in-Fork.is) c.requires.tree in
    (omega (arith, f.right.less, c.decreases), (within, (f.right.tree, c.requires.limit)))

pub first_gap-gap-requires : goal.first_gap-gap-requires
first_gap-gap-requires g t c κs within =
    let f = at_fork c.in-Fork.parts (omega arith) (c.index.ensures ∙ ap (λ n. Some n) c.in-Fork.is) c.requires.tree in
    (omega (arith, f.left.less, c.decreases), (within, (f.left.tree, c.requires.limit)))

pub gap_at_start-requires : goal.gap_at_start-requires
gap_at_start-requires g t c =
    Holds-from c.in-Fork.parts c.args.index (c.index.ensures ∙ ap (λ n. Some n) c.in-Fork.is) (omega (arith, c.if-index-block-2.true)) c.requires.tree

pub gap_at_start-requires-in-Fork : goal.gap_at_start-requires-in-Fork
gap_at_start-requires-in-Fork g t c =
    let f = at_fork c.in-Fork.parts (omega arith) (c.index.ensures ∙ ap (λ n. Some n) c.in-Fork.is) c.requires.tree in
    let left = under c.args.nodes.now.slots c.in-Fork.parts.left in
    Holds-wider c.first_gap-gap.result PAGE_LIMIT (omega (arith, c.first_gap-gap.ensures.gap, gap_from-within c.args.index _ _ left f.left.rises (omega (arith, c.if-block-index-2.false)))) (omega (arith, f.high)) f.right.holds

pub returns-then-block-index-2-clause-gap : goal.returns-then-block-index-2-clause-gap
returns-then-block-index-2-clause-gap g t c =
    let f = at_fork c.in-Fork.parts (omega arith) (c.index.ensures ∙ ap (λ n. Some n) c.in-Fork.is) c.requires.tree in
    let left = under c.args.nodes.now.slots c.in-Fork.parts.left in
    cc (f.is, gap_from-append c.args.index left (under c.args.nodes.now.slots c.in-Fork.parts.right), gap_from-outside c.args.index _ _ left f.left.rises (inr c.if-block-index-2.true))

pub returns-then-gap-block-clause-gap : goal.returns-then-gap-block-clause-gap
returns-then-gap-block-clause-gap g t c =
    let f = at_fork c.in-Fork.parts (omega arith) (c.index.ensures ∙ ap (λ n. Some n) c.in-Fork.is) c.requires.tree in
    let right = under c.args.nodes.now.slots c.in-Fork.parts.right in
    cc (f.is, gap_from-append c.args.index (under c.args.nodes.now.slots c.in-Fork.parts.left) right, gap_from-outside c.first_gap-gap.result _ _ right f.right.rises (inl c.if-gap-block.true))

pub returns-else-gap-block-clause-gap : goal.returns-else-gap-block-clause-gap
returns-else-gap-block-clause-gap g t c =
    let f = at_fork c.in-Fork.parts (omega arith) (c.index.ensures ∙ ap (λ n. Some n) c.in-Fork.is) c.requires.tree in
    cc (f.is, gap_from-append c.args.index (under c.args.nodes.now.slots c.in-Fork.parts.left) (under c.args.nodes.now.slots c.in-Fork.parts.right))

pub returns-then-index-block-clause-gap : goal.returns-then-index-block-clause-gap
returns-then-index-block-clause-gap g t c =
    let f = at_fork c.in-Fork.parts (omega arith) (c.index.ensures ∙ ap (λ n. Some n) c.in-Fork.is) c.requires.tree in
    sym (gap_from-outside c.args.index _ _ (under c.args.nodes.now.slots c.args.key) f.rises (elim c.then-index-block.either [ inl p ↦ inl p | inr q ↦ inr q.1 ]))

pub returns-then-parts-block-clause-gap : goal.returns-then-parts-block-clause-gap
returns-then-parts-block-clause-gap g t c =
    let f = at_fork c.in-Fork.parts (omega arith) (c.index.ensures ∙ ap (λ n. Some n) c.in-Fork.is) c.requires.tree in
    sym (gap_from-full c.args.index _ _ (under c.args.nodes.now.slots c.args.key) f.rises (omega (arith, f.count)) (omega arith) (omega arith))
