use Rattle.std.proofs.Common.{◌≡◌, ◌-◌, ◌<◌, Some, inl, arith, ap, sym, ◌∙◌, length, length-append}
use Rattle.gm_radix.specs.Entries.{gap_from}
use Rattle.gm_base.specs.declared.numbers.TheConstants.{PAGE_LIMIT}
use Rattle.gm_radix.proofs.Counts.{gap_from-full}
use Rattle.gm_radix.proofs.Held.{at_fork, Holds-found, Holds-wider, Holds-order}
use Rattle.gm_radix.proofs.Lists.{gap_from-append, gap_from-most, gap_from-outside, length-Rises}
use Rattle.gm_radix.specs.Nodes.{under}
use Rattle.gm_radix.proofs.tree.gap_at_start.Goals as goal

pub index-requires : goal.index-requires
index-requires g c = Holds-found c.loop-at.invariant.tree

pub returns-then-gap-block-clause-gap : goal.returns-then-gap-block-clause-gap
returns-then-gap-block-clause-gap g c =
    let f = at_fork c.in-Fork.parts (omega arith) (c.index.ensures ∙ ap (λ n. Some n) c.in-Fork.is) c.loop-at.invariant.tree in
    sym (gap_from-outside c.loop-at.gap _ _ (under c.args.nodes.now.slots c.loop-at.key) f.rises (inl c.if-gap-block.true)) ∙ c.loop-at.invariant.same

pub returns-then-gap-block-clause-limit : goal.returns-then-gap-block-clause-limit
returns-then-gap-block-clause-limit g c = omega (arith, Holds-order c.loop-at.invariant.tree)

pub count_of-requires : goal.count_of-requires
count_of-requires g c =
    let f = at_fork c.in-Fork.parts (omega arith) (c.index.ensures ∙ ap (λ n. Some n) c.in-Fork.is) c.loop-at.invariant.tree in
    f.right.tree

pub overflow_sub-left : goal.overflow_sub-left
overflow_sub-left g c =
    let f = at_fork c.in-Fork.parts (omega arith) (c.index.ensures ∙ ap (λ n. Some n) c.in-Fork.is) c.loop-at.invariant.tree in
    omega (arith, c.count_of.ensures, f.count, ap (λ es. length es) f.is, length-append (under c.args.nodes.now.slots c.in-Fork.parts.left) (under c.args.nodes.now.slots c.in-Fork.parts.right))

pub overflow_sub-block : goal.overflow_sub-block
overflow_sub-block g c =
    let f = at_fork c.in-Fork.parts (omega arith) (c.index.ensures ∙ ap (λ n. Some n) c.in-Fork.is) c.loop-at.invariant.tree in
    omega (arith, Holds-order f.left.holds)

pub loop-at-smaller-then-left-block : goal.loop-at-smaller-then-left-block
loop-at-smaller-then-left-block g c =
    let f = at_fork c.in-Fork.parts (omega arith) (c.index.ensures ∙ ap (λ n. Some n) c.in-Fork.is) c.loop-at.invariant.tree in
    f.left.less

pub loop-at-preserved-then-left-block : goal.loop-at-preserved-then-left-block
loop-at-preserved-then-left-block g c =
    let f = at_fork c.in-Fork.parts (omega arith) (c.index.ensures ∙ ap (λ n. Some n) c.in-Fork.is) c.loop-at.invariant.tree in
    let left = under c.args.nodes.now.slots c.in-Fork.parts.left in
    let right = under c.args.nodes.now.slots c.in-Fork.parts.right in
    let order = Holds-order f.right.holds in
    let gap = gap_from c.loop-at.gap left in
    let few : gap < c.in-Fork.parts.block.pivot = omega (arith, c.if-left-block.true, c.if-gap-block.false, c.count_of.ensures, f.count, ap (λ es. length es) f.is, length-append left right, gap_from-most c.loop-at.gap left) in
    record {
      tree = Holds-wider c.loop-at.gap PAGE_LIMIT f.low (omega (arith, f.high)) f.left.holds;
      same = sym (gap_from-outside gap _ _ right f.right.rises (inl few)) ∙ (sym (gap_from-append c.loop-at.gap left right) ∙ (ap (λ es. gap_from c.loop-at.gap es) (sym f.is) ∙ c.loop-at.invariant.same));
    }

pub loop-at-smaller : goal.loop-at-smaller
loop-at-smaller g c =
    let f = at_fork c.in-Fork.parts (omega arith) (c.index.ensures ∙ ap (λ n. Some n) c.in-Fork.is) c.loop-at.invariant.tree in
    f.right.less

pub loop-at-preserved : goal.loop-at-preserved
loop-at-preserved g c =
    let f = at_fork c.in-Fork.parts (omega arith) (c.index.ensures ∙ ap (λ n. Some n) c.in-Fork.is) c.loop-at.invariant.tree in
    let left = under c.args.nodes.now.slots c.in-Fork.parts.left in
    let right = under c.args.nodes.now.slots c.in-Fork.parts.right in
    let order = Holds-order f.left.holds in
    let all : length left ≡ c.in-Fork.parts.block.pivot - c.in-Fork.parts.block.first = omega (arith, c.if-left-block.false, c.count_of.ensures, f.count, ap (λ es. length es) f.is, length-append left right, length-Rises _ _ left f.left.rises) in
    let full = gap_from-full c.loop-at.gap _ _ left f.left.rises all (omega (arith, c.if-gap-block.false)) (omega (arith, f.low, order)) in
    record {
      tree = Holds-wider c.in-Fork.parts.block.pivot PAGE_LIMIT (omega arith) (omega (arith, f.high)) f.right.holds;
      same = ap (λ n. gap_from n right) (sym full) ∙ (sym (gap_from-append c.loop-at.gap left right) ∙ (ap (λ es. gap_from c.loop-at.gap es) (sym f.is) ∙ c.loop-at.invariant.same));
    }
