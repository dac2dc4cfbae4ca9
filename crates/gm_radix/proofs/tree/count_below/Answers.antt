use Rattle.std.proofs.Common.{Some, inr, arith, ap, ◌∙◌, length, length-append}
use Rattle.gm_radix.proofs.Counts.{count_within-apart, count_within-inside, count_within-left, count_within-past}
use Rattle.gm_radix.proofs.Held.{at_fork, Holds-found, Holds-rises}
use Rattle.gm_radix.proofs.Lists.{length-Rises}
use Rattle.gm_radix.specs.Entries.{count_within}
use Rattle.gm_radix.specs.Nodes.{under}
use Rattle.gm_radix.proofs.tree.count_below.Goals as goal

pub loop-at-init : goal.loop-at-init
loop-at-init g c =
    record {
      tree = c.requires;
      same = omega arith;
      few = omega (arith, length-Rises 0 _ (under c.args.nodes.now.slots c.args.key) (Holds-rises c.requires));
    }

pub index-requires : goal.index-requires
index-requires g c = Holds-found c.loop-at.invariant.tree

pub returns-then-index-block : goal.returns-then-index-block
returns-then-index-block g c =
    let f = at_fork c.in-Fork.parts (omega arith) (c.index.ensures ∙ ap (λ n. Some n) c.in-Fork.is) c.loop-at.invariant.tree in
    omega (arith, c.loop-at.invariant.same, count_within-apart 0 c.args.index _ _ (under c.args.nodes.now.slots c.loop-at.key) f.rises (inr c.if-index-block.true))

pub returns-then-block-index : goal.returns-then-block-index
returns-then-block-index g c =
    let f = at_fork c.in-Fork.parts (omega arith) (c.index.ensures ∙ ap (λ n. Some n) c.in-Fork.is) c.loop-at.invariant.tree in
    omega (arith, c.loop-at.invariant.same, f.count, count_within-inside 0 c.args.index _ _ (under c.args.nodes.now.slots c.loop-at.key) f.rises (omega arith) c.if-block-index.true)

pub loop-at-smaller-then-index-block-2 : goal.loop-at-smaller-then-index-block-2
loop-at-smaller-then-index-block-2 g c =
    let f = at_fork c.in-Fork.parts (omega arith) (c.index.ensures ∙ ap (λ n. Some n) c.in-Fork.is) c.loop-at.invariant.tree in
    f.left.less

pub loop-at-preserved-then-index-block-2 : goal.loop-at-preserved-then-index-block-2
loop-at-preserved-then-index-block-2 g c =
    let f = at_fork c.in-Fork.parts (omega arith) (c.index.ensures ∙ ap (λ n. Some n) c.in-Fork.is) c.loop-at.invariant.tree in
    let left = under c.args.nodes.now.slots c.in-Fork.parts.left in
    let right = under c.args.nodes.now.slots c.in-Fork.parts.right in
    record {
      tree = f.left.tree;
      same = omega (arith, c.loop-at.invariant.same, ap (λ es. count_within 0 c.args.index es) f.is, count_within-left 0 c.args.index _ _ left right f.right.rises (omega (arith, c.if-index-block-2.true)));
      few = omega (arith, c.loop-at.invariant.few, ap (λ es. length es) f.is, length-append left right);
    }

pub count_of-requires : goal.count_of-requires
count_of-requires g c =
    let f = at_fork c.in-Fork.parts (omega arith) (c.index.ensures ∙ ap (λ n. Some n) c.in-Fork.is) c.loop-at.invariant.tree in
    f.right.tree

pub overflow_sub-passed : goal.overflow_sub-passed
overflow_sub-passed g c =
    let f = at_fork c.in-Fork.parts (omega arith) (c.index.ensures ∙ ap (λ n. Some n) c.in-Fork.is) c.loop-at.invariant.tree in
    omega (arith, c.count_of.ensures, f.count, ap (λ es. length es) f.is, length-append (under c.args.nodes.now.slots c.in-Fork.parts.left) (under c.args.nodes.now.slots c.in-Fork.parts.right))

pub loop-at-smaller : goal.loop-at-smaller
loop-at-smaller g c =
    let f = at_fork c.in-Fork.parts (omega arith) (c.index.ensures ∙ ap (λ n. Some n) c.in-Fork.is) c.loop-at.invariant.tree in
    f.right.less

pub loop-at-preserved : goal.loop-at-preserved
loop-at-preserved g c =
    let f = at_fork c.in-Fork.parts (omega arith) (c.index.ensures ∙ ap (λ n. Some n) c.in-Fork.is) c.loop-at.invariant.tree in
    let left = under c.args.nodes.now.slots c.in-Fork.parts.left in
    let right = under c.args.nodes.now.slots c.in-Fork.parts.right in
    record {
      tree = f.right.tree;
      same = omega (arith, c.count_of.ensures, c.loop-at.invariant.same, f.count, ap (λ es. length es) f.is, length-append left right, ap (λ es. count_within 0 c.args.index es) f.is, count_within-past c.args.index _ _ left right f.left.rises (omega (arith, c.if-index-block-2.false)));
      few = omega (arith, c.count_of.ensures, c.loop-at.invariant.few, f.count, ap (λ es. length es) f.is, length-append left right);
    }
