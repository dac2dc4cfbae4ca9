use Rattle.std.proofs.Common.{Some, inl, inr, arith, ap, sym, ◌∙◌}
use Rattle.gm_radix.proofs.Counts.{count_within-apart, count_within-inside, count_within-left, count_within-right, count_within-split, count_within-length}
use Rattle.gm_radix.proofs.Held.{at_fork, Holds-found}
use Rattle.gm_radix.proofs.Lists.{length-Rises}
use Rattle.gm_radix.specs.Entries.{count_within}
use Rattle.gm_radix.specs.Nodes.{under}
use Rattle.gm_radix.proofs.tree.count_in.Goals as goal

pub index-requires : goal.index-requires
index-requires g c = Holds-found c.loop-at.invariant.tree

pub returns-then-hi-block : goal.returns-then-hi-block
returns-then-hi-block g c =
    let f = at_fork c.in-Fork.parts (omega arith) (c.index.ensures ∙ ap (λ n. Some n) c.in-Fork.is) c.loop-at.invariant.tree in
    sym (count_within-apart c.args.lo c.args.hi _ _ (under c.args.nodes.now.slots c.loop-at.key) f.rises (elim c.then-hi-block.either [ inl p ↦ inr p | inr q ↦ inl q.1 ])) ∙ c.loop-at.invariant.same

pub returns-then-block-hi : goal.returns-then-block-hi
returns-then-block-hi g c =
    let f = at_fork c.in-Fork.parts (omega arith) (c.index.ensures ∙ ap (λ n. Some n) c.in-Fork.is) c.loop-at.invariant.tree in
    f.count ∙ (sym (count_within-inside c.args.lo c.args.hi _ _ (under c.args.nodes.now.slots c.loop-at.key) f.rises c.if-lo-block.true c.if-block-hi.true) ∙ c.loop-at.invariant.same)

pub loop-at-smaller-then-hi-block-2 : goal.loop-at-smaller-then-hi-block-2
loop-at-smaller-then-hi-block-2 g c =
    let f = at_fork c.in-Fork.parts (omega arith) (c.index.ensures ∙ ap (λ n. Some n) c.in-Fork.is) c.loop-at.invariant.tree in
    f.left.less

pub loop-at-preserved-then-hi-block-2 : goal.loop-at-preserved-then-hi-block-2
loop-at-preserved-then-hi-block-2 g c =
    let f = at_fork c.in-Fork.parts (omega arith) (c.index.ensures ∙ ap (λ n. Some n) c.in-Fork.is) c.loop-at.invariant.tree in
    record {
      tree = f.left.tree;
      same = sym (count_within-left c.args.lo c.args.hi _ _ (under c.args.nodes.now.slots c.in-Fork.parts.left) (under c.args.nodes.now.slots c.in-Fork.parts.right) f.right.rises c.if-hi-block-2.true) ∙ (ap (λ es. count_within c.args.lo c.args.hi es) (sym f.is) ∙ c.loop-at.invariant.same);
    }

pub loop-at-smaller : goal.loop-at-smaller
loop-at-smaller g c =
    let f = at_fork c.in-Fork.parts (omega arith) (c.index.ensures ∙ ap (λ n. Some n) c.in-Fork.is) c.loop-at.invariant.tree in
    f.right.less

pub loop-at-preserved : goal.loop-at-preserved
loop-at-preserved g c =
    let f = at_fork c.in-Fork.parts (omega arith) (c.index.ensures ∙ ap (λ n. Some n) c.in-Fork.is) c.loop-at.invariant.tree in
    record {
      tree = f.right.tree;
      same = sym (count_within-right c.args.lo c.args.hi _ _ (under c.args.nodes.now.slots c.in-Fork.parts.left) (under c.args.nodes.now.slots c.in-Fork.parts.right) f.left.rises c.if-block-lo-2.true) ∙ (ap (λ es. count_within c.args.lo c.args.hi es) (sym f.is) ∙ c.loop-at.invariant.same);
    }

pub count_of-requires : goal.count_of-requires
count_of-requires g c =
    let f = at_fork c.in-Fork.parts (omega arith) (c.index.ensures ∙ ap (λ n. Some n) c.in-Fork.is) c.loop-at.invariant.tree in
    f.left.tree

pub count_below-requires : goal.count_below-requires
count_below-requires g c =
    let f = at_fork c.in-Fork.parts (omega arith) (c.index.ensures ∙ ap (λ n. Some n) c.in-Fork.is) c.loop-at.invariant.tree in
    f.left.tree

pub overflow_sub-left : goal.overflow_sub-left
overflow_sub-left g c = omega (arith, c.count_of.ensures, c.count_below.ensures, count_within-length 0 c.args.lo (under c.args.nodes.now.slots c.in-Fork.parts.left))

pub count_below-right-requires : goal.count_below-right-requires
count_below-right-requires g c =
    let f = at_fork c.in-Fork.parts (omega arith) (c.index.ensures ∙ ap (λ n. Some n) c.in-Fork.is) c.loop-at.invariant.tree in
    f.right.tree

pub overflow_add-result : goal.overflow_add-result
overflow_add-result g c =
    let f = at_fork c.in-Fork.parts (omega arith) (c.index.ensures ∙ ap (λ n. Some n) c.in-Fork.is) c.loop-at.invariant.tree in
    let left = under c.args.nodes.now.slots c.in-Fork.parts.left in
    let right = under c.args.nodes.now.slots c.in-Fork.parts.right in
    omega (arith, f.high, c.count_of.ensures, c.count_below-right.ensures, count_within-length 0 c.args.hi right, length-Rises _ _ left f.left.rises, length-Rises _ _ right f.right.rises)

pub returns-else-block-lo-2 : goal.returns-else-block-lo-2
returns-else-block-lo-2 g c =
    let f = at_fork c.in-Fork.parts (omega arith) (c.index.ensures ∙ ap (λ n. Some n) c.in-Fork.is) c.loop-at.invariant.tree in
    let left = under c.args.nodes.now.slots c.in-Fork.parts.left in
    let right = under c.args.nodes.now.slots c.in-Fork.parts.right in
    omega (arith, c.count_of.ensures, c.count_below.ensures, c.count_below-right.ensures, count_within-length 0 c.args.lo left, c.loop-at.invariant.same, ap (λ es. count_within c.args.lo c.args.hi es) f.is, count_within-split c.args.lo c.args.hi _ _ _ left right f.left.rises f.right.rises (omega (arith, c.if-block-lo-2.false)) (omega (arith, c.if-hi-block-2.false)))
