use Rattle.std.proofs.Common.{Some, arith, ap, sym, ◌∙◌}
use Rattle.gm_radix.proofs.Held.{at_fork, Holds-found}
use Rattle.gm_radix.proofs.Lists.{lookup-left, lookup-right}
use Rattle.gm_radix.specs.Entries.{lookup}
use Rattle.gm_radix.specs.Nodes.{under}
use Rattle.gm_radix.proofs.tree.get.Goals as goal

pub index-requires : goal.index-requires
index-requires g c = Holds-found c.loop-at.invariant.tree

pub loop-at-smaller-then-index-parts : goal.loop-at-smaller-then-index-parts
loop-at-smaller-then-index-parts g c =
    let f = at_fork c.in-Fork.parts (omega arith) (c.index.ensures ∙ ap (λ n. Some n) c.in-Fork.is) c.loop-at.invariant.tree in
    f.left.less

pub loop-at-preserved-then-index-parts : goal.loop-at-preserved-then-index-parts
loop-at-preserved-then-index-parts g c =
    let f = at_fork c.in-Fork.parts (omega arith) (c.index.ensures ∙ ap (λ n. Some n) c.in-Fork.is) c.loop-at.invariant.tree in
    record {
      tree = f.left.tree;
      same = sym (lookup-left c.args.index _ _ (under c.args.nodes.now.slots c.in-Fork.parts.left) (under c.args.nodes.now.slots c.in-Fork.parts.right) c.if-index-parts.true f.right.rises) ∙ (ap (λ es. lookup c.args.index es) (sym f.is) ∙ c.loop-at.invariant.same);
    }

pub loop-at-smaller : goal.loop-at-smaller
loop-at-smaller g c =
    let f = at_fork c.in-Fork.parts (omega arith) (c.index.ensures ∙ ap (λ n. Some n) c.in-Fork.is) c.loop-at.invariant.tree in
    f.right.less

pub loop-at-preserved : goal.loop-at-preserved
loop-at-preserved g c =
    let f = at_fork c.in-Fork.parts (omega arith) (c.index.ensures ∙ ap (λ n. Some n) c.in-Fork.is) c.loop-at.invariant.tree in
    record {
      tree = f.right.tree;
      same = sym (lookup-right c.args.index _ _ (under c.args.nodes.now.slots c.in-Fork.parts.left) (under c.args.nodes.now.slots c.in-Fork.parts.right) c.if-index-parts.false f.left.rises) ∙ (ap (λ es. lookup c.args.index es) (sym f.is) ∙ c.loop-at.invariant.same);
    }
