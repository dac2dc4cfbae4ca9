use Rattle.std.proofs.Common.{Some, inl, inr, arith, sym, ap, ◌∙◌, append-nil}
use Rattle.gm_radix.proofs.Held.{at_fork, Holds-order, Holds-rises}
use Rattle.gm_radix.proofs.Lists.{within-apart, within-append_after, length-within-append}
use Rattle.gm_radix.specs.Nodes.{under}
use Rattle.gm_radix.proofs.tree.+collect.Goals as goal

pub returns-then-to-lo-clause-taken : goal.returns-then-to-lo-clause-taken
returns-then-to-lo-clause-taken g t c =
    rw (within-apart c.args.lo c.args.hi _ _ (under c.args.nodes.now.slots c.args.key) (Holds-rises c.requires.tree) (elim c.then-to-lo.either [ inl p ↦ inl p | inr q ↦ inr q.1 ])) (sym (append-nil _))

pub returns-then-to-lo-clause-len : goal.returns-then-to-lo-clause-len
returns-then-to-lo-clause-len g t c =
    rw (within-apart c.args.lo c.args.hi _ _ (under c.args.nodes.now.slots c.args.key) (Holds-rises c.requires.tree) (elim c.then-to-lo.either [ inl p ↦ inl p | inr q ↦ inr q.1 ])) (omega arith)

pub collect-requires : goal.collect-requires
collect-requires g t c κs within =
    let f = at_fork c.in-Fork.parts c.requires.limit (c.index.ensures ∙ ap (λ n. Some n) c.in-Fork.is) c.requires.tree in
    let room = rw (f.is, length-within-append c.args.lo c.args.hi (under c.args.nodes.now.slots c.in-Fork.parts.left) (under c.args.nodes.now.slots c.in-Fork.parts.right)) at c.requires.room in
    (omega (arith, f.left.less, c.decreases), (within, (f.left.holds, (omega (arith, f.high, Holds-order f.right.holds), omega (arith, room)))))

pub collect-requires-in-Fork : goal.collect-requires-in-Fork
collect-requires-in-Fork g t c κs within =
    let f = at_fork c.in-Fork.parts c.requires.limit (c.index.ensures ∙ ap (λ n. Some n) c.in-Fork.is) c.requires.tree in
    let room = rw (f.is, length-within-append c.args.lo c.args.hi (under c.args.nodes.now.slots c.in-Fork.parts.left) (under c.args.nodes.now.slots c.in-Fork.parts.right)) at c.requires.room in
    (omega (arith, f.right.less, c.decreases), (within, (f.right.holds, (omega (arith, f.high), omega (arith, room, c.collect.ensures.len, c.collect.ensures.capacity)))))

pub returns-in-Fork-clause-taken : goal.returns-in-Fork-clause-taken
returns-in-Fork-clause-taken g t c =
    let f = at_fork c.in-Fork.parts c.requires.limit (c.index.ensures ∙ ap (λ n. Some n) c.in-Fork.is) c.requires.tree in
    rw f.is (within-append_after c.args.lo c.args.hi (under c.args.nodes.now.slots c.in-Fork.parts.left) (under c.args.nodes.now.slots c.in-Fork.parts.right) _ _ _ c.collect.ensures.taken c.collect-in-Fork.ensures.taken)

pub returns-in-Fork-clause-len : goal.returns-in-Fork-clause-len
returns-in-Fork-clause-len g t c =
    let f = at_fork c.in-Fork.parts c.requires.limit (c.index.ensures ∙ ap (λ n. Some n) c.in-Fork.is) c.requires.tree in
    rw (f.is, length-within-append c.args.lo c.args.hi (under c.args.nodes.now.slots c.in-Fork.parts.left) (under c.args.nodes.now.slots c.in-Fork.parts.right)) (omega (arith, c.collect.ensures.len, c.collect-in-Fork.ensures.len))
