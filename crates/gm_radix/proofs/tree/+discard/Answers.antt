use Rattle.std.proofs.Common.{Some, List, length, inl, inr, arith, ap, ◌∙◌, length-append}
use Rattle.gm_radix.specs.declared.node.Node.TheVariants.{Leaf}
use Rattle.gm_radix.specs.Nodes.{under}
use Rattle.gm_radix.specs.Entries.{without}
use Rattle.gm_radix.proofs.Discards.{at_second, at_both, without-AtBoth}
use Rattle.gm_radix.proofs.Frames.{Holds-inside, HoldsRest-wider, Keeps-then, Keeps-updates, Keeps-wider}
use Rattle.gm_radix.proofs.Held.{at_fork, Holds-order, Holds-rises}
use Rattle.gm_radix.proofs.Lists.{without-apart, length-Rises}
use Rattle.gm_radix.proofs.tree.+discard.Goals as goal

pub returns-then-at-hi-clause-keeps : goal.returns-then-at-hi-clause-keeps
returns-then-at-hi-clause-keeps g t c =
    let node = Leaf c.in-Leaf.at c.in-Leaf.field-1 in
    let found = c.index.ensures ∙ ap (λ n. Some n) c.in-Leaf.is in
    let w = Holds-inside node found c.requires.tree in
    Keeps-updates node c.remove.ensures.updates found w.0 w.1

pub returns-then-to-lo-clause-rest : goal.returns-then-to-lo-clause-rest
returns-then-to-lo-clause-rest g t c =
    rw (without-apart c.args.lo c.args.hi _ _ (under c.args.nodes.now.slots c.args.key) (Holds-rises c.requires.tree) (elim c.then-to-lo.either [ inl p ↦ inl p | inr q ↦ inr q.1 ])) c.requires.tree

pub returns-then-to-lo-clause-gone : goal.returns-then-to-lo-clause-gone
returns-then-to-lo-clause-gone g t c =
    rw (without-apart c.args.lo c.args.hi _ _ (under c.args.nodes.now.slots c.args.key) (Holds-rises c.requires.tree) (elim c.then-to-lo.either [ inl p ↦ inl p | inr q ↦ inr q.1 ])) (omega arith)

pub returns-then-to-lo-clause-nodes : goal.returns-then-to-lo-clause-nodes
returns-then-to-lo-clause-nodes g t c =
    rw (without-apart c.args.lo c.args.hi _ _ (under c.args.nodes.now.slots c.args.key) (Holds-rises c.requires.tree) (elim c.then-to-lo.either [ inl p ↦ inl p | inr q ↦ inr q.1 ]))

pub discard-left-requires : goal.discard-left-requires
discard-left-requires g t c κs within =
    let f = at_fork c.in-Fork.parts c.requires.limit (c.index.ensures ∙ ap (λ n. Some n) c.in-Fork.is) c.requires.tree in
    (omega (arith, f.left.less, c.decreases), (within, (f.left.holds, omega (arith, f.high, Holds-order f.right.holds))))

pub discard-right-requires : goal.discard-right-requires
discard-right-requires g t c κs within =
    let f = at_fork c.in-Fork.parts c.requires.limit (c.index.ensures ∙ ap (λ n. Some n) c.in-Fork.is) c.requires.tree in
    let s = at_second c.requires.limit f c.discard-left.ensures.keeps in
    (omega (arith, s.less, c.decreases), (within, (s.holds, omega (arith, f.high))))

pub join-requires-clause-low : goal.join-requires-clause-low
join-requires-clause-low g t c =
    let f = at_fork c.in-Fork.parts c.requires.limit (c.index.ensures ∙ ap (λ n. Some n) c.in-Fork.is) c.requires.tree in
    Holds-order f.left.holds

pub join-requires-clause-high : goal.join-requires-clause-high
join-requires-clause-high g t c =
    let f = at_fork c.in-Fork.parts c.requires.limit (c.index.ensures ∙ ap (λ n. Some n) c.in-Fork.is) c.requires.tree in
    Holds-order f.right.holds

pub join-requires-clause-fork : goal.join-requires-clause-fork
join-requires-clause-fork g t c =
    let found = c.index.ensures ∙ ap (λ n. Some n) c.in-Fork.is in
    let f = at_fork c.in-Fork.parts c.requires.limit found c.requires.tree in
    let s = at_second c.requires.limit f c.discard-left.ensures.keeps in
    let b = at_both c.args.lo c.args.hi c.discard-left.result.key c.discard-right.result.key c.requires.limit f found c.discard-left.ensures.keeps c.discard-right.ensures.keeps c.discard-left.ensures.rest c.discard-right.ensures.rest in
    b.found

pub join-requires-clause-left : goal.join-requires-clause-left
join-requires-clause-left g t c =
    let found = c.index.ensures ∙ ap (λ n. Some n) c.in-Fork.is in
    let f = at_fork c.in-Fork.parts c.requires.limit found c.requires.tree in
    let s = at_second c.requires.limit f c.discard-left.ensures.keeps in
    let b = at_both c.args.lo c.args.hi c.discard-left.result.key c.discard-right.result.key c.requires.limit f found c.discard-left.ensures.keeps c.discard-right.ensures.keeps c.discard-left.ensures.rest c.discard-right.ensures.rest in
    b.left_rest

pub join-requires-clause-right : goal.join-requires-clause-right
join-requires-clause-right g t c =
    let found = c.index.ensures ∙ ap (λ n. Some n) c.in-Fork.is in
    let f = at_fork c.in-Fork.parts c.requires.limit found c.requires.tree in
    let s = at_second c.requires.limit f c.discard-left.ensures.keeps in
    let b = at_both c.args.lo c.args.hi c.discard-left.result.key c.discard-right.result.key c.requires.limit f found c.discard-left.ensures.keeps c.discard-right.ensures.keeps c.discard-left.ensures.rest c.discard-right.ensures.rest in
    b.right_rest

pub overflow_add-gone : goal.overflow_add-gone
overflow_add-gone g t c =
    let found = c.index.ensures ∙ ap (λ n. Some n) c.in-Fork.is in
    let f = at_fork c.in-Fork.parts c.requires.limit found c.requires.tree in
    let s = at_second c.requires.limit f c.discard-left.ensures.keeps in
    let gone = rw s.same at c.discard-right.ensures.gone in
    let left = under c.args.nodes.now.slots c.in-Fork.parts.left in
    let right = under c.args.nodes.now.slots c.in-Fork.parts.right in
    omega (arith, f.high, c.discard-left.ensures.gone, gone, length-Rises _ _ left f.left.rises, length-Rises _ _ right f.right.rises)

pub overflow_sub-count : goal.overflow_sub-count
overflow_sub-count g t c =
    let found = c.index.ensures ∙ ap (λ n. Some n) c.in-Fork.is in
    let f = at_fork c.in-Fork.parts c.requires.limit found c.requires.tree in
    let s = at_second c.requires.limit f c.discard-left.ensures.keeps in
    let gone = rw s.same at c.discard-right.ensures.gone in
    let left = under c.args.nodes.now.slots c.in-Fork.parts.left in
    let right = under c.args.nodes.now.slots c.in-Fork.parts.right in
    omega (arith, f.count, ap (λ (es : List _). length es) f.is, c.discard-left.ensures.gone, gone, length-append left right)

pub join-requires-clause-count : goal.join-requires-clause-count
join-requires-clause-count g t c =
    let found = c.index.ensures ∙ ap (λ n. Some n) c.in-Fork.is in
    let f = at_fork c.in-Fork.parts c.requires.limit found c.requires.tree in
    let s = at_second c.requires.limit f c.discard-left.ensures.keeps in
    let b = at_both c.args.lo c.args.hi c.discard-left.result.key c.discard-right.result.key c.requires.limit f found c.discard-left.ensures.keeps c.discard-right.ensures.keeps c.discard-left.ensures.rest c.discard-right.ensures.rest in
    let gone = rw s.same at c.discard-right.ensures.gone in
    let left = under c.args.nodes.now.slots c.in-Fork.parts.left in
    let right = under c.args.nodes.now.slots c.in-Fork.parts.right in
    let lefts = without c.args.lo c.args.hi left in
    let rights = without c.args.lo c.args.hi right in
    rw (b.left_is, b.right_is) (omega (arith, f.count, ap (λ (es : List _). length es) f.is, c.discard-left.ensures.gone, gone, length-append left right, length-append lefts rights))

pub returns-in-Fork-clause-rest : goal.returns-in-Fork-clause-rest
returns-in-Fork-clause-rest g t c =
    let found = c.index.ensures ∙ ap (λ n. Some n) c.in-Fork.is in
    let f = at_fork c.in-Fork.parts c.requires.limit found c.requires.tree in
    let s = at_second c.requires.limit f c.discard-left.ensures.keeps in
    let b = at_both c.args.lo c.args.hi c.discard-left.result.key c.discard-right.result.key c.requires.limit f found c.discard-left.ensures.keeps c.discard-right.ensures.keeps c.discard-left.ensures.rest c.discard-right.ensures.rest in
    let whole = without-AtBoth f b in
    rw whole (HoldsRest-wider _ c.in-Fork.parts.block.first c.in-Fork.parts.block.end _ c.join.result _ _ f.low f.high c.join.ensures.rest)

pub returns-in-Fork-clause-keeps : goal.returns-in-Fork-clause-keeps
returns-in-Fork-clause-keeps g t c =
    let found = c.index.ensures ∙ ap (λ n. Some n) c.in-Fork.is in
    let f = at_fork c.in-Fork.parts c.requires.limit found c.requires.tree in
    let s = at_second c.requires.limit f c.discard-left.ensures.keeps in
    let p = Holds-order f.left.holds in
    let q = Holds-order f.right.holds in
    Keeps-then (Keeps-then (Keeps-wider _ _ f.low (omega (arith, f.high)) c.discard-left.ensures.keeps) (Keeps-wider _ _ (omega (arith, f.low)) f.high c.discard-right.ensures.keeps)) (Keeps-wider _ _ f.low f.high c.join.ensures.keeps)

pub returns-in-Fork-clause-gone : goal.returns-in-Fork-clause-gone
returns-in-Fork-clause-gone g t c =
    let found = c.index.ensures ∙ ap (λ n. Some n) c.in-Fork.is in
    let f = at_fork c.in-Fork.parts c.requires.limit found c.requires.tree in
    let s = at_second c.requires.limit f c.discard-left.ensures.keeps in
    let b = at_both c.args.lo c.args.hi c.discard-left.result.key c.discard-right.result.key c.requires.limit f found c.discard-left.ensures.keeps c.discard-right.ensures.keeps c.discard-left.ensures.rest c.discard-right.ensures.rest in
    let gone = rw s.same at c.discard-right.ensures.gone in
    let left = under c.args.nodes.now.slots c.in-Fork.parts.left in
    let right = under c.args.nodes.now.slots c.in-Fork.parts.right in
    let lefts = without c.args.lo c.args.hi left in
    let rights = without c.args.lo c.args.hi right in
    rw (without-AtBoth f b, b.left_is, b.right_is, f.is) (omega (arith, c.discard-left.ensures.gone, gone, length-append left right, length-append lefts rights))

pub returns-in-Fork-clause-nodes : goal.returns-in-Fork-clause-nodes
returns-in-Fork-clause-nodes g t c =
    let found = c.index.ensures ∙ ap (λ n. Some n) c.in-Fork.is in
    let f = at_fork c.in-Fork.parts c.requires.limit found c.requires.tree in
    let s = at_second c.requires.limit f c.discard-left.ensures.keeps in
    let b = at_both c.args.lo c.args.hi c.discard-left.result.key c.discard-right.result.key c.requires.limit f found c.discard-left.ensures.keeps c.discard-right.ensures.keeps c.discard-left.ensures.rest c.discard-right.ensures.rest in
    let second = rw s.same at c.discard-right.ensures.nodes in
    let third = rw (b.left_is, b.right_is) at c.join.ensures.nodes in
    let left = under c.args.nodes.now.slots c.in-Fork.parts.left in
    let right = under c.args.nodes.now.slots c.in-Fork.parts.right in
    rw (without-AtBoth f b, b.left_is, b.right_is, f.is) (omega (arith, c.discard-left.ensures.nodes, second, third, f.left.some, f.right.some, length-append left right))
