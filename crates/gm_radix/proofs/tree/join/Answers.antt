use Rattle.std.proofs.Common.{inl, inr, arith, length-append, append-nil}
use Rattle.gm_radix.specs.declared.node.Node.TheVariants.{Fork}
use Rattle.gm_radix.specs.Nodes.{under, entries_of}
use Rattle.gm_radix.proofs.Frames.{fork_over, Holds-updates, HoldsRest-updates, HoldsRest-wider}
use Rattle.gm_radix.proofs.Held.{Holds-some, Holds-wider}
use Rattle.gm_radix.proofs.tree.join.Goals as goal

pub returns-in-Some-Some-clause-rest : goal.returns-in-Some-Some-clause-rest
returns-in-Some-Some-clause-rest g c =
    let l = rw c.in-Some-Some.is-0 at c.requires.left in
    let r = rw c.in-Some-Some.is-1 at c.requires.right in
    let updates = c.link.ensures.updates in
    rw (c.in-Some-Some.is-0, c.in-Some-Some.is-1) (fork_over updates.changed (Holds-updates (Fork c.args.parts) updates c.requires.fork (inr c.requires.high) l) (Holds-updates (Fork c.args.parts) updates c.requires.fork (inl c.requires.low) r) (rw (c.in-Some-Some.is-0, c.in-Some-Some.is-1) at c.requires.count))

pub returns-in-Some-Some-clause-nodes : goal.returns-in-Some-Some-clause-nodes
returns-in-Some-Some-clause-nodes g c =
    let l = rw c.in-Some-Some.is-0 at c.requires.left in
    let r = rw c.in-Some-Some.is-1 at c.requires.right in
    let slots = c.args.nodes.now.slots in
    rw (c.in-Some-Some.is-0, c.in-Some-Some.is-1) (omega (arith, c.link.ensures.len, Holds-some l, Holds-some r, length-append (under slots c.in-Some-Some.left) (under slots c.in-Some-Some.right)))

pub returns-in-Some-None-clause-rest : goal.returns-in-Some-None-clause-rest
returns-in-Some-None-clause-rest g c =
    let l = rw c.in-Some-None.is-0 at c.requires.left in
    rw (c.in-Some-None.is-0, c.in-Some-None.is-1, append-nil) (Holds-wider _ _ (omega arith) (omega arith) (Holds-updates (Fork c.args.parts) c.remove.ensures.updates c.requires.fork (inr c.requires.high) l))

pub returns-in-None-default-clause-rest : goal.returns-in-None-default-clause-rest
returns-in-None-default-clause-rest g c =
    let right = entries_of c.args.nodes.now.slots c.args.right in
    rw c.in-None-default.is-0 (HoldsRest-wider _ c.args.parts.block.pivot c.args.parts.block.end right c.args.right _ _ (omega arith) (omega arith) (HoldsRest-updates _ _ right c.args.right (Fork c.args.parts) c.remove-in-None-default.ensures.updates c.requires.fork (inl c.requires.low) c.requires.right))
