use Rattle.std.proofs.Common.{arith, ◌∙◌}
use Rattle.gm_radix.proofs.Descents.{closer, goes_on, room_to_count}
use Rattle.gm_radix.proofs.Held.{Holds-some, Holds-wider}
use Rattle.gm_radix.proofs.inserting.insert.Goals as goal

pub step-requires-clause-tree : goal.step-requires-clause-tree
step-requires-clause-tree g c =
    let d = c.loop-half.invariant.0 in
    Holds-wider 0 _ (omega arith) d.limit d.part

pub step-requires-clause-limit : goal.step-requires-clause-limit
step-requires-clause-limit g c = λ p found. room_to_count p c.loop-half.invariant.0 found

pub loop-half-smaller : goal.loop-half-smaller
loop-half-smaller g c =
    let s = c.in-Some.ensures.some in
    closer s.0 c.in-Some.half c.loop-half.invariant.0 s.1 s.5

pub loop-half-preserved : goal.loop-half-preserved
loop-half-preserved g c =
    let i = c.loop-half.invariant in
    let s = c.in-Some.ensures.some in
    (goes_on s.0 c.in-Some.half i.0 s.1 s.2 s.3 s.4 s.5, c.in-Some.ensures.len ∙ i.1, c.in-Some.ensures.capacity ∙ i.2)

pub returns-clause-nodes : goal.returns-clause-nodes
returns-clause-nodes g c =
    let i = c.loop-half.invariant in
    omega (arith, i.0.grows, i.1, Holds-some i.0.part, rw c.in_default.ensures.same at c.insert_at.ensures.nodes)
