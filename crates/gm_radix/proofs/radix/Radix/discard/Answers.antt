use Rattle.std.proofs.Common.{arith, sym}
use Rattle.gm_radix.specs.Nodes.{under}
use Rattle.gm_radix.specs.Entries.{without}
use Rattle.gm_radix.proofs.Frames.{entries_of-HoldsRest}
use Rattle.gm_radix.proofs.Lists.{without-none}
use Rattle.gm_radix.proofs.Kept.{IsKept-HoldsRest}
use Rattle.gm_radix.proofs.radix.Radix.discard.Goals as goal

pub invariant_of-self : goal.invariant_of-self
invariant_of-self g c =
    let kept = rw c.in-Some.is at c.self.invariant in
    let nodes = kept.nodes in
    let rest = c.discard_any-rest.ensures in
    IsKept-HoldsRest _ c.discard_any-rest.result.key (without c.args.lo c.args.hi (under c.self.inside.nodes.slots c.in-Some.key)) _ _ _ rest.rest (omega (arith, nodes, rest.nodes, rest.gone)) (omega (arith, nodes, kept.room, rest.nodes, rest.gone, rest.capacity))

pub returns-clause-entries : goal.returns-clause-entries
returns-clause-entries g c =
    let kept = rw c.in-Some.is at c.self.invariant in
    rw (← c.self.view_is, c.in-Some.is) (entries_of-HoldsRest _ _ _ _ c.discard_any-rest.result.key (omega arith) c.discard_any-rest.ensures.rest)

pub returns-clause-count : goal.returns-clause-count
returns-clause-count g c =
    let kept = rw c.in-Some.is at c.self.invariant in
    rw (entries_of-HoldsRest _ _ _ _ c.discard_any-rest.result.key (omega arith) c.discard_any-rest.ensures.rest, ← c.self.view_is, c.in-Some.is) c.discard_any-rest.ensures.gone

pub returns-then-hi-lo-clause-entries : goal.returns-then-hi-lo-clause-entries
returns-then-hi-lo-clause-entries g c = sym (without-none c.args.lo c.args.hi c.args.self.now.entries c.if-hi-lo.true)
