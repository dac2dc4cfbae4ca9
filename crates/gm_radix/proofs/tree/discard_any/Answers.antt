use Rattle.std.proofs.Common.{arith}
use Rattle.gm_radix.specs.Nodes.{under}
use Rattle.gm_radix.proofs.Counts.{without-count_none}
use Rattle.gm_radix.proofs.tree.discard_any.Goals as goal

pub returns-then-count_in-eq0-clause-rest : goal.returns-then-count_in-eq0-clause-rest
returns-then-count_in-eq0-clause-rest g c =
    let none = without-count_none c.args.lo c.args.hi (under c.args.nodes.now.slots c.args.key) (omega (arith, c.count_in.ensures, c.if-count_in-eq0.true)) in
    rw none c.requires

pub returns-then-count_in-eq0-clause-gone : goal.returns-then-count_in-eq0-clause-gone
returns-then-count_in-eq0-clause-gone g c =
    let none = without-count_none c.args.lo c.args.hi (under c.args.nodes.now.slots c.args.key) (omega (arith, c.count_in.ensures, c.if-count_in-eq0.true)) in
    rw none (omega arith)

pub returns-then-count_in-eq0-clause-nodes : goal.returns-then-count_in-eq0-clause-nodes
returns-then-count_in-eq0-clause-nodes g c =
    let none = without-count_none c.args.lo c.args.hi (under c.args.nodes.now.slots c.args.key) (omega (arith, c.count_in.ensures, c.if-count_in-eq0.true)) in
    rw none (omega arith)
