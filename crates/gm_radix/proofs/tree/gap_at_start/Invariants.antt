-- The tree that is left has no index below the gap so far, from which on it has the gap of the whole tree, and each part
-- of a node has fewer indexes.
use Rattle.std.proofs.Common.{◌≡◌}
use Rattle.gm_base.specs.declared.numbers.TheConstants.{PAGE_LIMIT}
use Rattle.gm_radix.specs.Entries.{gap_from}
use Rattle.gm_radix.specs.Nodes.{under, IsPart}
use Rattle.gm_radix.proofs.Widths.{width_at}
use Rattle.gm_radix.proofs.tree.gap_at_start.Given as goal

abbrev pub invariant-loop-at : goal.invariant-loop-at
invariant-loop-at g l = record {
  tree : IsPart l.nodes.slots l.key l.gap PAGE_LIMIT;
  same : gap_from l.gap (under l.nodes.slots l.key) ≡ gap_from l.initial.gap (under l.nodes.slots l.initial.key);
}

abbrev pub decreases-loop-at : goal.decreases-loop-at
decreases-loop-at g l = width_at l.nodes.slots l.key
