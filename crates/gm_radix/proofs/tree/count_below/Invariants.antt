-- What is left to count and what is counted are what there was to count, and each part of a node has fewer indexes.
use Rattle.std.proofs.Common.{◌≡◌, ◌+◌, ◌≤◌, length}
use Rattle.gm_base.specs.declared.numbers.TheConstants.{PAGE_LIMIT}
use Rattle.gm_radix.specs.Entries.{count_within}
use Rattle.gm_radix.specs.Nodes.{under, IsTree}
use Rattle.gm_radix.proofs.Widths.{width_at}
use Rattle.gm_radix.proofs.tree.count_below.Given as goal

abbrev pub invariant-loop-at : goal.invariant-loop-at
invariant-loop-at g l = record {
  tree : IsTree l.nodes.slots l.key;
  same : l.passed + count_within 0 l.index (under l.nodes.slots l.key) ≡ count_within 0 l.index (under l.nodes.slots l.initial.key);
  few : l.passed + length (under l.nodes.slots l.key) ≤ PAGE_LIMIT;
}

abbrev pub decreases-loop-at : goal.decreases-loop-at
decreases-loop-at g l = width_at l.nodes.slots l.key
