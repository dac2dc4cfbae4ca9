-- The tree that is left to count has as many entries in the range as the whole, and each part of a node has fewer indexes.
use Rattle.std.proofs.Common.{◌≡◌}
use Rattle.gm_radix.specs.Entries.{count_within}
use Rattle.gm_radix.specs.Nodes.{under, IsTree}
use Rattle.gm_radix.proofs.Widths.{width_at}
use Rattle.gm_radix.proofs.tree.count_in.Given as goal

abbrev pub invariant-loop-at : goal.invariant-loop-at
invariant-loop-at g l = record {
  tree : IsTree l.nodes.slots l.key;
  same : count_within l.lo l.hi (under l.nodes.slots l.key) ≡ count_within l.lo l.hi (under l.nodes.slots l.initial.key);
}

abbrev pub decreases-loop-at : goal.decreases-loop-at
decreases-loop-at g l = width_at l.nodes.slots l.key
