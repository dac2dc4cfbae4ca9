-- The tree that is left to search has the value that the whole tree has, and each part of a node has fewer indexes.
use Rattle.std.proofs.Common.{◌≡◌}
use Rattle.gm_radix.specs.Entries.{lookup}
use Rattle.gm_radix.specs.Nodes.{under, IsTree}
use Rattle.gm_radix.proofs.Widths.{width_at}
use Rattle.gm_radix.proofs.tree.get.Given as goal

abbrev pub invariant-loop-at : goal.invariant-loop-at
invariant-loop-at g l = record {
  tree : IsTree l.nodes.slots l.key;
  same : lookup l.index (under l.nodes.slots l.key) ≡ lookup l.index (under l.nodes.slots l.initial.key);
}

abbrev pub decreases-loop-at : goal.decreases-loop-at
decreases-loop-at g l = width_at l.nodes.slots l.key
