-- Each part of a node has fewer indexes than the node.
use Rattle.gm_radix.proofs.Widths.{width_at}
use Rattle.gm_radix.proofs.tree.+collect.Given as goal

abbrev pub decreases-collect : goal.decreases-collect
decreases-collect g l = width_at l.nodes.now.slots l.key
