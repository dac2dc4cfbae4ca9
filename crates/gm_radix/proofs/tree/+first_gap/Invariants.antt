-- Each part of a node has fewer indexes than the node.
use Rattle.gm_radix.proofs.Widths.{width_at}
use Rattle.gm_radix.proofs.tree.+first_gap.Given as goal

abbrev pub decreases-first_gap : goal.decreases-first_gap
decreases-first_gap g l = width_at l.nodes.now.slots l.key
