-- The tree at hand has its indexes within the bounds, which come closer at each step.
use Rattle.std.proofs.Common.{◌≡◌, ◌-◌}
use Rattle.slab.specs.Slab.{slab_len}
use Rattle.gm_radix.proofs.Descents.{Descends}
use Rattle.gm_radix.proofs.inserting.insert.Given as goal

abbrev pub invariant-loop-half : goal.invariant-loop-half
invariant-loop-half g l = Descends l.initial.nodes l.nodes l.root l.key l.from l.to l.index l.added l.value × (slab_len l.nodes ≡ slab_len l.initial.nodes) × (l.nodes.capacity ≡ l.initial.nodes.capacity)

abbrev pub decreases-loop-half : goal.decreases-loop-half
decreases-loop-half g l = l.to - l.from
