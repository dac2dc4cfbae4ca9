use Rattle.std.proofs.Common.{◌≡◌, replicate, []}
use Rattle.gm_mmu.proofs.mmu.empty_buffers.Given as goal

abbrev pub invariant-loop-made : goal.invariant-loop-made
invariant-loop-made l = l.buffers.items ≡ replicate l._made []
