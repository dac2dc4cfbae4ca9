use Rattle.std.proofs.Common.{◌≡◌, ℕ, length}
use Rattle.gm_pool.specs.Pools.{Stands, use_in, use_after}
use Rattle.gm_pool.proofs.frames.take_block.Given as goal

abbrev pub invariant-loop-offset : goal.invariant-loop-offset
invariant-loop-offset l = record {
  stands : Stands l.uses.items l.free l.blocks;
  taken : (frame : ℕ) → use_in l.uses.items frame ≡ use_after l.initial.uses.items l.first l.offset l.serial frame;
  len : length l.uses.items ≡ length l.initial.uses.items;
}
