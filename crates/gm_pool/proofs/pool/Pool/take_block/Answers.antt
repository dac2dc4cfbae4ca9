use Rattle.std.proofs.Common.{◌*◌, refl, sym, subst, arith}
use Rattle.gm_pool.specs.Bits.{bit_in}
use Rattle.gm_pool.specs.Pools.{Frames, FreeBlock}
use Rattle.gm_pool.proofs.Standing.{block_small, no_true}
use Rattle.gm_pool.proofs.pool.Pool.take_block.Goals as goal

pub overflow_mul-first : goal.overflow_mul-first
overflow_mul-first c = omega (arith, block_small c.self.inside.uses.items c.self.inside.free c.self.inside.blocks c.in_ok-block.block c.self.invariant c.in_ok-block.ensures.within)

pub overflow_cast-result : goal.overflow_cast-result
overflow_cast-result c = omega (arith, block_small c.self.inside.uses.items c.self.inside.free c.self.inside.blocks c.in_ok-block.block c.self.invariant c.in_ok-block.ensures.within)

pub returns-clause-aligned : goal.returns-clause-aligned
returns-clause-aligned c = (
  c.in_ok-block.block,
  refl,
  λ other less whole.
      no_true (bit_in c.self.inside.blocks other) (c.in_ok-block.ensures.lowest other less)
      (c.self.invariant.block other (subst (λ (frames : Frames). FreeBlock frames.uses (512 * other)) (sym c.self.view_is) whole)),
)
