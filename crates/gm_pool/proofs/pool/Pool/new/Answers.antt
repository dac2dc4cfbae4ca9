use Rattle.std.proofs.Common.{arith}
use Rattle.gm_pool.proofs.Standing.{stands_new}
use Rattle.gm_pool.proofs.pool.Pool.new.Goals as goal

pub invariant_of-result : goal.invariant_of-result
invariant_of-result c =
    stands_new c.in_ok-uses.uses.items c.in_ok-free.free c.in_ok-blocks.blocks c.args.frames c.in_ok-uses.ensures (omega arith) c.in_ok-free.ensures.numbers c.in_ok-free.ensures.len c.in_ok-blocks.ensures.numbers c.in_ok-blocks.ensures.len
