use Rattle.gm_pool.proofs.Standing.{stands_taken}
use Rattle.gm_pool.proofs.frames.take.Goals as goal

pub returns-clause-stands : goal.returns-clause-stands
returns-clause-stands c =
    stands_taken c.args.uses.now.items c.args.free.now c.args.blocks.now c.take_out.new.self c.leave_out.new.self c.args.frame _ c.requires.stands c.requires.free
    c.take_out.ensures.numbers c.take_out.ensures.len c.leave_out.ensures.numbers c.leave_out.ensures.len
