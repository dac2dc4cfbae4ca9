use Rattle.std.proofs.Common.{arith}
use Rattle.gm_turns.proofs.NewPages.{allocates_all, first_open, range_ends}
use Rattle.gm_turns.proofs.pages.allocate.Goals as goal
use Rattle.gm_turns.specs.Standing.{memory_of}

pub overflow_add-end : goal.overflow_add-end
overflow_add-end c = let e = range_ends c.args.core.now c.args.c c.args.plan c.requires.ready c.requires.adds in omega arith

pub allocate_at-requires-clause-first : goal.allocate_at-requires-clause-first
allocate_at-requires-clause-first c =
    let k = c.args.core.now in
    first_open k c.args.plan c.in-Some.index (c.in-Some.ensures.first k.setup (memory_of k.setup k.log.past) c.requires.ready.settled.stands.state.is)

pub answer_pages-requires-clause-ends : goal.answer_pages-requires-clause-ends
answer_pages-requires-clause-ends c =
    let k = c.args.core.now in
    (c.args.plan, c.requires.adds, allocates_all k c.args.c c.args.plan c.requires.allocates (c.in-None.ensures.none k.setup (memory_of k.setup k.log.past) c.requires.ready.settled.stands.state.is))
