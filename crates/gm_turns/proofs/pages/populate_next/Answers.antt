use Rattle.std.proofs.Common.{◌∙◌, arith, sym}
use Rattle.gm_turns.proofs.NewPages.{range_ends, some_there}
use Rattle.gm_turns.proofs.pages.populate_next.Goals as goal
use Rattle.gm_turns.specs.Standing.{memory_of}

pub overflow_add-plan : goal.overflow_add-plan
overflow_add-plan c = let e = range_ends c.args.core.now c.args.c c.args.plan c.requires.ready c.requires.at.adds in let m = c.requires.at.more in omega arith

pub stop-requires-clause-stops : goal.stop-requires-clause-stops
stop-requires-clause-stops c =
    let k = c.args.core.now in
    some_there _ _ (sym (c.cached.ensures k.setup (memory_of k.setup k.log.past) c.requires.ready.settled.stands.state.is) ∙ c.in-Some.is)

pub populate_open-requires-clause-open : goal.populate_open-requires-clause-open
populate_open-requires-clause-open c =
    let k = c.args.core.now in
    sym (c.cached.ensures k.setup (memory_of k.setup k.log.past) c.requires.ready.settled.stands.state.is) ∙ c.in-None.is
