use Rattle.std.proofs.Common.{ap}
use Rattle.gm_base.specs.declared.values.Actor.TheVariants.{Caller}
use Rattle.gm_state.specs.Views.{StateView}
use Rattle.gm_turns.proofs.NewPages.{allocate_turn, allocates_none, few_pages, has_room, is_inside, unchanged_ready}
use Rattle.gm_turns.proofs.pages.allocate_at.Goals as goal
use Rattle.gm_turns.specs.Standing.{memory_of}

pub add_first-requires-clause-inside : goal.add_first-requires-clause-inside
add_first-requires-clause-inside c = is_inside c.args.core.now c.args.c c.args.index c.args.plan c.requires.ready c.requires.adds c.requires.first.below

pub add_first-requires-clause-room : goal.add_first-requires-clause-room
add_first-requires-clause-room c = has_room c.args.core.now c.args.c c.args.plan c.requires.ready c.requires.adds

pub page-requires-clause-bound : goal.page-requires-clause-bound
page-requires-clause-bound c = few_pages c.args.core.now c.args.c c.args.plan c.requires.ready c.requires.adds

pub answer_pages-requires-clause-ready : goal.answer_pages-requires-clause-ready
answer_pages-requires-clause-ready c = unchanged_ready c.args.core.now c.add_first.new.self (Caller c.args.c) c.in-None.ensures.unchanged c.requires.ready

pub answer_pages-requires-clause-ends : goal.answer_pages-requires-clause-ends
answer_pages-requires-clause-ends c =
    let k = c.args.core.now in
    let full = c.in-None.ensures.none k.setup (memory_of k.setup k.log.past) c.requires.ready.settled.stands.state.is in
    (c.args.plan, c.requires.adds, allocates_none k c.args.c c.args.index c.args.plan c.requires.allocates c.requires.first full)

pub returns-in-Some : goal.returns-in-Some
returns-in-Some c =
    let k = c.args.core.now in
    let tie = c.requires.ready.settled.stands.state.is in
    rw (c.note.ensures, c.page.ensures)
    (allocate_turn k c.args.c c.args.index c.args.plan c.in-Some.used c.add_first.new.self c.requires.ready c.requires.adds c.requires.allocates c.requires.first
    (ap (λ (x : StateView). x.slots) c.add_first.ensures.others) (c.in-Some.ensures.some k.setup (memory_of k.setup k.log.past) tie))
