use Rattle.std.proofs.Common.{arith, ap}
use Rattle.gm_base.specs.declared.values.Actor.TheVariants.{Caller}
use Rattle.gm_state.specs.Views.{StateView}
use Rattle.gm_turns.proofs.NewPages.{few_pages, has_block_room, in_progress, is_inside, range_ends, unchanged_ready}
use Rattle.gm_turns.proofs.Populations.{copy_inside, populate_turn}
use Rattle.gm_turns.proofs.pages.copy_page.Goals as goal
use Rattle.gm_turns.specs.Standing.{memory_of}

pub overflow_add-index : goal.overflow_add-index
overflow_add-index c = let e = range_ends c.args.core.now c.args.c c.args.plan c.requires.ready c.requires.at.adds in let m = c.requires.at.more in omega arith

pub overflow_add-from : goal.overflow_add-from
overflow_add-from c =
    let e = (copy_inside c.args.core.now c.args.c c.args.base c.args.from c.args.pages c.args.plan c.requires.ready c.requires.at).1 in
    let l = c.requires.ready.settled.limits.user in
    let m = c.requires.at.more in
    omega arith

pub add_copy-requires-clause-inside : goal.add_copy-requires-clause-inside
add_copy-requires-clause-inside c = let m = c.requires.at.more in is_inside c.args.core.now c.args.c _ c.args.plan c.requires.ready c.requires.at.adds (omega arith)

pub add_copy-requires-clause-room : goal.add_copy-requires-clause-room
add_copy-requires-clause-room c = let b = has_block_room c.args.core.now c.args.c c.args.plan c.requires.ready c.requires.at.adds in omega arith

pub add_copy-requires-clause-user : goal.add_copy-requires-clause-user
add_copy-requires-clause-user c =
    let e = (copy_inside c.args.core.now c.args.c c.args.base c.args.from c.args.pages c.args.plan c.requires.ready c.requires.at).1 in
    let n = c.requires.ready.settled.stands.state.is.user.count_is in
    let m = c.requires.at.more in
    omega arith

pub page-requires-clause-open : goal.page-requires-clause-open
page-requires-clause-open c = in_progress c.args.plan _ c.requires.at.adds

pub page-requires-clause-bound : goal.page-requires-clause-bound
page-requires-clause-bound c = few_pages c.args.core.now c.args.c c.args.plan c.requires.ready c.requires.at.adds

pub stop-requires-clause-ready : goal.stop-requires-clause-ready
stop-requires-clause-ready c = unchanged_ready c.args.core.now c.add_copy.new.self (Caller c.args.c) c.in-None.ensures.unchanged c.requires.ready

pub stop-requires-clause-stops : goal.stop-requires-clause-stops
stop-requires-clause-stops c =
    let k = c.args.core.now in
    (c.requires.open, c.requires.is_private, c.in-None.ensures.none k.setup (memory_of k.setup k.log.past) c.requires.ready.settled.stands.state.is)

pub returns-in-Some : goal.returns-in-Some
returns-in-Some c =
    let k = c.args.core.now in
    let tie = c.requires.ready.settled.stands.state.is in
    rw (c.note.ensures, c.page.ensures)
    (populate_turn k c.args.c c.args.base c.args.from c.args.pages c.args.plan c.in-Some.folio c.add_copy.new.self c.requires.ready c.requires.at c.requires.open c.requires.is_private
    (ap (λ (x : StateView). x.slots) c.add_copy.ensures.others) (c.in-Some.ensures.some k.setup (memory_of k.setup k.log.past) tie))
