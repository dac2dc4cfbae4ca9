use Rattle.std.proofs.Common.{ap}
use Rattle.gm_state.specs.Views.{StateView}
use Rattle.gm_turns.proofs.FaultTurns.{in_flight}
use Rattle.gm_turns.proofs.FileGets.{may_leave}
use Rattle.gm_turns.proofs.NewFolios.{has_room, is_inside, is_small, new_turn, nothing_cached, route_looked}
use Rattle.gm_turns.proofs.faults.get_new.Goals as goal
use Rattle.gm_turns.specs.Standing.{memory_of}

pub first_use-requires-clause-stands : goal.first_use-requires-clause-stands
first_use-requires-clause-stands c =
    let k = c.args.core.now in
    (k.setup, memory_of k.setup k.log.past, c.requires.ready.settled.stands.state.is)

pub first_use-requires-clause-free : goal.first_use-requires-clause-free
first_use-requires-clause-free c = nothing_cached c.args.core.now c.args.v c.args.file c.args.index c.requires.ready c.requires.free

pub first_use-requires-clause-inside : goal.first_use-requires-clause-inside
first_use-requires-clause-inside c = is_inside c.args.core.now c.args.v c.args.file c.args.index c.requires.ready c.requires.route c.requires.used

pub first_use-requires-clause-small : goal.first_use-requires-clause-small
first_use-requires-clause-small c = is_small c.args.core.now c.args.v c.args.file c.requires.ready

pub first_use-requires-clause-room : goal.first_use-requires-clause-room
first_use-requires-clause-room c = has_room c.args.core.now c.args.v c.args.file c.args.index c.requires.ready c.requires.route c.requires.used

pub get-requires-clause-in_flight : goal.get-requires-clause-in_flight
get-requires-clause-in_flight c = in_flight _ (route_looked _ _ c.requires.route)

pub exit-requires-clause-looked : goal.exit-requires-clause-looked
exit-requires-clause-looked c = route_looked _ _ c.requires.route

pub exit-requires-clause-may : goal.exit-requires-clause-may
exit-requires-clause-may c =
    let k = c.args.core.now in
    let full = c.in-None.ensures.none k.setup (memory_of k.setup k.log.past) c.requires.ready.settled.stands.state.is in
    may_leave k c.args.v c.args.file c.args.index c.requires.ready c.requires.route c.requires.used c.requires.free full

pub returns-in-Some : goal.returns-in-Some
returns-in-Some c =
    let k = c.args.core.now in
    let tie = c.requires.ready.settled.stands.state.is in
    rw (c.note.ensures, c.get.ensures)
    (new_turn k c.args.v c.args.file c.args.index c.in-Some.used c.first_use.new.self c.requires.ready c.requires.route c.requires.used c.requires.free
    (ap (λ (x : StateView). x.slots) c.first_use.ensures.others) (c.in-Some.ensures.some k.setup (memory_of k.setup k.log.past) tie))
