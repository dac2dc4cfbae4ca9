use Rattle.std.proofs.Common.{ap}
use Rattle.gm_state.specs.Views.{StateView}
use Rattle.gm_turns.proofs.FileGets.{cached_turn, may_hold}
use Rattle.gm_turns.proofs.FaultTurns.{in_flight}
use Rattle.gm_turns.proofs.faults.get_cached.Goals as goal
use Rattle.gm_turns.specs.Standing.{memory_of}

pub hold-requires : goal.hold-requires
hold-requires c = may_hold c.args.core.now c.args.v c.args.folio c.requires.ready c.requires.live

pub returns : goal.returns
returns c =
    let k = c.args.core.now in
    rw (c.note.ensures, c.get.ensures)
    (cached_turn k c.args.v c.args.folio c.hold.new.self c.requires.ready c.requires.looked c.requires.may
    (record { slots_are = ap (λ (x : StateView). x.slots) c.hold.ensures.others; is = c.hold.ensures.is k.setup (memory_of k.setup k.log.past) c.requires.ready.settled.stands.state.is }))

pub get-requires-clause-in_flight : goal.get-requires-clause-in_flight
get-requires-clause-in_flight c = in_flight _ c.requires.looked
