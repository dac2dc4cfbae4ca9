use Rattle.gm_turns.proofs.FaultTurns.{few_ended}
use Rattle.gm_turns.proofs.GuestTouches.{fill_turn, is_older, serves}
use Rattle.gm_state.specs.Accessing.{CanAccess}
use Rattle.gm_turns.specs.Standing.{memory_of}
use Rattle.gm_turns.proofs.touches.touch_by_fill.Goals as goal

pub touch-requires-clause-bound : goal.touch-requires-clause-bound
touch-requires-clause-bound c = few_ended c.args.core.now c.args.v c.requires.ready

pub returns : goal.returns
returns c =
    let k = c.args.core.now in
    let m = memory_of k.setup k.log.past in
    let can : CanAccess k.setup k.state m c.backing_of-backing.result = record { is = c.requires.ready.settled.stands.state.is; there = c.backing_of-backing.ensures.there } in
    let x = serves k c.args.v c.args.access c.args.fill c.requires.ready.settled c.requires.ready.actor_is c.requires.hit in
    rw (c.note.ensures, c.touch.ensures, c.touch_of.ensures) (fill_turn k c.args.v c.args.access c.backing_of-backing.result c.args.fill c.access-value.result c.access-value.new.self
    (record {
      ready = c.requires.ready;
      is_inside = c.requires.is_inside;
      command = c.requires.command;
      served_by = c.backing_of-backing.ensures.served_by;
      value_is = c.access-value.ensures.value k.setup m can;
      state_is = c.access-value.ensures.is k.setup m can;
      slots_same = c.access-value.ensures.slots;
    })
    (is_older k c.args.v c.args.access c.args.fill x c.requires.older))
