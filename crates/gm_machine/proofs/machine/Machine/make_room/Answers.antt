use Rattle.gm_machine.proofs.Stepping.{room_roomier, room_set}
use Rattle.gm_machine.proofs.machine.Machine.make_room.Goals as goal

pub invariant_of-self : goal.invariant_of-self
invariant_of-self c =
    let r = c.make_room.ensures.roomier in
    (r.settled c.self.invariant.0, room_roomier c.self.inside.core c.make_room.new.core c.self.inside.room r c.self.invariant.1)

pub invariant_of-self-2 : goal.invariant_of-self-2
invariant_of-self-2 c =
    let r = c.make_room.ensures.roomier in (
      r.settled c.self.invariant.0,
      rw c.set.ensures.flags (room_set c.make_room.new.core c.self.inside.room c.args.actor (room_roomier c.self.inside.core c.make_room.new.core c.self.inside.room r c.self.invariant.1) c.in_ok-make_room.ensures.ok),
    )
