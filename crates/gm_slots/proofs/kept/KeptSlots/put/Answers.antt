use Rattle.std.proofs.Common.{arith}
use Rattle.gm_slots.specs.Kept.{IsKept}
use Rattle.gm_slots.proofs.Keeping.{kept_listed, kept_now, kept_put, kept_view, room_for_age}
use Rattle.gm_slots.proofs.kept.KeptSlots.put.Goals as goal

pub put_last-requires : goal.put_last-requires
put_last-requires c =
    let k : IsKept c.args.self.now c.self.inside.table.items c.self.inside.ages.items c.self.inside.order.items = kept_now _ _ _ _ c.self.view_is c.self.invariant.0 in
    omega (arith, c.self.invariant.1, room_for_age c.args.self.now c.self.inside.table.items c.self.inside.ages.items c.self.inside.order.items c.args.slot k c.requires.absent c.requires.id c.requires.pages c.requires.apart)

pub put_begin-requires-clause-room : goal.put_begin-requires-clause-room
put_begin-requires-clause-room c =
    let k : IsKept c.args.self.now c.self.inside.table.items c.self.inside.ages.items c.self.inside.order.items = kept_now _ _ _ _ c.self.view_is c.self.invariant.0 in
    omega (arith, c.self.invariant.2, k.as_many, room_for_age c.args.self.now c.self.inside.table.items c.self.inside.ages.items c.self.inside.order.items c.args.slot k c.requires.absent c.requires.id c.requires.pages c.requires.apart)

pub invariant_of-self : goal.invariant_of-self
invariant_of-self c =
    let k : IsKept c.args.self.now c.self.inside.table.items c.self.inside.ages.items c.self.inside.order.items = kept_now _ _ _ _ c.self.view_is c.self.invariant.0 in
    (kept_view _ _ _ _ (kept_put c.args.self.now _ c.self.inside.ages.items c.put_last.new.ages.items c.self.inside.order.items _ c.args.slot k c.requires.absent c.requires.id c.requires.pages c.requires.apart c.put_last.ensures.items c.put_begin.ensures.put), omega (arith, c.self.invariant.1, c.put_last.ensures.capacity), omega (arith, c.self.invariant.2, c.put_begin.ensures.capacity))

pub returns : goal.returns
returns c =
    let k : IsKept c.args.self.now c.self.inside.table.items c.self.inside.ages.items c.self.inside.order.items = kept_now _ _ _ _ c.self.view_is c.self.invariant.0 in
    kept_listed _ _ _ _ (kept_put c.args.self.now _ c.self.inside.ages.items c.put_last.new.ages.items c.self.inside.order.items _ c.args.slot k c.requires.absent c.requires.id c.requires.pages c.requires.apart c.put_last.ensures.items c.put_begin.ensures.put)
