use Rattle.std.proofs.Common.{◌≡◌, Some, sym, ◌∙◌, arith}
use Rattle.gm_flat.specs.Slots.{slot_by_id}
use Rattle.gm_slots.specs.Kept.{IsKept}
use Rattle.gm_slots.proofs.ById.{id_of}
use Rattle.gm_slots.proofs.Keeping.{begin_there, clear_of, kept_listed, kept_move, kept_now, kept_view}
use Rattle.gm_slots.proofs.Orders.{rises_take}
use Rattle.gm_slots.proofs.kept.KeptSlots.move_id.Goals as goal

pub take_begin-requires-clause-there : goal.take_begin-requires-clause-there
take_begin-requires-clause-there c =
    let k : IsKept c.args.self.now c.self.inside.table.items c.self.inside.ages.items c.self.inside.order.items = kept_now _ _ _ _ c.self.view_is c.self.invariant.0 in
    let found : slot_by_id c.args.self.now c.args.id ≡ Some c.in-Some.slot = sym c.by_id.ensures ∙ c.in-Some.is in
    begin_there c.args.self.now c.self.inside.order.items c.args.id c.in-Some.slot k.by_base found

pub put_begin-requires-clause-order : goal.put_begin-requires-clause-order
put_begin-requires-clause-order c =
    let k : IsKept c.args.self.now c.self.inside.table.items c.self.inside.ages.items c.self.inside.order.items = kept_now _ _ _ _ c.self.view_is c.self.invariant.0 in
    rises_take c.self.inside.order.items c.take_begin.new.order.items c.in-Some.slot.base k.by_base.rises c.take_begin.ensures.taken

pub index_mut-requires : goal.index_mut-requires
index_mut-requires c =
    let k : IsKept c.args.self.now c.self.inside.table.items c.self.inside.ages.items c.self.inside.order.items = kept_now _ _ _ _ c.self.view_is c.self.invariant.0 in
    let found : slot_by_id c.args.self.now c.args.id ≡ Some c.in-Some.slot = sym c.by_id.ensures ∙ c.in-Some.is in
    omega (arith, k.by_id.places, id_of c.args.self.now c.args.id c.in-Some.slot k.good found)

pub invariant_of-self : goal.invariant_of-self
invariant_of-self c =
    let k : IsKept c.args.self.now c.self.inside.table.items c.self.inside.ages.items c.self.inside.order.items = kept_now _ _ _ _ c.self.view_is c.self.invariant.0 in
    let found : slot_by_id c.args.self.now c.args.id ≡ Some c.in-Some.slot = sym c.by_id.ensures ∙ c.in-Some.is in
    (kept_view _ _ _ _ (kept_move c.args.self.now _ _ c.self.inside.order.items c.take_begin.new.order.items _ c.args.id c.args.base c.in-Some.slot c.at_base.result k found c.at_base.ensures (clear_of c.args.self.now c.args.id c.args.base c.in-Some.slot found c.requires) c.take_begin.ensures.taken c.put_begin.ensures.put), c.self.invariant.1, omega (arith, c.self.invariant.2, c.take_begin.ensures.capacity, c.put_begin.ensures.capacity))

pub returns-in-Some : goal.returns-in-Some
returns-in-Some c =
    let k : IsKept c.args.self.now c.self.inside.table.items c.self.inside.ages.items c.self.inside.order.items = kept_now _ _ _ _ c.self.view_is c.self.invariant.0 in
    let found : slot_by_id c.args.self.now c.args.id ≡ Some c.in-Some.slot = sym c.by_id.ensures ∙ c.in-Some.is in
    kept_listed _ _ _ _ (kept_move c.args.self.now _ _ c.self.inside.order.items c.take_begin.new.order.items _ c.args.id c.args.base c.in-Some.slot c.at_base.result k found c.at_base.ensures (clear_of c.args.self.now c.args.id c.args.base c.in-Some.slot found c.requires) c.take_begin.ensures.taken c.put_begin.ensures.put)
