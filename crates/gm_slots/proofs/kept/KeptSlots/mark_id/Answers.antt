use Rattle.std.proofs.Common.{◌≡◌, Some, sym, ◌∙◌, arith}
use Rattle.gm_flat.specs.Slots.{slot_by_id}
use Rattle.gm_slots.specs.Kept.{IsKept}
use Rattle.gm_slots.proofs.ById.{id_of}
use Rattle.gm_slots.proofs.Keeping.{kept_listed, kept_mark, kept_now, kept_view, marked_none}
use Rattle.gm_slots.proofs.kept.KeptSlots.mark_id.Goals as goal

pub index_mut-requires : goal.index_mut-requires
index_mut-requires c =
    let k : IsKept c.args.self.now c.self.inside.table.items c.self.inside.ages.items c.self.inside.order.items = kept_now _ _ _ _ c.self.view_is c.self.invariant.0 in
    let found : slot_by_id c.args.self.now c.args.id ≡ Some c.in-Some.slot = sym c.by_id.ensures ∙ c.in-Some.is in
    omega (arith, k.by_id.places, id_of c.args.self.now c.args.id c.in-Some.slot k.good found)

pub invariant_of-self : goal.invariant_of-self
invariant_of-self c =
    let k : IsKept c.args.self.now c.self.inside.table.items c.self.inside.ages.items c.self.inside.order.items = kept_now _ _ _ _ c.self.view_is c.self.invariant.0 in
    let found : slot_by_id c.args.self.now c.args.id ≡ Some c.in-Some.slot = sym c.by_id.ensures ∙ c.in-Some.is in
    (kept_view _ _ _ _ (kept_mark c.args.self.now _ _ _ c.args.id c.in-Some.slot c.with_mark.result k found c.with_mark.ensures), c.self.invariant.1, c.self.invariant.2)

pub returns-in-Some : goal.returns-in-Some
returns-in-Some c =
    let k : IsKept c.args.self.now c.self.inside.table.items c.self.inside.ages.items c.self.inside.order.items = kept_now _ _ _ _ c.self.view_is c.self.invariant.0 in
    let found : slot_by_id c.args.self.now c.args.id ≡ Some c.in-Some.slot = sym c.by_id.ensures ∙ c.in-Some.is in
    kept_listed _ _ _ _ (kept_mark c.args.self.now _ _ _ c.args.id c.in-Some.slot c.with_mark.result k found c.with_mark.ensures)

pub returns-in_default : goal.returns-in_default
returns-in_default c = sym (marked_none c.args.self.now c.args.id (sym c.by_id.ensures ∙ c.in_default.is))
