use Rattle.std.proofs.Common.{◌≡◌, ℕ, ◌<◌, List, None, Some, Option, get_or, length, set, subst, sym, ◌∙◌, arith}
use Rattle.std.specs.List.{Contains, remove}
use Rattle.gm_flat.specs.declared.views.SlotView.{SlotView}
use Rattle.gm_flat.specs.Slots.{slot_by_id}
use Rattle.gm_flat.specs.Effects.{dropped}
use Rattle.gm_slots.specs.declared.order.Begin.{Begin}
use Rattle.gm_slots.specs.Order.{IsTaken}
use Rattle.gm_slots.specs.Kept.{IsKept}
use Rattle.gm_slots.proofs.ById.{id_of}
use Rattle.gm_slots.proofs.Judging.{dropped_absent}
use Rattle.gm_slots.proofs.Keeping.{age_there, begin_there, kept_drop, kept_listed, kept_now, kept_view}
use Rattle.gm_slots.proofs.kept.KeptSlots.drop_id.Goals as goal

dropping : (slots : List SlotView) (table : List (Option SlotView)) (ages read aged : List ℕ) (order shorter : List Begin) (id at : ℕ) (s : SlotView) → IsKept slots table ages order → slot_by_id slots id ≡ Some s → read ≡ ages → at < length read → ((d : ℕ) → get_or read at d ≡ id) → aged ≡ remove ages at → IsTaken order shorter s.base → IsKept (dropped id slots) (set table id None) aged shorter
dropping slots table ages read aged order shorter id at s k found same h is fewer taken =
    kept_drop slots table ages aged order shorter id at s k found (subst (λ (l : List ℕ). at < length l) same h) (subst (λ (l : List ℕ). get_or l at id ≡ id) same (is id)) fewer taken

pub place_of-place-requires : goal.place_of-place-requires
place_of-place-requires c =
    let k : IsKept c.args.self.now c.self.inside.table.items c.self.inside.ages.items c.self.inside.order.items = kept_now _ _ _ _ c.self.view_is c.self.invariant.0 in
    let found : slot_by_id c.args.self.now c.args.id ≡ Some c.in-Some.slot = sym c.by_id.ensures ∙ c.in-Some.is in
    subst (λ (l : List ℕ). Contains l c.args.id) (sym c.deref.ensures.value) (age_there c.args.self.now c.self.inside.ages.items c.args.id c.in-Some.slot k.by_age found)

pub take_begin-requires-clause-there : goal.take_begin-requires-clause-there
take_begin-requires-clause-there c =
    let k : IsKept c.args.self.now c.self.inside.table.items c.self.inside.ages.items c.self.inside.order.items = kept_now _ _ _ _ c.self.view_is c.self.invariant.0 in
    let found : slot_by_id c.args.self.now c.args.id ≡ Some c.in-Some.slot = sym c.by_id.ensures ∙ c.in-Some.is in
    begin_there c.args.self.now c.self.inside.order.items c.args.id c.in-Some.slot k.by_base found

pub index_mut-requires : goal.index_mut-requires
index_mut-requires c =
    let k : IsKept c.args.self.now c.self.inside.table.items c.self.inside.ages.items c.self.inside.order.items = kept_now _ _ _ _ c.self.view_is c.self.invariant.0 in
    let found : slot_by_id c.args.self.now c.args.id ≡ Some c.in-Some.slot = sym c.by_id.ensures ∙ c.in-Some.is in
    omega (arith, k.by_id.places, id_of c.args.self.now c.args.id c.in-Some.slot k.good found)

pub invariant_of-self : goal.invariant_of-self
invariant_of-self c =
    let k : IsKept c.args.self.now c.self.inside.table.items c.self.inside.ages.items c.self.inside.order.items = kept_now _ _ _ _ c.self.view_is c.self.invariant.0 in
    let found : slot_by_id c.args.self.now c.args.id ≡ Some c.in-Some.slot = sym c.by_id.ensures ∙ c.in-Some.is in
    (kept_view _ _ _ _ (dropping c.args.self.now c.self.inside.table.items c.self.inside.ages.items c.deref.result.now c.remove.new.self.items c.self.inside.order.items c.take_begin.new.order.items c.args.id c.place_of-place.result c.in-Some.slot k found c.deref.ensures.value c.place_of-place.ensures.bound c.place_of-place.ensures.is c.remove.ensures.items c.take_begin.ensures.taken), omega (arith, c.self.invariant.1, c.remove.ensures.capacity), omega (arith, c.self.invariant.2, c.take_begin.ensures.capacity))

pub returns-in-Some : goal.returns-in-Some
returns-in-Some c =
    let k : IsKept c.args.self.now c.self.inside.table.items c.self.inside.ages.items c.self.inside.order.items = kept_now _ _ _ _ c.self.view_is c.self.invariant.0 in
    let found : slot_by_id c.args.self.now c.args.id ≡ Some c.in-Some.slot = sym c.by_id.ensures ∙ c.in-Some.is in
    kept_listed _ _ _ _ (dropping c.args.self.now c.self.inside.table.items c.self.inside.ages.items c.deref.result.now c.remove.new.self.items c.self.inside.order.items c.take_begin.new.order.items c.args.id c.place_of-place.result c.in-Some.slot k found c.deref.ensures.value c.place_of-place.ensures.bound c.place_of-place.ensures.is c.remove.ensures.items c.take_begin.ensures.taken)

pub returns-in_default : goal.returns-in_default
returns-in_default c = sym (dropped_absent c.args.self.now c.args.id (sym c.by_id.ensures ∙ c.in_default.is))
