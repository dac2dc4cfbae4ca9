use Rattle.std.proofs.Common.{◌≡◌, ℕ, ◌-◌, ◌<◌, List, Bool, None, Some, get_or, length, true, false, subst, sym, ap, ◌∙◌, arith}
use Rattle.std.specs.Bool.{then_some}
use Rattle.std.proofs.lemmas.List.{get_or_default}
use Rattle.gm_flat.specs.declared.views.SlotView.{SlotView}
use Rattle.gm_flat.specs.Slots.{slot_by_id, slot_over, lies_over}
use Rattle.gm_slots.specs.declared.order.Begin.{Begin}
use Rattle.gm_slots.specs.Good.{Good}
use Rattle.gm_slots.specs.Kept.{ByBase, IsKept}
use Rattle.gm_slots.proofs.Finding.{Begun, find_none, find_some}
use Rattle.gm_slots.proofs.Keeping.{kept_now}
use Rattle.gm_slots.proofs.kept.KeptSlots.over.Goals as goal

-- the slot that is read there is the one
not_over : (slots : List SlotView) (order read : List Begin) (at page : ℕ) (b d : Begin) (s t : SlotView) → read ≡ order → at < length read → b ≡ get_or order at b → slot_by_id slots b.id ≡ Some s → slot_by_id slots (get_or read at d).id ≡ Some t → lies_over s page ≡ false → lies_over t page ≡ false
not_over slots order read at page b d s t same h is found again out = ap (λ (x : SlotView). lies_over x page) (one t s (sym again ∙ (ap (λ (x : Begin). slot_by_id slots x.id) that ∙ found))) ∙ out
  where
    that : get_or read at d ≡ b
    that = get_or_default read at d b h ∙ (ap (λ (l : List Begin). get_or l at b) same ∙ sym is)

    one : (x y : SlotView) → Some x ≡ Some y → x ≡ y
    one x y e = cc

pub returns-then-count-eq0 : goal.returns-then-count-eq0
returns-then-count-eq0 c =
    let k : IsKept c.args.self.now c.self.inside.table.items c.self.inside.ages.items c.self.inside.order.items = kept_now _ _ _ _ c.self.view_is c.self.invariant.0 in
    let by : ByBase c.args.self.now c.deref.result.now = subst (λ (l : List Begin). ByBase c.args.self.now l) (sym c.deref.ensures.value) k.by_base in
    let begun : Begun c.deref.result.now c.args.page c.count_begun-count.result = record { bound = c.count_begun-count.ensures.bound; low = c.count_begun-count.ensures.low; high = c.count_begun-count.ensures.high } in
    sym (find_none c.args.self.now c.deref.result.now c.count_begun-count.result c.args.page k.good by begun (λ h d s found. absurd (omega (arith, c.if-count-eq0.true))))

-- the slot that was found, where it lies over the page
tested : (slots : List SlotView) (id page : ℕ) (s : SlotView) → Good slots → slot_by_id slots id ≡ Some s → (lies_over s page ≡ false → slot_over slots page ≡ None) → (b : Bool) → b ≡ lies_over s page → then_some b s ≡ slot_over slots page
tested slots id page s g found none true e = sym (find_some slots id page s g found (sym e))
tested slots id page s g found none false e = sym (none (sym e))

pub returns : goal.returns
returns c =
    let k : IsKept c.args.self.now c.self.inside.table.items c.self.inside.ages.items c.self.inside.order.items = kept_now _ _ _ _ c.self.view_is c.self.invariant.0 in
    let by : ByBase c.args.self.now c.deref.result.now = subst (λ (l : List Begin). ByBase c.args.self.now l) (sym c.deref.ensures.value) k.by_base in
    let begun : Begun c.deref.result.now c.args.page c.count_begun-count.result = record { bound = c.count_begun-count.ensures.bound; low = c.count_begun-count.ensures.low; high = c.count_begun-count.ensures.high } in
    let found : slot_by_id c.args.self.now c.index.result.now.id ≡ Some c.in_ok-slot.slot = sym c.by_id.ensures ∙ c.in_ok-slot.was in
    c.then_some.ensures
    ∙ tested c.args.self.now c.index.result.now.id c.args.page c.in_ok-slot.slot k.good found
    (λ out. find_none c.args.self.now c.deref.result.now c.count_begun-count.result c.args.page k.good by begun
    (λ h d s again. not_over c.args.self.now c.self.inside.order.items c.deref.result.now (c.count_begun-count.result - 1) c.args.page c.index.result.now d c.in_ok-slot.slot s c.deref.ensures.value (omega (arith, h, c.count_begun-count.ensures.bound)) c.index.ensures found again out))
    c.is_over.result c.is_over.ensures
