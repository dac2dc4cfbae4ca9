-- What the test of a slot that is to stand says.
use Rattle.std.proofs.Common.{◌≡◌, List, Bool, true, false, not, ◌&&◌, nat_lt, Option, None, Some, refl, sym, ◌∙◌, ap}
use Rattle.gm_base.specs.declared.numbers.TheConstants.{SLOT_IDS}
use Rattle.gm_flat.specs.declared.views.SlotView.{SlotView}
use Rattle.gm_flat.specs.Slots.{slot_by_id}
use Rattle.gm_flat.specs.Calls.{meets_slot}
use Rattle.gm_flat.specs.Effects.{dropped}
use Rattle.gm_slots.proofs.Judging.{dropped_absent}
use Rattle.gm_views.specs.Standing.{fits_at, is_absent, is_new, may_stand}

and_right : (a b : Bool) → (a && b) ≡ true → b ≡ true
and_right true b e = e
and_right false b e = absurd cc

absent : (o : Option SlotView) → is_absent o ≡ true → o ≡ None
absent None e = refl
absent (Some s) e = absurd cc

-- the test of a slot whose id is new and whose pages fit
pub tested : (s : SlotView) (slots : List SlotView) (m : Bool) → is_new s.id slots ≡ true → fits_at s.base s.pages ≡ true → m ≡ meets_slot s.base s.pages (dropped s.id slots) → not m ≡ may_stand s slots
tested s slots m new fits e =
    let none : slot_by_id slots s.id ≡ None = absent (slot_by_id slots s.id) (and_right (nat_lt s.id SLOT_IDS) (is_absent (slot_by_id slots s.id)) new) in
    ap (λ (b : Bool). not b) (e ∙ ap (λ (l : List SlotView). meets_slot s.base s.pages l) (dropped_absent slots s.id none))
    ∙ sym (ap (λ (b : Bool). (b && fits_at s.base s.pages) && not (meets_slot s.base s.pages slots)) new ∙ ap (λ (b : Bool). b && not (meets_slot s.base s.pages slots)) fits)
