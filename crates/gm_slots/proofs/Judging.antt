-- What a judgement says of the slots.
use Rattle.std.proofs.Common.{◌≡◌, ℕ, List, [], ◌∷◌, Bool, true, false, cond, eqb, None, Some, Ok, Err, refl, sym, ◌∙◌, ap}
use Rattle.gm_base.specs.declared.calls.Region.{Region}
use Rattle.gm_base.specs.declared.values.Errno.TheVariants.{Exist, Inval}
use Rattle.gm_flat.specs.declared.views.SlotView.{SlotView}
use Rattle.gm_flat.specs.Slots.{slot_by_id}
use Rattle.gm_flat.specs.Effects.{dropped}
use Rattle.gm_flat.specs.Calls.{meets_slot, page_of}
use Rattle.gm_slots.specs.declared.change.Change.TheVariants.{Make}
use Rattle.gm_slots.specs.Changes.{new_change}

-- a list without the slot stays when it is dropped
dropped_step : (s : SlotView) (slots : List SlotView) (id : ℕ) → slot_by_id (s ∷ slots) id ≡ None → (slot_by_id slots id ≡ None → dropped id slots ≡ slots) → (b : Bool) → eqb s.id id ≡ b → dropped id (s ∷ slots) ≡ s ∷ slots
dropped_step s slots id none rest true e =
    let some : Some s ≡ None = sym (ap (λ (b : Bool). cond b (Some s) (slot_by_id slots id)) e) ∙ none in
    absurd cc
dropped_step s slots id none rest false e =
    ap (λ (b : Bool). cond b slots (s ∷ dropped id slots)) e
    ∙ ap (λ (l : List SlotView). s ∷ l) (rest (sym (ap (λ (b : Bool). cond b (Some s) (slot_by_id slots id)) e) ∙ none))

pub dropped_absent : (slots : List SlotView) (id : ℕ) → slot_by_id slots id ≡ None → dropped id slots ≡ slots
dropped_absent [] id none = refl
dropped_absent (s ∷ slots) id none = dropped_step s slots id none (λ h. dropped_absent slots id h) (eqb s.id id) refl

-- the judgement of a new slot
pub new_is : (r : Region) (slots : List SlotView) (m : Bool) → eqb r.size 0 ≡ false → slot_by_id slots r.slot ≡ None → m ≡ meets_slot (page_of r.gpa) (page_of r.size) (dropped r.slot slots) → new_change r slots ≡ cond m (Err Exist) (Ok Make)
new_is r slots m size none e =
    ap (λ (b : Bool). cond b (Err Inval) (cond (meets_slot (page_of r.gpa) (page_of r.size) slots) (Err Exist) (Ok Make))) size
    ∙ ap (λ (b : Bool). cond b (Err Exist) (Ok Make)) (sym (e ∙ ap (λ (l : List SlotView). meets_slot (page_of r.gpa) (page_of r.size) l) (dropped_absent slots r.slot none)))
