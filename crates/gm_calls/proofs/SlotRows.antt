-- What the slots' judgement of a region leaves of its plan, and what is known of a slot that is found.
use Rattle.std.proofs.Common.{◌≡◌, ℕ, ◌<◌, ◌++◌, ◌||◌, List, [], ◌∷◌, Bool, true, false, Option, Some, None, IsSome, Ok, Err, Result, arith, refl, sym, ◌∙◌, ap, subst, cond, eqb}
use Rattle.std.proofs.lemmas.Bool.Decides.{nat_tests}
use Rattle.gm_base.specs.Extent.{Extent}
use Rattle.gm_base.specs.declared.calls.Region.{Region}
use Rattle.gm_base.specs.declared.values.Errno.{Errno}
use Rattle.gm_base.specs.declared.values.Errno.TheVariants.{Exist, Inval}
use Rattle.gm_flat.specs.Calls.{Plan, Bracketed, Refused, Same, differs, has_memfd, meets_slot, page_of, slot_plan, wants_file}
use Rattle.gm_flat.specs.Effects.{dropped}
use Rattle.gm_flat.specs.FlatState.{Flat}
use Rattle.gm_flat.specs.Slots.{lies_over, slot_by_id, slot_over, slot_span}
use Rattle.gm_flat.specs.declared.effect.Effect.TheVariants.{Move as MoveSlot, NoSlot}
use Rattle.gm_flat.specs.declared.views.SlotView.{SlotView}
use Rattle.gm_slots.specs.Changes.{change_by, change_of}
use Rattle.gm_slots.specs.declared.change.Change.{Change}
use Rattle.gm_slots.specs.declared.change.Change.TheVariants.{Nothing, Make, Delete, Move}
use Rattle.gm_calls.proofs.Filling.{filled}
use Rattle.gm_calls.specs.Lent.{AllKnown, IsKnown, LentStand}
use Rattle.gm_calls.specs.Rows.{binding_rows}
use Rattle.gm_calls.specs.declared.parts.Parts.{Parts}

-- the plan by what the slots judge, where the slot with the id is o
abbrev pub Leaves : Region → Flat → Option SlotView → Result Change Errno → Plan → Type 0
Leaves r f o (Err e) p = p ≡ Refused e
Leaves r f o (Ok Nothing) p = p ≡ Same 0
Leaves r f o (Ok Make) p = (0 < r.size) × (p ≡ binding_rows r f)
Leaves r f o (Ok Delete) p = (s : SlotView) × (o ≡ Some s) × (p ≡ Bracketed (NoSlot r.slot) (slot_span s ∷ []))
Leaves r f o (Ok Move) p = (s : SlotView) × (o ≡ Some s) × (p ≡ Bracketed (MoveSlot r.slot (page_of r.gpa)) (slot_span s ∷ []))

above_zero : (n : ℕ) → eqb n 0 ≡ false → 0 < n
above_zero n h = grind (arith, nat_tests)

leaves_new : (r : Region) (f : Flat) (a b : Bool) → eqb r.size 0 ≡ a → Leaves r f None (cond a (Err Inval) (cond b (Err Exist) (Ok Make))) (cond a (Refused Inval) (cond b (Refused Exist) (binding_rows r f)))
leaves_new r f true b e = refl
leaves_new r f false true e = refl
leaves_new r f false false e = (above_zero r.size e, refl)

leaves_old : (r : Region) (f : Flat) (s : SlotView) (a b c d e : Bool) → Leaves r f (Some s) (cond a (Ok Delete) (cond b (Err Inval) (cond c (Err Inval) (cond d (Ok Nothing) (cond e (Err Exist) (Ok Move)))))) (cond a (Bracketed (NoSlot r.slot) (slot_span s ∷ [])) (cond b (Refused Inval) (cond c (Refused Inval) (cond d (Same 0) (cond e (Refused Exist) (Bracketed (MoveSlot r.slot (page_of r.gpa)) (slot_span s ∷ [])))))))
leaves_old r f s true b c d e = (s, refl, refl)
leaves_old r f s false true c d e = refl
leaves_old r f s false false true d e = refl
leaves_old r f s false false false true e = refl
leaves_old r f s false false false false true = refl
leaves_old r f s false false false false false = (s, refl, refl)

leaves : (r : Region) (f : Flat) (o : Option SlotView) → Leaves r f o (change_by r f.slots o) (slot_plan r f o)
leaves r f None = leaves_new r f (eqb r.size 0) (meets_slot (page_of r.gpa) (page_of r.size) f.slots) refl
leaves r f (Some s) = leaves_old r f s (eqb r.size 0) (has_memfd s || wants_file r) (differs r s) (eqb s.base (page_of r.gpa)) (meets_slot (page_of r.gpa) (page_of r.size) (dropped r.slot f.slots))

-- what was judged of the slots that are lent
pub told : (p : Parts) (f : Flat) (r : Region) (judged : Result Change Errno) → LentStand p f → change_of r p.slots.now.slots ≡ judged → Leaves r f (slot_by_id f.slots r.slot) judged (slot_plan r f (slot_by_id f.slots r.slot))
told p f r judged st h =
    subst (λ (x : Result Change Errno). Leaves r f (slot_by_id f.slots r.slot) x (slot_plan r f (slot_by_id f.slots r.slot)))
    (ap (λ (ss : List SlotView). change_of r ss) (sym st.slots_are) ∙ h)
    (leaves r f (slot_by_id f.slots r.slot))

-- the spans of a deletion or a move
pub spans_of_one : (ss fs : List SlotView) (id : ℕ) (s : SlotView) (old new : List Extent) → ss ≡ fs → slot_by_id fs id ≡ Some s → old ≡ [] → ((t : SlotView) → slot_by_id ss id ≡ Some t → new ≡ old ++ slot_span t ∷ []) → new ≡ slot_span s ∷ []
spans_of_one ss fs id s old new same is empty put = filled old new (slot_span s ∷ []) empty (put s (ap (λ (l : List SlotView). slot_by_id l id) same ∙ is))

-- slots that are found are known
some_same : (a b : SlotView) → Some a ≡ Some b → a ≡ b
some_same a b e = cc

pub known_by_id : (all ss : List SlotView) (id : ℕ) (s : SlotView) → AllKnown all ss → slot_by_id ss id ≡ Some s → IsKnown all s
known_by_id all [] id s h e = absurd (cc)
known_by_id all (t ∷ ss) id s h e = by_test (eqb t.id id) (λ k. known_by_id all ss id s h.1 k) e
  where
    by_test : (b : Bool) → (slot_by_id ss id ≡ Some s → IsKnown all s) → cond b (Some t) (slot_by_id ss id) ≡ Some s → IsKnown all s
    by_test true ih e = subst (λ (x : SlotView). IsKnown all x) (some_same t s e) h.0
    by_test false ih e = ih e

pub known_over : (all ss : List SlotView) (page : ℕ) (s : SlotView) → AllKnown all ss → slot_over ss page ≡ Some s → IsKnown all s
known_over all [] page s h e = absurd (cc)
known_over all (t ∷ ss) page s h e = by_test (lies_over t page) (λ k. known_over all ss page s h.1 k) e
  where
    by_test : (b : Bool) → (slot_over ss page ≡ Some s → IsKnown all s) → cond b (Some t) (slot_over ss page) ≡ Some s → IsKnown all s
    by_test true ih e = subst (λ (x : SlotView). IsKnown all x) (some_same t s e) h.0
    by_test false ih e = ih e

pub over_is_over : (ss : List SlotView) (page : ℕ) (s : SlotView) → slot_over ss page ≡ Some s → lies_over s page ≡ true
over_is_over [] page s e = absurd (cc)
over_is_over (t ∷ ss) page s e = by_test (lies_over t page) refl (λ k. over_is_over ss page s k) e
  where
    by_test : (b : Bool) → lies_over t page ≡ b → (slot_over ss page ≡ Some s → lies_over s page ≡ true) → cond b (Some t) (slot_over ss page) ≡ Some s → lies_over s page ≡ true
    by_test true is ih e = subst (λ (x : SlotView). lies_over x page ≡ true) (some_same t s e) is
    by_test false is ih e = ih e

-- what is known of the slots that are lent
pub known_lent : (p : Parts) (f : Flat) → LentStand p f → AllKnown p.slots.now.slots p.slots.now.slots
known_lent p f st = subst (λ (ss : List SlotView). AllKnown ss ss) (sym st.slots_are) st.known

pub exists_of : (o : Option SlotView) (s : SlotView) → o ≡ Some s → IsSome o
exists_of None s e = absurd (cc)
exists_of (Some t) s e = refl

pub lent_by_id : (p : Parts) (f : Flat) (id : ℕ) (s : SlotView) → LentStand p f → slot_by_id f.slots id ≡ Some s → slot_by_id p.slots.now.slots id ≡ Some s
lent_by_id p f id s st e = ap (λ (ss : List SlotView). slot_by_id ss id) st.slots_are ∙ e

-- the brackets of a deletion and of a move
pub deleted : (p : Parts) (f : Flat) (r : Region) (old new : List Extent) → LentStand p f → change_of r p.slots.now.slots ≡ Ok Delete → old ≡ [] → ((t : SlotView) → slot_by_id p.slots.now.slots r.slot ≡ Some t → new ≡ old ++ slot_span t ∷ []) → slot_plan r f (slot_by_id f.slots r.slot) ≡ Bracketed (NoSlot r.slot) new
deleted p f r old new st e empty put =
    let t = told p f r (Ok Delete) st e in
    t.2 ∙ ap (λ (es : List Extent). Bracketed (NoSlot r.slot) es) (sym (spans_of_one p.slots.now.slots f.slots r.slot t.0 old new st.slots_are t.1 empty put))

pub moved_to : (p : Parts) (f : Flat) (r : Region) (old new : List Extent) → LentStand p f → change_of r p.slots.now.slots ≡ Ok Move → old ≡ [] → ((t : SlotView) → slot_by_id p.slots.now.slots r.slot ≡ Some t → new ≡ old ++ slot_span t ∷ []) → slot_plan r f (slot_by_id f.slots r.slot) ≡ Bracketed (MoveSlot r.slot (page_of r.gpa)) new
moved_to p f r old new st e empty put =
    let t = told p f r (Ok Move) st e in
    t.2 ∙ ap (λ (es : List Extent). Bracketed (MoveSlot r.slot (page_of r.gpa)) es) (sym (spans_of_one p.slots.now.slots f.slots r.slot t.0 old new st.slots_are t.1 empty put))
