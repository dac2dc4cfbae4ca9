-- What the state lends to judge a call stands for the flat state.
use Rattle.std.proofs.Common.{◌≡◌, ℕ, ◌+◌, ◌<◌, ◌≤◌, ◌||◌, Bool, true, false, List, [], ◌∷◌, Option, Some, None, arith, refl, sym, subst, ◌∙◌, ap, cond, eqb, eqb-true, get_or, length, map, ne_eqb}
use Rattle.std.specs.List.{AllByRecursion, IsDistinct, list_any}
use Rattle.std.proofs.lemmas.List.{length-map}
use Rattle.std.proofs.lemmas.Map.Steps.{length-le_from_distinct_below}
use Rattle.gm_attr.specs.Kinds.{AttrsView, Tells}
use Rattle.gm_base.specs.declared.numbers.TheConstants.{SLOT_IDS}
use Rattle.gm_base.specs.declared.values.Setup.{Setup}
use Rattle.gm_calls.specs.Lent.{AllKnown, FileIs, IsKnown, LentStand}
use Rattle.gm_calls.specs.declared.parts.Parts.{Parts}
use Rattle.gm_file.specs.Views.{FileView}
use Rattle.gm_flat.specs.FlatState.{Flat}
use Rattle.gm_flat.specs.Slots.{slot_by_id}
use Rattle.gm_flat.specs.declared.views.SlotView.{SlotView}
use Rattle.gm_laws.specs.SlotsStand.{AllOf, HasOtherId, Pairwise, SlotsStand}
use Rattle.gm_slots.specs.Changes.{SlotList}
use Rattle.gm_state.specs.Stand.{IsBounded, Memory, StateIs}
use Rattle.gm_state.specs.Views.{StateView}
use Rattle.gm_store.specs.Stored.{FileKept}

each_one : (P Q R : SlotView → Type 0) (slots : List SlotView) → ((s : SlotView) → P s → Q s → R s) → AllOf P slots → AllOf Q slots → AllOf R slots
each_one P Q R [] h p q = tt
each_one P Q R (s ∷ slots) h p q = (h s p.0 q.0, each_one P Q R slots h p.1 q.1)

same_id : (id : ℕ) → eqb id id ≡ true
same_id id = grind arith

-- each slot is the one with its id
by_ids : (slots : List SlotView) → Pairwise HasOtherId slots → AllOf (λ s. slot_by_id slots s.id ≡ Some s) slots
by_ids [] h = tt
by_ids (s ∷ slots) h = (
  rw (same_id s.id) refl,
  each_one (HasOtherId s) (λ r. slot_by_id slots r.id ≡ Some r) (λ r. slot_by_id (s ∷ slots) r.id ≡ Some r) slots (λ r other found. rw (ne_eqb s.id r.id other) found) h.0 (by_ids slots h.1),
)

all_known : (user : ℕ) (all slots : List SlotView) → AllOf (λ s. slot_by_id all s.id ≡ Some s) slots → AllOf (IsBounded user) slots → AllKnown all slots
all_known user all [] h b = tt
all_known user all (s ∷ slots) h b = (record { by_id = h.0; some = b.0.some; limit = b.0.pages; indexes = b.0.indexes }, all_known user all slots h.1 b.1)

-- there are at most as many as ids

ids_differ : (s : SlotView) (slots : List SlotView) → AllOf (HasOtherId s) slots → AllByRecursion (λ (n : ℕ). eqb s.id n ≡ false) (map (λ (r : SlotView). r.id) slots)
ids_differ s [] h = tt
ids_differ s (r ∷ slots) h = (ne_eqb s.id r.id h.0, ids_differ s slots h.1)

distinct_ids : (slots : List SlotView) → Pairwise HasOtherId slots → IsDistinct eqb (map (λ (s : SlotView). s.id) slots)
unfolding IsDistinct
distinct_ids [] h = tt
distinct_ids (s ∷ slots) h = (ids_differ s slots h.0, distinct_ids slots h.1)

ids_below : (user : ℕ) (slots : List SlotView) (id : ℕ) → AllOf (IsBounded user) slots → list_any (eqb id) (map (λ (s : SlotView). s.id) slots) ≡ true → id < SLOT_IDS
ids_below user [] id b h = absurd cc
ids_below user (s ∷ slots) id b h = choose (eqb id s.id) refl (λ e. ids_below user slots id b.1 e)
  where
    choose : (t : Bool) → eqb id s.id ≡ t → (list_any (eqb id) (map (λ (s : SlotView). s.id) slots) ≡ true → id < SLOT_IDS) → id < SLOT_IDS
    choose true e rest = omega (arith, eqb-true id s.id e, b.0.id)
    choose false e rest = rest (sym (ap (λ (t : Bool). t || list_any (eqb id) (map (λ (s : SlotView). s.id) slots)) e) ∙ h)

few_slots : (user : ℕ) (slots : List SlotView) → Pairwise HasOtherId slots → AllOf (IsBounded user) slots → length slots ≤ SLOT_IDS
few_slots user slots h b =
    omega (arith, length-le_from_distinct_below (map (λ (s : SlotView). s.id) slots) SLOT_IDS (distinct_ids slots h) (λ id e. ids_below user slots id b e), length-map slots (λ (s : SlotView). s.id))

file_is : (x : Option FileView) (file : ℕ) (f : Flat) → FileKept x file f → FileIs x file f
file_is None file f h = h.state
file_is (Some x) file f h = record { state_is = h.state; bound_is = h.bound_are }

-- what is lent is the state's
pub record IsLent (p : Parts) (st : StateView) : Type 0 where
  pub slots : p.slots.now ≡ st.slots
  pub files : p.files.now ≡ st.store.files
  pub attrs : p.attrs.now ≡ st.attrs

pub lent : (s : Setup) (st : StateView) (m : Memory) (p : Parts) → IsLent p st → SlotsStand m.stored.flat → StateIs s st m → LentStand p m.stored.flat
lent s st m p e apart is =
    let f = m.stored.flat in
    record {
      slots_are = ap (λ (x : SlotList). x.slots) e.slots ∙ is.slots_are;
      files_are = λ file. subst (λ (xs : List (Option FileView)). FileIs (get_or xs file None) file f) (sym e.files) (file_is (get_or st.store.files file None) file f (is.store.files.each file));
      made = ap (λ (xs : List (Option FileView)). length xs) e.files ∙ is.store.files.count_is;
      attrs_are = subst (λ (x : AttrsView). Tells x f.attrs) (sym e.attrs) is.attrs_are;
      known = all_known s.user f.slots f.slots (by_ids f.slots apart.ids_differ) is.bounded;
      count = few_slots s.user f.slots apart.ids_differ is.bounded;
    }
