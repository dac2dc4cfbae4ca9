-- Slots by their ids.
use Rattle.std.proofs.Common.{◌≡◌, ◌≢◌, ℕ, zero, suc, ◌<◌, List, [], ◌∷◌, length, get_or, Bool, true, false, cond, eqb, eqb-true, Option, None, Some, refl, sym, subst, ◌∙◌, ap, arith}
use Rattle.std.specs.List.{Contains}
use Rattle.std.proofs.lemmas.Bool.Decides.{nat_tests}
use Rattle.gm_base.specs.declared.numbers.TheConstants.{SLOT_IDS}
use Rattle.gm_flat.specs.declared.views.SlotView.{SlotView}
use Rattle.gm_flat.specs.Slots.{slot_by_id}
use Rattle.gm_flat.specs.Effects.{dropped, marked, moved, shut_slot, shut_slots}
use Rattle.gm_slots.specs.Good.{Good}
use Rattle.gm_slots.specs.Kept.{ids_of, shut_place}
use Rattle.gm_slots.proofs.Goods.{absent_here}

differ : (a b : ℕ) → a ≢ b → eqb a b ≡ false
differ a b ne = grind (arith, nat_tests)

same : (a b : ℕ) → a ≡ b → eqb a b ≡ true
same a b e = grind (arith, nat_tests)

turned : (a b : ℕ) → eqb a b ≡ false → eqb b a ≡ false
turned a b e = grind (arith, nat_tests)

-- the slot by an id, where the first is another or that one
pub by_id_other : (s : SlotView) (slots : List SlotView) (id : ℕ) → s.id ≢ id → slot_by_id (s ∷ slots) id ≡ slot_by_id slots id
by_id_other s slots id ne = ap (λ (b : Bool). cond b (Some s) (slot_by_id slots id)) (differ s.id id ne)

pub by_id_here : (s : SlotView) (slots : List SlotView) (id : ℕ) → s.id ≡ id → slot_by_id (s ∷ slots) id ≡ Some s
by_id_here s slots id e = ap (λ (b : Bool). cond b (Some s) (slot_by_id slots id)) (same s.id id e)

-- a slot that is found is in the list, and has the id
by_id_step : (t : SlotView) (slots : List SlotView) (id : ℕ) (s : SlotView) → (slot_by_id slots id ≡ Some s → Contains slots s × (s.id ≡ id)) → (b : Bool) → eqb t.id id ≡ b → cond b (Some t) (slot_by_id slots id) ≡ Some s → Contains (t ∷ slots) s × (s.id ≡ id)
by_id_step t slots id s rest true h e =
    let here : t ≡ s = cc in
    ((0, omega arith, here), ap (λ (x : SlotView). x.id) (sym here) ∙ eqb-true t.id id h)
by_id_step t slots id s rest false h e =
    let past : Contains slots s × (s.id ≡ id) = rest e in
    ((suc past.0.0, omega (arith, past.0.1), past.0.2), past.1)

pub by_id_some : (slots : List SlotView) (id : ℕ) (s : SlotView) → slot_by_id slots id ≡ Some s → Contains slots s × (s.id ≡ id)
by_id_some [] id s e = absurd cc
by_id_some (t ∷ slots) id s e = by_id_step t slots id s (λ h. by_id_some slots id s h) (eqb t.id id) refl e

-- a slot of a good list is found by its id
pub absent_at : (slots : List SlotView) (id at : ℕ) (d : SlotView) → slot_by_id slots id ≡ None → at < length slots → eqb (get_or slots at d).id id ≡ false
absent_at [] id at d none h = absurd (omega arith)
absent_at (s ∷ slots) id zero d none h = (absent_here s slots id none).0
absent_at (s ∷ slots) id (suc at) d none h = absent_at slots id at d (absent_here s slots id none).1 (omega arith)

pub good_by_id : (slots : List SlotView) (at : ℕ) (d : SlotView) → Good slots → at < length slots → slot_by_id slots (get_or slots at d).id ≡ Some (get_or slots at d)
good_by_id [] at d g h = absurd (omega arith)
good_by_id (s ∷ slots) zero d g h = by_id_here s slots s.id refl
good_by_id (s ∷ slots) (suc at) d g h =
    ap (λ (b : Bool). cond b (Some s) (slot_by_id slots (get_or slots at d).id)) (turned (get_or slots at d).id s.id (absent_at slots s.id at d g.0 (omega arith)))
    ∙ good_by_id slots at d g.4 (omega arith)

pub by_contains : (slots : List SlotView) (s : SlotView) → Good slots → Contains slots s → slot_by_id slots s.id ≡ Some s
by_contains slots s g (at, h, is) = subst (λ (x : SlotView). slot_by_id slots x.id ≡ Some x) is (good_by_id slots at s g h)

-- each slot of a good list has a page, and an id that may be
pub good_pages : (slots : List SlotView) (at : ℕ) (d : SlotView) → Good slots → at < length slots → 0 < (get_or slots at d).pages
good_pages [] at d g h = absurd (omega arith)
good_pages (s ∷ slots) zero d g h = g.2
good_pages (s ∷ slots) (suc at) d g h = good_pages slots at d g.4 (omega arith)

pub pages_of : (slots : List SlotView) (s : SlotView) → Good slots → Contains slots s → 0 < s.pages
pages_of slots s g (at, h, is) = subst (λ (x : SlotView). 0 < x.pages) is (good_pages slots at s g h)

pub good_ids : (slots : List SlotView) (at : ℕ) (d : SlotView) → Good slots → at < length slots → (get_or slots at d).id < SLOT_IDS
good_ids [] at d g h = absurd (omega arith)
good_ids (s ∷ slots) zero d g h = g.1
good_ids (s ∷ slots) (suc at) d g h = good_ids slots at d g.4 (omega arith)

pub id_of : (slots : List SlotView) (id : ℕ) (s : SlotView) → Good slots → slot_by_id slots id ≡ Some s → id < SLOT_IDS
id_of slots id s g e =
    let there : Contains slots s × (s.id ≡ id) = by_id_some slots id s e in
    omega (arith, good_ids slots there.0.0 s g there.0.1, ap (λ (x : SlotView). x.id) there.0.2, there.1)

-- a list with one slot changed
abbrev pub changed : (SlotView → SlotView) → ℕ → List SlotView → List SlotView
changed f id [] = []
changed f id (s ∷ slots) = cond (eqb s.id id) (f s ∷ slots) (s ∷ changed f id slots)

pub marked_is : (slots : List SlotView) (id : ℕ) → marked id slots ≡ changed (λ (s : SlotView). record s { invalid = true }) id slots
marked_is [] id = refl
marked_is (s ∷ slots) id = ap (λ (l : List SlotView). cond (eqb s.id id) (record s { invalid = true } ∷ slots) (s ∷ l)) (marked_is slots id)

pub moved_is : (slots : List SlotView) (id base : ℕ) → moved id base slots ≡ changed (λ (s : SlotView). record s { base = base; invalid = false }) id slots
moved_is [] id base = refl
moved_is (s ∷ slots) id base = ap (λ (l : List SlotView). cond (eqb s.id id) (record s { base = base; invalid = false } ∷ slots) (s ∷ l)) (moved_is slots id base)

pub changed_here : (f : SlotView → SlotView) (slots : List SlotView) (id : ℕ) (s : SlotView) → slot_by_id slots id ≡ Some s → (f s).id ≡ id → slot_by_id (changed f id slots) id ≡ Some (f s)
changed_here f [] id s e k = absurd cc
changed_here f (t ∷ slots) id s e k = choose (eqb t.id id) refl e (λ h. changed_here f slots id s h k)
  where
    choose : (b : Bool) → eqb t.id id ≡ b → cond b (Some t) (slot_by_id slots id) ≡ Some s → (slot_by_id slots id ≡ Some s → slot_by_id (changed f id slots) id ≡ Some (f s)) → slot_by_id (cond b (f t ∷ slots) (t ∷ changed f id slots)) id ≡ Some (f s)
    choose true h e rest =
        let here : t ≡ s = cc in
        by_id_here (f t) slots id (ap (λ (x : SlotView). (f x).id) here ∙ k) ∙ ap (λ (x : SlotView). Some (f x)) here
    choose false h e rest = ap (λ (b : Bool). cond b (Some t) (slot_by_id (changed f id slots) id)) h ∙ rest e

pub changed_other : (f : SlotView → SlotView) (slots : List SlotView) (id other : ℕ) → ((s : SlotView) → (f s).id ≡ s.id) → other ≢ id → slot_by_id (changed f id slots) other ≡ slot_by_id slots other
changed_other f [] id other keeps ne = refl
changed_other f (t ∷ slots) id other keeps ne = choose (eqb t.id id) refl (changed_other f slots id other keeps ne)
  where
    choose : (b : Bool) → eqb t.id id ≡ b → slot_by_id (changed f id slots) other ≡ slot_by_id slots other → slot_by_id (cond b (f t ∷ slots) (t ∷ changed f id slots)) other ≡ slot_by_id (t ∷ slots) other
    choose true h rest =
        by_id_other (f t) slots other (λ e. ne (sym e ∙ (keeps t ∙ eqb-true t.id id h))) ∙ sym (by_id_other t slots other (λ e. ne (sym e ∙ eqb-true t.id id h)))
    choose false h rest = ap (λ (o : Option SlotView). cond (eqb t.id other) (Some t) o) rest

pub changed_ids : (f : SlotView → SlotView) (slots : List SlotView) (id : ℕ) → ((s : SlotView) → (f s).id ≡ s.id) → ids_of (changed f id slots) ≡ ids_of slots
changed_ids f [] id keeps = refl
changed_ids f (t ∷ slots) id keeps = choose (eqb t.id id) (changed_ids f slots id keeps)
  where
    choose : (b : Bool) → ids_of (changed f id slots) ≡ ids_of slots → ids_of (cond b (f t ∷ slots) (t ∷ changed f id slots)) ≡ ids_of (t ∷ slots)
    choose true rest = ap (λ (n : ℕ). n ∷ ids_of slots) (keeps t)
    choose false rest = ap (λ (l : List ℕ). t.id ∷ l) rest

pub changed_none : (f : SlotView → SlotView) (slots : List SlotView) (id : ℕ) → slot_by_id slots id ≡ None → changed f id slots ≡ slots
changed_none f [] id none = refl
changed_none f (t ∷ slots) id none =
    let past : (eqb t.id id ≡ false) × (slot_by_id slots id ≡ None) = absent_here t slots id none in
    ap (λ (b : Bool). cond b (f t ∷ slots) (t ∷ changed f id slots)) past.0 ∙ ap (λ (l : List SlotView). t ∷ l) (changed_none f slots id past.1)

-- a list without a slot
pub dropped_other : (slots : List SlotView) (id other : ℕ) → other ≢ id → slot_by_id (dropped id slots) other ≡ slot_by_id slots other
dropped_other [] id other ne = refl
dropped_other (t ∷ slots) id other ne = choose (eqb t.id id) refl (dropped_other slots id other ne)
  where
    choose : (b : Bool) → eqb t.id id ≡ b → slot_by_id (dropped id slots) other ≡ slot_by_id slots other → slot_by_id (cond b slots (t ∷ dropped id slots)) other ≡ slot_by_id (t ∷ slots) other
    choose true h rest = sym (by_id_other t slots other (λ e. ne (sym e ∙ eqb-true t.id id h)))
    choose false h rest = ap (λ (o : Option SlotView). cond (eqb t.id other) (Some t) o) rest

pub dropped_here : (slots : List SlotView) (id : ℕ) → Good slots → slot_by_id (dropped id slots) id ≡ None
dropped_here [] id g = refl
dropped_here (t ∷ slots) id g = choose (eqb t.id id) refl (dropped_here slots id g.4)
  where
    choose : (b : Bool) → eqb t.id id ≡ b → slot_by_id (dropped id slots) id ≡ None → slot_by_id (cond b slots (t ∷ dropped id slots)) id ≡ None
    choose true h rest = ap (λ (n : ℕ). slot_by_id slots n) (sym (eqb-true t.id id h)) ∙ g.0
    choose false h rest = ap (λ (b : Bool). cond b (Some t) (slot_by_id (dropped id slots) id)) h ∙ rest

-- a list without a file
pub shut_by_id : (file : ℕ) (slots : List SlotView) (id : ℕ) → slot_by_id (shut_slots file slots) id ≡ shut_place file (slot_by_id slots id)
shut_by_id file [] id = refl
shut_by_id file (t ∷ slots) id = choose (eqb t.id id) (shut_by_id file slots id)
  where
    choose : (b : Bool) → slot_by_id (shut_slots file slots) id ≡ shut_place file (slot_by_id slots id) → cond b (Some (shut_slot file t)) (slot_by_id (shut_slots file slots) id) ≡ shut_place file (cond b (Some t) (slot_by_id slots id))
    choose true rest = refl
    choose false rest = rest

pub shut_ids : (file : ℕ) (slots : List SlotView) → ids_of (shut_slots file slots) ≡ ids_of slots
shut_ids file [] = refl
shut_ids file (t ∷ slots) = ap (λ (l : List ℕ). t.id ∷ l) (shut_ids file slots)
