-- Good lists of slots, and what changes keep.
use Rattle.std.proofs.Common.{◌≡◌, ℕ, ◌+◌, ◌<◌, ◌≤◌, List, [], ◌∷◌, length, map, Bool, true, false, ◌&&◌, ◌||◌, cond, eqb, eqb-true, ltb, None, Some, refl, sym, subst, ◌∙◌, ap, arith}
use Rattle.std.specs.List.{IsDistinct, list_any, AllByRecursion}
use Rattle.std.proofs.lemmas.Map.Steps.{length-le_from_distinct_below}
use Rattle.std.proofs.lemmas.List.{length-map}
use Rattle.std.proofs.lemmas.Bool.Decides.{nat_tests}
use Rattle.gm_base.specs.Extent.{meets}
use Rattle.gm_base.specs.declared.numbers.TheConstants.{SLOT_IDS}
use Rattle.gm_flat.specs.declared.views.SlotView.{SlotView}
use Rattle.gm_flat.specs.Slots.{slot_by_id, slot_span}
use Rattle.gm_flat.specs.Calls.{meets_slot}
use Rattle.gm_flat.specs.Effects.{dropped, marked, moved, shut_slot, shut_slots}
use Rattle.gm_slots.specs.Good.{Good}

pub or_left : (a b : Bool) → (a || b) ≡ false → a ≡ false
or_left false b e = refl
or_left true b e = absurd cc

pub or_right : (a b : Bool) → (a || b) ≡ false → b ≡ false
or_right false b e = e
or_right true b e = absurd cc

or_false : (a b : Bool) → a ≡ false → b ≡ false → (a || b) ≡ false
or_false a b e f = ap (λ (x : Bool). x || b) e ∙ f

-- a search by id that fails, past the first
pub absent_here : (s : SlotView) (slots : List SlotView) (id : ℕ) → slot_by_id (s ∷ slots) id ≡ None → (eqb s.id id ≡ false) × (slot_by_id slots id ≡ None)
absent_here s slots id none = by_test (eqb s.id id) refl
  where
    by_test : (b : Bool) → eqb s.id id ≡ b → (eqb s.id id ≡ false) × (slot_by_id slots id ≡ None)
    by_test true e =
        let some : Some s ≡ None = sym (ap (λ (b : Bool). cond b (Some s) (slot_by_id slots id)) e) ∙ none in
        absurd cc
    by_test false e = (e, sym (ap (λ (b : Bool). cond b (Some s) (slot_by_id slots id)) e) ∙ none)

absent_cons : (s : SlotView) (slots : List SlotView) (id : ℕ) → eqb s.id id ≡ false → slot_by_id slots id ≡ None → slot_by_id (s ∷ slots) id ≡ None
absent_cons s slots id e none = ap (λ (b : Bool). cond b (Some s) (slot_by_id slots id)) e ∙ none

-- a slot that is dropped
absent_dropped : (slots : List SlotView) (id other : ℕ) → slot_by_id slots other ≡ None → slot_by_id (dropped id slots) other ≡ None
absent_dropped [] id other none = refl
absent_dropped (s ∷ slots) id other none =
    let past : (eqb s.id other ≡ false) × (slot_by_id slots other ≡ None) = absent_here s slots other none in
    choose (eqb s.id id) past.1 (absent_cons s (dropped id slots) other past.0 (absent_dropped slots id other past.1))
  where
    choose : (b : Bool) → slot_by_id slots other ≡ None → slot_by_id (s ∷ dropped id slots) other ≡ None → slot_by_id (cond b slots (s ∷ dropped id slots)) other ≡ None
    choose true e f = e
    choose false e f = f

apart_dropped : (slots : List SlotView) (id base pages : ℕ) → meets_slot base pages slots ≡ false → meets_slot base pages (dropped id slots) ≡ false
apart_dropped [] id base pages e = refl
apart_dropped (s ∷ slots) id base pages e =
    let first : meets (record { lo = base; hi = base + pages }) (slot_span s) ≡ false = or_left (meets (record { lo = base; hi = base + pages }) (slot_span s)) (meets_slot base pages slots) e in
    let rest : meets_slot base pages slots ≡ false = or_right (meets (record { lo = base; hi = base + pages }) (slot_span s)) (meets_slot base pages slots) e in
    choose (eqb s.id id) rest (or_false (meets (record { lo = base; hi = base + pages }) (slot_span s)) (meets_slot base pages (dropped id slots)) first (apart_dropped slots id base pages rest))
  where
    choose : (b : Bool) → meets_slot base pages slots ≡ false → meets_slot base pages (s ∷ dropped id slots) ≡ false → meets_slot base pages (cond b slots (s ∷ dropped id slots)) ≡ false
    choose true e f = e
    choose false e f = f

pub good_dropped : (slots : List SlotView) (id : ℕ) → Good slots → Good (dropped id slots)
good_dropped [] id g = tt
good_dropped (s ∷ slots) id g =
    choose (eqb s.id id) g.4 (absent_dropped slots id s.id g.0, g.1, g.2, apart_dropped slots id s.base s.pages g.3, good_dropped slots id g.4)
  where
    choose : (b : Bool) → Good slots → Good (s ∷ dropped id slots) → Good (cond b slots (s ∷ dropped id slots))
    choose true e f = e
    choose false e f = f

-- a slot that is marked
absent_marked : (slots : List SlotView) (id other : ℕ) → slot_by_id slots other ≡ None → slot_by_id (marked id slots) other ≡ None
absent_marked [] id other none = refl
absent_marked (s ∷ slots) id other none =
    let past : (eqb s.id other ≡ false) × (slot_by_id slots other ≡ None) = absent_here s slots other none in
    choose (eqb s.id id) (absent_cons (record s { invalid = true }) slots other past.0 past.1) (absent_cons s (marked id slots) other past.0 (absent_marked slots id other past.1))
  where
    choose : (b : Bool) → slot_by_id (record s { invalid = true } ∷ slots) other ≡ None → slot_by_id (s ∷ marked id slots) other ≡ None → slot_by_id (cond b (record s { invalid = true } ∷ slots) (s ∷ marked id slots)) other ≡ None
    choose true e f = e
    choose false e f = f

apart_marked : (slots : List SlotView) (id base pages : ℕ) → meets_slot base pages (marked id slots) ≡ meets_slot base pages slots
apart_marked [] id base pages = refl
apart_marked (s ∷ slots) id base pages =
    choose (eqb s.id id) (ap (λ (r : Bool). meets (record { lo = base; hi = base + pages }) (slot_span s) || r) (apart_marked slots id base pages))
  where
    choose : (b : Bool) → meets_slot base pages (s ∷ marked id slots) ≡ meets_slot base pages (s ∷ slots) → meets_slot base pages (cond b (record s { invalid = true } ∷ slots) (s ∷ marked id slots)) ≡ meets_slot base pages (s ∷ slots)
    choose true f = refl
    choose false f = f

pub good_marked : (slots : List SlotView) (id : ℕ) → Good slots → Good (marked id slots)
good_marked [] id g = tt
good_marked (s ∷ slots) id g =
    choose (eqb s.id id) (g.0, g.1, g.2, g.3, g.4) (absent_marked slots id s.id g.0, g.1, g.2, apart_marked slots id s.base s.pages ∙ g.3, good_marked slots id g.4)
  where
    choose : (b : Bool) → Good (record s { invalid = true } ∷ slots) → Good (s ∷ marked id slots) → Good (cond b (record s { invalid = true } ∷ slots) (s ∷ marked id slots))
    choose true e f = e
    choose false e f = f

-- the slots of a file that is shut
absent_shut : (slots : List SlotView) (file id : ℕ) → slot_by_id slots id ≡ None → slot_by_id (shut_slots file slots) id ≡ None
absent_shut [] file id none = refl
absent_shut (s ∷ slots) file id none =
    let past : (eqb s.id id ≡ false) × (slot_by_id slots id ≡ None) = absent_here s slots id none in
    absent_cons (shut_slot file s) (shut_slots file slots) id past.0 (absent_shut slots file id past.1)

apart_shut : (slots : List SlotView) (file base pages : ℕ) → meets_slot base pages (shut_slots file slots) ≡ meets_slot base pages slots
apart_shut [] file base pages = refl
apart_shut (s ∷ slots) file base pages = ap (λ (r : Bool). meets (record { lo = base; hi = base + pages }) (slot_span s) || r) (apart_shut slots file base pages)

pub good_shut : (slots : List SlotView) (file : ℕ) → Good slots → Good (shut_slots file slots)
good_shut [] file g = tt
good_shut (s ∷ slots) file g = (absent_shut slots file s.id g.0, g.1, g.2, apart_shut slots file s.base s.pages ∙ g.3, good_shut slots file g.4)

-- a slot that is moved
absent_moved : (slots : List SlotView) (id base other : ℕ) → slot_by_id slots other ≡ None → slot_by_id (moved id base slots) other ≡ None
absent_moved [] id base other none = refl
absent_moved (s ∷ slots) id base other none =
    let past : (eqb s.id other ≡ false) × (slot_by_id slots other ≡ None) = absent_here s slots other none in
    choose (eqb s.id id) (absent_cons (record s { base = base; invalid = false }) slots other past.0 past.1) (absent_cons s (moved id base slots) other past.0 (absent_moved slots id base other past.1))
  where
    choose : (b : Bool) → slot_by_id (record s { base = base; invalid = false } ∷ slots) other ≡ None → slot_by_id (s ∷ moved id base slots) other ≡ None → slot_by_id (cond b (record s { base = base; invalid = false } ∷ slots) (s ∷ moved id base slots)) other ≡ None
    choose true e f = e
    choose false e f = f

pub and_comm : (a b : Bool) → (a && b) ≡ (b && a)
and_comm true true = refl
and_comm true false = refl
and_comm false true = refl
and_comm false false = refl

-- the head of a list, by its id
by_id_is : (s : SlotView) (slots : List SlotView) (id : ℕ) (b : Bool) → eqb s.id id ≡ b → slot_by_id (s ∷ slots) id ≡ cond b (Some s) (slot_by_id slots id)
by_id_is s slots id b e = ap (λ (c : Bool). cond c (Some s) (slot_by_id slots id)) e

dropped_is : (s : SlotView) (slots : List SlotView) (id : ℕ) (b : Bool) → eqb s.id id ≡ b → dropped id (s ∷ slots) ≡ cond b slots (s ∷ dropped id slots)
dropped_is s slots id b e = ap (λ (c : Bool). cond c slots (s ∷ dropped id slots)) e

moved_is : (s : SlotView) (slots : List SlotView) (id base : ℕ) (b : Bool) → eqb s.id id ≡ b → moved id base (s ∷ slots) ≡ cond b (record s { base = base; invalid = false } ∷ slots) (s ∷ moved id base slots)
moved_is s slots id base b e = ap (λ (c : Bool). cond c (record s { base = base; invalid = false } ∷ slots) (s ∷ moved id base slots)) e

same_slot : (s t : SlotView) → Some s ≡ Some t → s ≡ t
same_slot s t e = cc

-- where the slot of an id moves to pages that a range doesn't meet, the range still meets none
apart_moved_step : (s t : SlotView) (slots : List SlotView) (id base low pages : ℕ) → slot_by_id (s ∷ slots) id ≡ Some t → meets (record { lo = low; hi = low + pages }) (record { lo = base; hi = base + t.pages }) ≡ false → meets_slot low pages (s ∷ slots) ≡ false → (slot_by_id slots id ≡ Some t → meets_slot low pages (moved id base slots) ≡ false) → (b : Bool) → eqb s.id id ≡ b → meets_slot low pages (moved id base (s ∷ slots)) ≡ false
apart_moved_step s t slots id base low pages found clear apart rest true e =
    let is : s ≡ t = same_slot s t (sym (by_id_is s slots id true e) ∙ found) in
    ap (λ (l : List SlotView). meets_slot low pages l) (moved_is s slots id base true e)
    ∙ or_false (meets (record { lo = low; hi = low + pages }) (record { lo = base; hi = base + s.pages })) (meets_slot low pages slots)
    (ap (λ (x : SlotView). meets (record { lo = low; hi = low + pages }) (record { lo = base; hi = base + x.pages })) is ∙ clear)
    (or_right (meets (record { lo = low; hi = low + pages }) (slot_span s)) (meets_slot low pages slots) apart)
apart_moved_step s t slots id base low pages found clear apart rest false e =
    ap (λ (l : List SlotView). meets_slot low pages l) (moved_is s slots id base false e)
    ∙ or_false (meets (record { lo = low; hi = low + pages }) (slot_span s)) (meets_slot low pages (moved id base slots))
    (or_left (meets (record { lo = low; hi = low + pages }) (slot_span s)) (meets_slot low pages slots) apart)
    (rest (sym (by_id_is s slots id false e) ∙ found))

apart_moved : (t : SlotView) (slots : List SlotView) (id base low pages : ℕ) → slot_by_id slots id ≡ Some t → meets (record { lo = low; hi = low + pages }) (record { lo = base; hi = base + t.pages }) ≡ false → meets_slot low pages slots ≡ false → meets_slot low pages (moved id base slots) ≡ false
apart_moved t [] id base low pages found clear apart = refl
apart_moved t (s ∷ slots) id base low pages found clear apart =
    apart_moved_step s t slots id base low pages found clear apart
    (λ f. apart_moved t slots id base low pages f clear (or_right (meets (record { lo = low; hi = low + pages }) (slot_span s)) (meets_slot low pages slots) apart))
    (eqb s.id id) refl

good_moved_step : (s t : SlotView) (slots : List SlotView) (id base : ℕ) → Good (s ∷ slots) → slot_by_id (s ∷ slots) id ≡ Some t → meets_slot base t.pages (dropped id (s ∷ slots)) ≡ false → (slot_by_id slots id ≡ Some t → meets_slot base t.pages (dropped id slots) ≡ false → Good (moved id base slots)) → (b : Bool) → eqb s.id id ≡ b → Good (moved id base (s ∷ slots))
good_moved_step s t slots id base g found clear rest true e =
    let is : s ≡ t = same_slot s t (sym (by_id_is s slots id true e) ∙ found) in
    subst (λ (l : List SlotView). Good l) (sym (moved_is s slots id base true e))
    (g.0, g.1, g.2, ap (λ (x : SlotView). meets_slot base x.pages slots) is ∙ (sym (ap (λ (l : List SlotView). meets_slot base t.pages l) (dropped_is s slots id true e)) ∙ clear), g.4)
good_moved_step s t slots id base g found clear rest false e =
    let later : slot_by_id slots id ≡ Some t = sym (by_id_is s slots id false e) ∙ found in
    let both : (meets (record { lo = base; hi = base + t.pages }) (slot_span s) || meets_slot base t.pages (dropped id slots)) ≡ false =
    sym (ap (λ (l : List SlotView). meets_slot base t.pages l) (dropped_is s slots id false e)) ∙ clear in
    let first : meets (record { lo = base; hi = base + t.pages }) (slot_span s) ≡ false = or_left (meets (record { lo = base; hi = base + t.pages }) (slot_span s)) (meets_slot base t.pages (dropped id slots)) both in
    subst (λ (l : List SlotView). Good l) (sym (moved_is s slots id base false e)) (
      absent_moved slots id base s.id g.0,
      g.1,
      g.2,
      apart_moved t slots id base s.base s.pages later (and_comm (ltb s.base (base + t.pages)) (ltb base (s.base + s.pages)) ∙ first) g.3,
      rest later (or_right (meets (record { lo = base; hi = base + t.pages }) (slot_span s)) (meets_slot base t.pages (dropped id slots)) both),
    )

pub good_moved : (t : SlotView) (slots : List SlotView) (id base : ℕ) → Good slots → slot_by_id slots id ≡ Some t → meets_slot base t.pages (dropped id slots) ≡ false → Good (moved id base slots)
good_moved t [] id base g found clear = tt
good_moved t (s ∷ slots) id base g found clear =
    good_moved_step s t slots id base g found clear (λ f c. good_moved t slots id base g.4 f c) (eqb s.id id) refl

-- no two have one id, so there are at most as many as ids
ids_differ : (slots : List SlotView) (id : ℕ) → slot_by_id slots id ≡ None → AllByRecursion (λ (n : ℕ). eqb id n ≡ false) (map (λ (s : SlotView). s.id) slots)
ids_differ [] id none = tt
ids_differ (s ∷ slots) id none =
    let past : (eqb s.id id ≡ false) × (slot_by_id slots id ≡ None) = absent_here s slots id none in
    (turned s.id id past.0, ids_differ slots id past.1)
  where
    turned : (a b : ℕ) → eqb a b ≡ false → eqb b a ≡ false
    turned a b e = grind (arith, nat_tests)

distinct_ids : (slots : List SlotView) → Good slots → IsDistinct eqb (map (λ (s : SlotView). s.id) slots)
unfolding IsDistinct
distinct_ids [] g = tt
distinct_ids (s ∷ slots) g = (ids_differ slots s.id g.0, distinct_ids slots g.4)

ids_below : (slots : List SlotView) (id : ℕ) → Good slots → list_any (eqb id) (map (λ (s : SlotView). s.id) slots) ≡ true → id < SLOT_IDS
ids_below [] id g h = absurd cc
ids_below (s ∷ slots) id g h = choose (eqb id s.id) refl (λ e. ids_below slots id g.4 e)
  where
    choose : (b : Bool) → eqb id s.id ≡ b → (list_any (eqb id) (map (λ (s : SlotView). s.id) slots) ≡ true → id < SLOT_IDS) → id < SLOT_IDS
    choose true e rest = omega (arith, eqb-true id s.id e, g.1)
    choose false e rest = rest (sym (ap (λ (b : Bool). b || list_any (eqb id) (map (λ (s : SlotView). s.id) slots)) e) ∙ h)

pub good_length : (slots : List SlotView) → Good slots → length slots ≤ SLOT_IDS
good_length slots g =
    omega (arith, length-le_from_distinct_below (map (λ (s : SlotView). s.id) slots) SLOT_IDS (distinct_ids slots g) (λ id h. ids_below slots id g h), length-map slots (λ (s : SlotView). s.id))

-- one more fits where its id is new
pub good_room : (slots : List SlotView) (s : SlotView) → Good (s ∷ slots) → length slots < SLOT_IDS
good_room slots s g = omega (arith, good_length (s ∷ slots) g)
