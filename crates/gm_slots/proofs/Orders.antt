-- The order of the bases, and what changes keep of it.
use Rattle.std.proofs.Common.{◌≡◌, ◌≢◌, ℕ, zero, suc, ◌+◌, ◌-◌, ◌<◌, ◌≤◌, List, ◌∷◌, length, get_or, Option, None, Some, refl, sym, subst, ◌∙◌, ap, arith, ◌⊎◌, inl, inr}
use Rattle.std.specs.List.{Contains, insert, remove}
use Rattle.std.specs.List.Sorted.{IsNonDecreasingBy}
use Rattle.std.proofs.lemmas.List.Edits.{length-insert, get_or-insert_below, get_or-insert_at, get_or-insert_above, length-remove, get_or-remove_below, get_or-remove_above}
use Rattle.std.proofs.lemmas.List.Sorted.{Contains-permutation, IsPermutation-insert, IsPermutation-remove}
use Rattle.std.proofs.lemmas.Bool.{cases_lt, cases_eq}
use Rattle.gm_flat.specs.declared.views.SlotView.{SlotView}
use Rattle.gm_flat.specs.Slots.{slot_by_id}
use Rattle.gm_slots.specs.declared.order.Begin.{Begin}
use Rattle.gm_slots.specs.Order.{Rises, IsPut, IsTaken}
use Rattle.gm_slots.specs.Kept.{ByBase, begin_at, begin_of}
use Rattle.gm_slots.proofs.ById.{by_id_some}

pub not_falling : (order : List Begin) → Rises order → IsNonDecreasingBy (λ (b : Begin). b.base) order
not_falling order r i j d h l = side (cases_eq i j)
  where
    side : ((i ≡ j) ⊎ (i ≡ j → ⊥)) → (get_or order i d).base ≤ (get_or order j d).base
    side (inl e) = omega (arith, ap (λ (n : ℕ). (get_or order n d).base) e)
    side (inr ne) = omega (arith, r i j d (omega (arith, ne)) l)

-- one more

beyond : (order : List Begin) (at : ℕ) (b d : Begin) (k : ℕ) → at ≤ length order → at < k → get_or (insert order at b) k d ≡ get_or order (k - 1) d
beyond order at b d k h l =
    let whole : k ≡ k - 1 + 1 = omega arith in
    ap (λ (n : ℕ). get_or (insert order at b) n d) whole ∙ get_or-insert_above order at b d (k - 1) (omega arith) h

-- where a place of the longer list lies
abbrev Side : ℕ → ℕ → Type 0
Side k at = (k < at) ⊎ ((k ≡ at) ⊎ (at < k))

side_of : (k at : ℕ) → Side k at
side_of k at = by_less (cases_lt k at)
  where
    by_same : (at ≤ k) → ((k ≡ at) ⊎ (k ≡ at → ⊥)) → Side k at
    by_same h (inl e) = inr (inl e)
    by_same h (inr ne) = inr (inr (omega (arith, ne)))

    by_less : ((k < at) ⊎ (at ≤ k)) → Side k at
    by_less (inl h) = inl h
    by_less (inr h) = by_same h (cases_eq k at)

pub rises_put : (order new : List Begin) (b : Begin) → Rises order → IsPut order new b → ((k : ℕ) (d : Begin) → k < length order → (get_or order k d).base ≢ b.base) → Rises new
rises_put order new b r p apart = subst (λ (l : List Begin). Rises l) (sym p.is) (λ i j d h l. sides i j d h l (side_of i p.at) (side_of j p.at))
  where
    below : (k : ℕ) (d : Begin) → k < p.at → (get_or (insert order p.at b) k d).base ≡ (get_or order k d).base
    below k d h = ap (λ (x : Begin). x.base) (get_or-insert_below order p.at b d k h p.bound)

    here : (k : ℕ) (d : Begin) → k ≡ p.at → (get_or (insert order p.at b) k d).base ≡ b.base
    here k d e = ap (λ (n : ℕ). (get_or (insert order p.at b) n d).base) e ∙ ap (λ (x : Begin). x.base) (get_or-insert_at order p.at b d p.bound)

    above : (k : ℕ) (d : Begin) → p.at < k → (get_or (insert order p.at b) k d).base ≡ (get_or order (k - 1) d).base
    above k d h = ap (λ (x : Begin). x.base) (beyond order p.at b d k p.bound h)

    under : (k : ℕ) (d : Begin) → k < p.at → (get_or order k d).base < b.base
    under k d h = omega (arith, p.low k d h, apart k d (omega (arith, p.bound)))

    sides : (i j : ℕ) (d : Begin) → i < j → j < length (insert order p.at b) → Side i p.at → Side j p.at → (get_or (insert order p.at b) i d).base < (get_or (insert order p.at b) j d).base
    sides i j d h l (inl a) (inl c) = omega (arith, below i d a, below j d c, r i j d h (omega (arith, p.bound)))
    sides i j d h l (inl a) (inr (inl c)) = omega (arith, below i d a, here j d c, under i d a)
    sides i j d h l (inl a) (inr (inr c)) =
        omega (arith, below i d a, above j d c, r i (j - 1) d (omega arith) (omega (arith, length-insert order p.at b p.bound)))
    sides i j d h l (inr (inl a)) (inr (inr c)) =
        omega (arith, here i d a, above j d c, p.high (j - 1) d (omega arith) (omega (arith, length-insert order p.at b p.bound)))
    sides i j d h l (inr (inr a)) (inr (inr c)) =
        omega (arith, above i d a, above j d c, r (i - 1) (j - 1) d (omega arith) (omega (arith, length-insert order p.at b p.bound)))
    sides i j d h l (inr (inl a)) (inl c) = absurd (omega arith)
    sides i j d h l (inr (inl a)) (inr (inl c)) = absurd (omega arith)
    sides i j d h l (inr (inr a)) (inl c) = absurd (omega arith)
    sides i j d h l (inr (inr a)) (inr (inl c)) = absurd (omega arith)

-- one less

pub rises_take : (order new : List Begin) (base : ℕ) → Rises order → IsTaken order new base → Rises new
rises_take order new base r t = subst (λ (l : List Begin). Rises l) (sym t.is) (λ i j d h l. sides i j d h l (cases_lt i t.at) (cases_lt j t.at))
  where
    below : (k : ℕ) (d : Begin) → k < t.at → (get_or (remove order t.at) k d).base ≡ (get_or order k d).base
    below k d h = ap (λ (x : Begin). x.base) (get_or-remove_below order t.at d k h t.bound)

    above : (k : ℕ) (d : Begin) → t.at ≤ k → (get_or (remove order t.at) k d).base ≡ (get_or order (k + 1) d).base
    above k d h = ap (λ (x : Begin). x.base) (get_or-remove_above order t.at d k h t.bound)

    sides : (i j : ℕ) (d : Begin) → i < j → j < length (remove order t.at) → ((i < t.at) ⊎ (t.at ≤ i)) → ((j < t.at) ⊎ (t.at ≤ j)) → (get_or (remove order t.at) i d).base < (get_or (remove order t.at) j d).base
    sides i j d h l (inl a) (inl c) = omega (arith, below i d a, below j d c, r i j d h (omega (arith, t.bound)))
    sides i j d h l (inl a) (inr c) =
        omega (arith, below i d a, above j d c, r i (j + 1) d (omega arith) (omega (arith, length-remove order t.at t.bound)))
    sides i j d h l (inr a) (inr c) =
        omega (arith, above i d a, above j d c, r (i + 1) (j + 1) d (omega arith) (omega (arith, length-remove order t.at t.bound)))
    sides i j d h l (inr a) (inl c) = absurd (omega arith)

-- where the slot with an id begins

pub begin_some : (slots : List SlotView) (id : ℕ) (b : Begin) → begin_at slots id ≡ Some b → (s : SlotView) × (slot_by_id slots id ≡ Some s) × (record { base = s.base; id = s.id } ≡ b)
begin_some slots id b e = by_slot (slot_by_id slots id) refl e
  where
    by_slot : (o : Option SlotView) → slot_by_id slots id ≡ o → begin_of o ≡ Some b → (s : SlotView) × (slot_by_id slots id ≡ Some s) × (record { base = s.base; id = s.id } ≡ b)
    by_slot None is e = absurd cc
    by_slot (Some s) is e = (s, is, the_begin (record { base = s.base; id = s.id }) b e)
      where
        the_begin : (x y : Begin) → Some x ≡ Some y → x ≡ y
        the_begin x y h = cc

pub begin_id : (slots : List SlotView) (id : ℕ) (b : Begin) → begin_at slots id ≡ Some b → b.id ≡ id
begin_id slots id b e =
    let (s, is, begins) = begin_some slots id b e in
    ap (λ (x : Begin). x.id) (sym begins) ∙ (by_id_some slots id s is).1

-- the order of a list in which other slots stay
pub base_same : (old new : List SlotView) (order : List Begin) → ByBase old order → ((id : ℕ) → begin_at new id ≡ begin_at old id) → ByBase new order
base_same old new order b same = record {
  sound = λ at d h. same (get_or order at d).id ∙ b.sound at d h;
  complete = λ id c e. b.complete id c (sym (same id) ∙ e);
  rises = b.rises;
}

pub base_put : (old new : List SlotView) (order longer : List Begin) (b : Begin) → ByBase old order → IsPut order longer b → ((k : ℕ) (d : Begin) → k < length order → (get_or order k d).base ≢ b.base) → begin_at old b.id ≡ None → begin_at new b.id ≡ Some b → ((id : ℕ) → id ≢ b.id → begin_at new id ≡ begin_at old id) → ByBase new longer
base_put old new order longer b by p apart none here others = record {
  sound = subst (λ (l : List Begin). (at : ℕ) (d : Begin) → at < length l → begin_at new (get_or l at d).id ≡ Some (get_or l at d)) (sym p.is) (λ at d h. sides at d h (side_of at p.at));
  complete = λ id c e. subst (λ (l : List Begin). Contains l c) (sym p.is) (Contains-permutation (b ∷ order) (insert order p.at b) c (IsPermutation-insert order p.at b) (among id c e (cases_eq id b.id)));
  rises = rises_put order longer b by.rises p apart;
}
  where
    kept : (k : ℕ) (d : Begin) → k < length order → begin_at new (get_or order k d).id ≡ Some (get_or order k d)
    kept k d h = others (get_or order k d).id another ∙ by.sound k d h
      where
        another : (get_or order k d).id ≢ b.id
        another e =
            let found : begin_at old b.id ≡ Some (get_or order k d) = ap (λ (n : ℕ). begin_at old n) (sym e) ∙ by.sound k d h in
            let clash : None ≡ Some (get_or order k d) = sym none ∙ found in
            cc

    moved_to : (x y : Begin) → x ≡ y → begin_at new y.id ≡ Some y → begin_at new x.id ≡ Some x
    moved_to x y e h = subst (λ (z : Begin). begin_at new z.id ≡ Some z) (sym e) h

    sides : (at : ℕ) (d : Begin) → at < length (insert order p.at b) → Side at p.at → begin_at new (get_or (insert order p.at b) at d).id ≡ Some (get_or (insert order p.at b) at d)
    sides at d h (inl a) = moved_to (get_or (insert order p.at b) at d) (get_or order at d) (get_or-insert_below order p.at b d at a p.bound) (kept at d (omega (arith, p.bound)))
    sides at d h (inr (inl a)) =
        moved_to (get_or (insert order p.at b) at d) b (ap (λ (n : ℕ). get_or (insert order p.at b) n d) a ∙ get_or-insert_at order p.at b d p.bound) here
    sides at d h (inr (inr a)) =
        moved_to (get_or (insert order p.at b) at d) (get_or order (at - 1) d) (beyond order p.at b d at p.bound a) (kept (at - 1) d (omega (arith, length-insert order p.at b p.bound)))

    the_same : (x y : Begin) → Some x ≡ Some y → x ≡ y
    the_same x y e = cc

    among : (id : ℕ) (c : Begin) → begin_at new id ≡ Some c → ((id ≡ b.id) ⊎ (id ≡ b.id → ⊥)) → Contains (b ∷ order) c
    among id c e (inl is) = (0, omega arith, the_same b c (sym here ∙ (ap (λ (n : ℕ). begin_at new n) (sym is) ∙ e)))
    among id c e (inr ne) =
        let there : Contains order c = by.complete id c (sym (others id ne) ∙ e) in
        (suc there.0, omega (arith, there.1), there.2)

pub base_take : (old new : List SlotView) (order shorter : List Begin) (b : Begin) (base : ℕ) → ByBase old order → (t : IsTaken order shorter base) → ((d : Begin) → get_or order t.at d ≡ b) → begin_at new b.id ≡ None → ((id : ℕ) → id ≢ b.id → begin_at new id ≡ begin_at old id) → ByBase new shorter
base_take old new order shorter b base by t is none others = record {
  sound = subst (λ (l : List Begin). (at : ℕ) (d : Begin) → at < length l → begin_at new (get_or l at d).id ≡ Some (get_or l at d)) (sym t.is) (λ at d h. sides at d h (cases_lt at t.at));
  complete = λ id c e. subst (λ (l : List Begin). Contains l c) (sym t.is) (left id c e (cases_eq id b.id));
  rises = rises_take order shorter base by.rises t;
}
  where
    kept : (k : ℕ) (d : Begin) → k < length order → k ≢ t.at → begin_at new (get_or order k d).id ≡ Some (get_or order k d)
    kept k d h ne = others (get_or order k d).id another ∙ by.sound k d h
      where
        there : begin_at old b.id ≡ Some b
        there = subst (λ (x : Begin). begin_at old x.id ≡ Some x) (is d) (by.sound t.at d t.bound)

        the_same : (x y : Begin) → Some x ≡ Some y → x ≡ y
        the_same x y e = cc

        apart : (get_or order k d).base ≡ (get_or order t.at d).base → ((k < t.at) ⊎ (t.at ≤ k)) → ⊥
        apart e (inl l) = omega (arith, by.rises k t.at d l t.bound)
        apart e (inr l) = omega (arith, by.rises t.at k d (omega (arith, ne)) h)

        another : (get_or order k d).id ≢ b.id
        another e =
            let one : get_or order k d ≡ b = the_same (get_or order k d) b (sym (by.sound k d h) ∙ (ap (λ (n : ℕ). begin_at old n) e ∙ there)) in
            apart (ap (λ (x : Begin). x.base) (one ∙ sym (is d))) (cases_lt k t.at)

    moved_to : (x y : Begin) → x ≡ y → begin_at new y.id ≡ Some y → begin_at new x.id ≡ Some x
    moved_to x y e h = subst (λ (z : Begin). begin_at new z.id ≡ Some z) (sym e) h

    sides : (at : ℕ) (d : Begin) → at < length (remove order t.at) → ((at < t.at) ⊎ (t.at ≤ at)) → begin_at new (get_or (remove order t.at) at d).id ≡ Some (get_or (remove order t.at) at d)
    sides at d h (inl a) =
        moved_to (get_or (remove order t.at) at d) (get_or order at d) (get_or-remove_below order t.at d at a t.bound) (kept at d (omega (arith, t.bound)) (λ e. omega arith))
    sides at d h (inr a) =
        moved_to (get_or (remove order t.at) at d) (get_or order (at + 1) d) (get_or-remove_above order t.at d at a t.bound) (kept (at + 1) d (omega (arith, length-remove order t.at t.bound)) (λ e. omega arith))

    left : (id : ℕ) (c : Begin) → begin_at new id ≡ Some c → ((id ≡ b.id) ⊎ (id ≡ b.id → ⊥)) → Contains (remove order t.at) c
    left id c e (inl same) =
        let clash : None ≡ Some c = sym none ∙ (ap (λ (n : ℕ). begin_at new n) (sym same) ∙ e) in
        absurd cc
    left id c e (inr ne) =
        let found : begin_at old id ≡ Some c = sym (others id ne) ∙ e in
        behind (Contains-permutation order (b ∷ remove order t.at) c (IsPermutation-remove order t.at b t.bound (sym (is b))) (by.complete id c found))
      where
        behind : Contains (b ∷ remove order t.at) c → Contains (remove order t.at) c
        behind (zero, h, is) = absurd (ne (sym (begin_id old id c (sym (others id ne) ∙ e)) ∙ ap (λ (x : Begin). x.id) (sym is)))
        behind (suc k, h, is) = (k, omega arith, is)
