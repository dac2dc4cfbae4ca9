-- Slots have different ids, so a slot is found again by its id.
use Rattle.std.proofs.Common.{Bool, List, None, Option, Some, [], ap, arith, cond, eqb, eqb-true, false, inl, inr, refl, subst, sym, true, ℕ, ◌∙◌, ◌∷◌, ◌≡◌, ◌⊎◌}
use Rattle.std.proofs.lemmas.Bool.Decides.{nat_tests}
use Rattle.gm_flat.specs.Effects.{dropped, marked, moved, shut_slot, shut_slots}
use Rattle.gm_flat.specs.Replay.{flat_at, slot_by}
use Rattle.gm_flat.specs.RightLook.{id_of}
use Rattle.gm_flat.specs.Slots.{lies_over}
use Rattle.gm_flat.specs.declared.entry.Entry.{Entry}
use Rattle.gm_flat.specs.declared.views.SlotView.{SlotView}
use Rattle.gm_laws.proofs.Flats.{over, with_id}
use Rattle.gm_laws.proofs.Kit.{cond_is, none_is, some_same}

abbrev pub MemSlot : SlotView → List SlotView → Type 0
MemSlot x [] = ⊥
MemSlot x (y ∷ ys) = (x ≡ y) ⊎ MemSlot x ys

abbrev pub IdsApart : List SlotView → Type 0
IdsApart [] = Unit {0}
IdsApart (s ∷ ss) = (with_id s.id ss ≡ None) × IdsApart ss

over_step : (g : ℕ) (t u : Bool) (s r : SlotView) (ss : List SlotView) → eqb s.id r.id ≡ u → with_id s.id ss ≡ None → (over g ss ≡ Some r → with_id r.id ss ≡ Some r) → cond t (Some s) (over g ss) ≡ Some r → cond u (Some s) (with_id r.id ss) ≡ Some r
over_step g true true s r ss e n ih h = h
over_step g true false s r ss e n ih h = absurd (apart s r (some_same s r h) e)
  where
    self : (n : ℕ) → eqb n n ≡ false → ⊥
    self n e = grind (arith, nat_tests)

    apart : (s r : SlotView) → s ≡ r → eqb s.id r.id ≡ false → ⊥
    apart s r e f = self r.id (subst (λ (x : SlotView). eqb x.id r.id ≡ false) e f)
over_step g false true s r ss e n ih h = absurd (clash (ih h))
  where
    clash : with_id r.id ss ≡ Some r → ⊥
    clash k = none_is r (sym n ∙ (ap (λ (i : ℕ). with_id i ss) (eqb-true s.id r.id e) ∙ k))
over_step g false false s r ss e n ih h = ih h

pub over_id : (g : ℕ) (r : SlotView) (rs : List SlotView) → IdsApart rs → over g rs ≡ Some r → with_id r.id rs ≡ Some r
over_id g r [] a h = absurd (none_is r h)
over_id g r (s ∷ ss) a h = over_step g (lies_over s g) (eqb s.id r.id) s r ss refl a.0 (over_id g r ss a.1) h

-- the slot by the id of the slot over a page is that slot
pub by_id_of : (g : ℕ) (rs : List SlotView) (o : Option SlotView) → IdsApart rs → over g rs ≡ o → slot_by (id_of o) rs ≡ o
by_id_of g rs None a e = refl
by_id_of g rs (Some r) a e = over_id g r rs a e

-- what effects leave
id_dropped : (j id : ℕ) (rs : List SlotView) → with_id j rs ≡ None → with_id j (dropped id rs) ≡ None
id_dropped j id [] h = refl
id_dropped j id (r ∷ rs) h = go (eqb r.id id) (eqb r.id j) refl h (id_dropped j id rs)
  where
    go : (t u : Bool) → eqb r.id j ≡ u → cond u (Some r) (with_id j rs) ≡ None → (with_id j rs ≡ None → with_id j (dropped id rs) ≡ None) → with_id j (cond t rs (r ∷ dropped id rs)) ≡ None
    go t true e h ih = absurd (none_is r (sym h))
    go true false e h ih = h
    go false false e h ih = rw e (ih h)

pub apart_dropped : (id : ℕ) (rs : List SlotView) → IdsApart rs → IdsApart (dropped id rs)
apart_dropped id [] h = h
apart_dropped id (r ∷ rs) h = go (eqb r.id id) (apart_dropped id rs h.1)
  where
    go : (t : Bool) → IdsApart (dropped id rs) → IdsApart (cond t rs (r ∷ dropped id rs))
    go true ih = h.1
    go false ih = (id_dropped r.id id rs h.0, ih)

id_moved : (j id base : ℕ) (rs : List SlotView) → with_id j rs ≡ None → with_id j (moved id base rs) ≡ None
id_moved j id base [] h = refl
id_moved j id base (r ∷ rs) h = go (eqb r.id id) (eqb r.id j) refl h (id_moved j id base rs)
  where
    go : (t u : Bool) → eqb r.id j ≡ u → cond u (Some r) (with_id j rs) ≡ None → (with_id j rs ≡ None → with_id j (moved id base rs) ≡ None) → with_id j (cond t (record r { base = base; invalid = false } ∷ rs) (r ∷ moved id base rs)) ≡ None
    go t true e h ih = absurd (none_is r (sym h))
    go true false e h ih = rw e h
    go false false e h ih = rw e (ih h)

pub apart_moved : (id base : ℕ) (rs : List SlotView) → IdsApart rs → IdsApart (moved id base rs)
apart_moved id base [] h = h
apart_moved id base (r ∷ rs) h = go (eqb r.id id) (apart_moved id base rs h.1)
  where
    go : (t : Bool) → IdsApart (moved id base rs) → IdsApart (cond t (record r { base = base; invalid = false } ∷ rs) (r ∷ moved id base rs))
    go true ih = h
    go false ih = (id_moved r.id id base rs h.0, ih)

id_marked : (j id : ℕ) (rs : List SlotView) → with_id j rs ≡ None → with_id j (marked id rs) ≡ None
id_marked j id [] h = refl
id_marked j id (r ∷ rs) h = go (eqb r.id id) (eqb r.id j) refl h (id_marked j id rs)
  where
    go : (t u : Bool) → eqb r.id j ≡ u → cond u (Some r) (with_id j rs) ≡ None → (with_id j rs ≡ None → with_id j (marked id rs) ≡ None) → with_id j (cond t (record r { invalid = true } ∷ rs) (r ∷ marked id rs)) ≡ None
    go t true e h ih = absurd (none_is r (sym h))
    go true false e h ih = rw e h
    go false false e h ih = rw e (ih h)

pub apart_marked : (id : ℕ) (rs : List SlotView) → IdsApart rs → IdsApart (marked id rs)
apart_marked id [] h = h
apart_marked id (r ∷ rs) h = go (eqb r.id id) (apart_marked id rs h.1)
  where
    go : (t : Bool) → IdsApart (marked id rs) → IdsApart (cond t (record r { invalid = true } ∷ rs) (r ∷ marked id rs))
    go true ih = h
    go false ih = (id_marked r.id id rs h.0, ih)

id_shut : (j F : ℕ) (rs : List SlotView) → with_id j rs ≡ None → with_id j (shut_slots F rs) ≡ None
id_shut j F [] h = refl
id_shut j F (r ∷ rs) h = go (eqb r.id j) refl h (id_shut j F rs)
  where
    go : (u : Bool) → eqb r.id j ≡ u → cond u (Some r) (with_id j rs) ≡ None → (with_id j rs ≡ None → with_id j (shut_slots F rs) ≡ None) → cond u (Some (shut_slot F r)) (with_id j (shut_slots F rs)) ≡ None
    go true e h ih = absurd (none_is r (sym h))
    go false e h ih = ih h

pub apart_shut : (F : ℕ) (rs : List SlotView) → IdsApart rs → IdsApart (shut_slots F rs)
apart_shut F [] h = h
apart_shut F (r ∷ rs) h = (id_shut r.id F rs h.0, apart_shut F rs h.1)

-- each state of the past has such slots
abbrev pub IdsAt : List Entry → Type 0
IdsAt past = (p : ℕ) → IdsApart (flat_at p past).slots

pub over_mem : (g : ℕ) (r : SlotView) (rs : List SlotView) → over g rs ≡ Some r → MemSlot r rs × (lies_over r g ≡ true)
over_mem g r [] e = absurd (none_is r e)
over_mem g r (x ∷ xs) e =
    elim (cond_is (lies_over x g) (Some x) (over g xs) (Some r) e) [
      | inl y ↦ let s : x ≡ r = some_same x r y.1 in (inl (sym s), ap (λ (z : SlotView). lies_over z g) (sym s) ∙ y.0)
      | inr y ↦ let z = over_mem g r xs y.1 in (inr z.0, z.1)
    ]
