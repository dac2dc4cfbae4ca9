-- The slot over a page, by the order of the bases.
use Rattle.std.proofs.Common.{◌≡◌, ℕ, zero, suc, ◌+◌, ◌-◌, ◌<◌, ◌≤◌, List, [], ◌∷◌, length, get_or, Bool, true, false, cond, ltb, None, Some, refl, sym, ◌∙◌, ap, arith, ◌⊎◌, inl, inr}
use Rattle.std.specs.List.{Contains}
use Rattle.std.proofs.lemmas.List.{get_or_default}
use Rattle.std.proofs.lemmas.List.Elements.{Contains-get_or}
use Rattle.std.proofs.lemmas.Bool.Decides.{nat_tests}
use Rattle.std.proofs.lemmas.Bool.{cases_lt}
use Rattle.gm_base.specs.Extent.{meets}
use Rattle.gm_flat.specs.declared.views.SlotView.{SlotView}
use Rattle.gm_flat.specs.Slots.{slot_over, slot_span, slot_by_id, lies_over}
use Rattle.gm_flat.specs.Calls.{meets_slot}
use Rattle.gm_slots.specs.declared.order.Begin.{Begin}
use Rattle.gm_slots.specs.Good.{Good}
use Rattle.gm_slots.specs.Kept.{ByBase, begin_of}
use Rattle.gm_slots.proofs.ById.{by_contains, by_id_some, pages_of}
use Rattle.gm_slots.proofs.Goods.{or_left, or_right, and_comm}
use Rattle.gm_slots.proofs.Orders.{begin_some, not_falling}

-- a range that meets no slot doesn't meet one of them
pub meets_at : (slots : List SlotView) (low pages at : ℕ) (d : SlotView) → meets_slot low pages slots ≡ false → at < length slots → meets (record { lo = low; hi = low + pages }) (slot_span (get_or slots at d)) ≡ false
meets_at [] low pages at d e h = absurd (omega arith)
meets_at (s ∷ slots) low pages zero d e h = or_left (meets (record { lo = low; hi = low + pages }) (slot_span s)) (meets_slot low pages slots) e
meets_at (s ∷ slots) low pages (suc at) d e h = meets_at slots low pages at d (or_right (meets (record { lo = low; hi = low + pages }) (slot_span s)) (meets_slot low pages slots) e) (omega arith)

not_both : (s t : SlotView) (page : ℕ) → meets (slot_span s) (slot_span t) ≡ false → lies_over t page ≡ true → lies_over s page ≡ false
not_both s t page e h = grind (arith, nat_tests)

-- the slot that lies over a page is the one
over_found : (slots : List SlotView) (at page : ℕ) (d : SlotView) → Good slots → at < length slots → lies_over (get_or slots at d) page ≡ true → slot_over slots page ≡ Some (get_or slots at d)
over_found [] at page d g h e = absurd (omega arith)
over_found (s ∷ slots) zero page d g h e = ap (λ (b : Bool). cond b (Some s) (slot_over slots page)) e
over_found (s ∷ slots) (suc at) page d g h e =
    ap (λ (b : Bool). cond b (Some s) (slot_over slots page)) (not_both s (get_or slots at d) page (meets_at slots s.base s.pages at d g.3 (omega arith)) e)
    ∙ over_found slots at page d g.4 (omega arith) e

pub find_some : (slots : List SlotView) (id page : ℕ) (s : SlotView) → Good slots → slot_by_id slots id ≡ Some s → lies_over s page ≡ true → slot_over slots page ≡ Some s
find_some slots id page s g found over =
    let there : Contains slots s = (by_id_some slots id s found).0 in
    over_found slots there.0 page s g there.1 (ap (λ (x : SlotView). lies_over x page) there.2 ∙ over) ∙ ap (λ (x : SlotView). Some x) there.2

-- where none lies over it, there is none
over_none : (slots : List SlotView) (page : ℕ) → ((at : ℕ) (d : SlotView) → at < length slots → lies_over (get_or slots at d) page ≡ false) → slot_over slots page ≡ None
over_none [] page h = refl
over_none (s ∷ slots) page h =
    ap (λ (b : Bool). cond b (Some s) (slot_over slots page)) (h 0 s (omega arith)) ∙ over_none slots page (λ at d l. h (suc at) d (omega arith))

-- two slots are the same or don't meet
pairs : (slots : List SlotView) (i j : ℕ) (d : SlotView) → Good slots → i < length slots → j < length slots → (get_or slots i d ≡ get_or slots j d) ⊎ (meets (slot_span (get_or slots i d)) (slot_span (get_or slots j d)) ≡ false)
pairs [] i j d g h l = absurd (omega arith)
pairs (s ∷ slots) zero zero d g h l = inl refl
pairs (s ∷ slots) zero (suc j) d g h l = inr (meets_at slots s.base s.pages j d g.3 (omega arith))
pairs (s ∷ slots) (suc i) zero d g h l =
    inr (and_comm (ltb (get_or slots i d).base (s.base + s.pages)) (ltb s.base ((get_or slots i d).base + (get_or slots i d).pages)) ∙ meets_at slots s.base s.pages i d g.3 (omega arith))
pairs (s ∷ slots) (suc i) (suc j) d g h l = pairs slots i j d g.4 (omega arith) (omega arith)

pub same_or_apart : (slots : List SlotView) (s t : SlotView) → Good slots → Contains slots s → Contains slots t → (s ≡ t) ⊎ (meets (slot_span s) (slot_span t) ≡ false)
same_or_apart slots s t g (i, hi, is) (j, hj, js) = choose (pairs slots i j s g hi hj)
  where
    that : get_or slots j s ≡ t
    that = get_or_default slots j s t hj ∙ js

    choose : ((get_or slots i s ≡ get_or slots j s) ⊎ (meets (slot_span (get_or slots i s)) (slot_span (get_or slots j s)) ≡ false)) → (s ≡ t) ⊎ (meets (slot_span s) (slot_span t) ≡ false)
    choose (inl e) = inl (sym is ∙ (e ∙ that))
    choose (inr e) = inr (sym (ap (λ (x : SlotView). meets (slot_span x) (slot_span (get_or slots j s))) is ∙ ap (λ (x : SlotView). meets (slot_span s) (slot_span x)) that) ∙ e)

-- the slot of a place of the order
pub record IsEntry (slots : List SlotView) (b : Begin) (s : SlotView) : Type 0 where
  pub found : slot_by_id slots b.id ≡ Some s
  pub there : Contains slots s
  pub begins : record { base = s.base; id = s.id } ≡ b

pub entry : (slots : List SlotView) (order : List Begin) (at : ℕ) (d : Begin) → ByBase slots order → at < length order → (s : SlotView) × IsEntry slots (get_or order at d) s
entry slots order at d by h =
    let begins : (s : SlotView) × (slot_by_id slots (get_or order at d).id ≡ Some s) × (record { base = s.base; id = s.id } ≡ get_or order at d) = begin_some slots (get_or order at d).id (get_or order at d) (by.sound at d h) in
    (begins.0, record { found = begins.1; there = (by_id_some slots (get_or order at d).id begins.0 begins.1).0; begins = begins.2 })

-- the place of a slot in the order
pub record IsPlace (order : List Begin) (s : SlotView) (at : ℕ) : Type 0 where
  pub bound : at < length order
  pub base : (d : Begin) → (get_or order at d).base ≡ s.base
  pub id : (d : Begin) → (get_or order at d).id ≡ s.id

pub place : (slots : List SlotView) (order : List Begin) (s : SlotView) → Good slots → ByBase slots order → Contains slots s → (at : ℕ) × IsPlace order s at
place slots order s g by there = at_place (by.complete s.id (record { base = s.base; id = s.id }) (ap begin_of (by_contains slots s g there)))
  where
    at_place : Contains order (record { base = s.base; id = s.id }) → (at : ℕ) × IsPlace order s at
    at_place (at, h, is) = (
      at,
      record {
        bound = h;
        base = λ d. ap (λ (x : Begin). x.base) (get_or_default order at d (record { base = s.base; id = s.id }) h ∙ is);
        id = λ d. ap (λ (x : Begin). x.id) (get_or_default order at d (record { base = s.base; id = s.id }) h ∙ is);
      },
    )

-- so many begin at the page or before it
pub record Begun (order : List Begin) (page count : ℕ) : Type 0 where
  pub bound : count ≤ length order
  pub low : (at : ℕ) (d : Begin) → at < count → (get_or order at d).base ≤ page
  pub high : (at : ℕ) (d : Begin) → count ≤ at → at < length order → page < (get_or order at d).base

after : (s : SlotView) (page : ℕ) → page < s.base → lies_over s page ≡ false
after s page h = grind (arith, nat_tests)

before : (s t : SlotView) (page : ℕ) → meets (slot_span s) (slot_span t) ≡ false → s.base ≤ t.base → 0 < t.pages → t.base ≤ page → lies_over s page ≡ false
before s t page e h l m = grind (arith, nat_tests)

-- where the last slot that begins at the page or before it doesn't lie over it, none does
pub find_none : (slots : List SlotView) (order : List Begin) (count page : ℕ) → Good slots → ByBase slots order → Begun order page count → (0 < count → (d : Begin) (s : SlotView) → slot_by_id slots (get_or order (count - 1) d).id ≡ Some s → lies_over s page ≡ false) → slot_over slots page ≡ None
find_none slots order count page g by begun last = over_none slots page (λ at d h. outside (get_or slots at d) (Contains-get_or slots at d h))
  where
    beside : (s t : SlotView) → Contains slots s → Contains slots t → s.base ≤ t.base → t.base ≤ page → lies_over t page ≡ false → lies_over s page ≡ false
    beside s t here there rises reaches out = choose (same_or_apart slots s t g here there)
      where
        choose : ((s ≡ t) ⊎ (meets (slot_span s) (slot_span t) ≡ false)) → lies_over s page ≡ false
        choose (inl e) = ap (λ (x : SlotView). lies_over x page) e ∙ out
        choose (inr e) = before s t page e rises (pages_of slots t g there) reaches

    outside : (s : SlotView) → Contains slots s → lies_over s page ≡ false
    outside s here = by_place (place slots order s g by here)
      where
        by_place : (at : ℕ) × IsPlace order s at → lies_over s page ≡ false
        by_place (k, p) = side (cases_lt k count)
          where
            d : Begin
            d = record { base = 0; id = 0 }

            by_last : k < count → (t : SlotView) × IsEntry slots (get_or order (count - 1) d) t → lies_over s page ≡ false
            by_last early (t, i) =
                let base : t.base ≡ (get_or order (count - 1) d).base = ap (λ (x : Begin). x.base) i.begins in
                beside s t here i.there
                (omega (arith, base, p.base d, not_falling order by.rises k (count - 1) d (omega arith) (omega (arith, begun.bound))))
                (omega (arith, base, begun.low (count - 1) d (omega arith)))
                (last (omega arith) d t i.found)

            side : ((k < count) ⊎ (count ≤ k)) → lies_over s page ≡ false
            side (inr late) = after s page (omega (arith, begun.high k d late p.bound, p.base d))
            side (inl early) = by_last early (entry slots order (count - 1) d by (omega (arith, begun.bound)))
