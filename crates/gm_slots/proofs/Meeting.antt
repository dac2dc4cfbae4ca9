-- Whether pages meet a slot with another id.
use Rattle.std.proofs.Common.{◌≡◌, ◌≢◌, ℕ, zero, suc, ◌+◌, ◌-◌, ◌<◌, ◌≤◌, List, [], ◌∷◌, length, get_or, Bool, true, false, not, ◌&&◌, ◌||◌, cond, eqb, eqb-true, None, Some, refl, sym, ◌∙◌, ap, arith, ◌⊎◌, inl, inr}
use Rattle.std.specs.List.{Contains}
use Rattle.std.proofs.lemmas.List.Elements.{Contains-get_or}
use Rattle.std.proofs.lemmas.Bool.Decides.{nat_tests}
use Rattle.std.proofs.lemmas.Bool.{cases_lt}
use Rattle.gm_base.specs.Extent.{meets}
use Rattle.gm_flat.specs.declared.views.SlotView.{SlotView}
use Rattle.gm_flat.specs.Slots.{slot_by_id, slot_span}
use Rattle.gm_flat.specs.Calls.{meets_slot}
use Rattle.gm_flat.specs.Effects.{dropped}
use Rattle.gm_slots.specs.declared.order.Begin.{Begin}
use Rattle.gm_slots.specs.Good.{Good}
use Rattle.gm_slots.specs.Order.{IsLastOther}
use Rattle.gm_slots.specs.Kept.{ByBase}
use Rattle.gm_slots.proofs.ById.{by_id_some, pages_of}
use Rattle.gm_slots.proofs.Finding.{meets_at, same_or_apart, IsEntry, entry, IsPlace, place, Begun}
use Rattle.gm_slots.proofs.Orders.{not_falling}

-- slots with another id that meet
abbrev pub others_meet : ℕ → ℕ → ℕ → List SlotView → Bool
others_meet base pages id [] = false
others_meet base pages id (s ∷ slots) = (not (eqb s.id id) && meets (record { lo = base; hi = base + pages }) (slot_span s)) || others_meet base pages id slots

absent_step : (base pages id : ℕ) (s : SlotView) (slots : List SlotView) → slot_by_id (s ∷ slots) id ≡ None → (slot_by_id slots id ≡ None → meets_slot base pages slots ≡ others_meet base pages id slots) → (b : Bool) → eqb s.id id ≡ b → meets_slot base pages (s ∷ slots) ≡ others_meet base pages id (s ∷ slots)
absent_step base pages id s slots none rest true e =
    let some : Some s ≡ None = sym (ap (λ (b : Bool). cond b (Some s) (slot_by_id slots id)) e) ∙ none in
    absurd cc
absent_step base pages id s slots none rest false e =
    ap (λ (r : Bool). meets (record { lo = base; hi = base + pages }) (slot_span s) || r) (rest (sym (ap (λ (b : Bool). cond b (Some s) (slot_by_id slots id)) e) ∙ none))
    ∙ ap (λ (b : Bool). (not b && meets (record { lo = base; hi = base + pages }) (slot_span s)) || others_meet base pages id slots) (sym e)

absent_meet : (base pages id : ℕ) (slots : List SlotView) → slot_by_id slots id ≡ None → meets_slot base pages slots ≡ others_meet base pages id slots
absent_meet base pages id [] none = refl
absent_meet base pages id (s ∷ slots) none = absent_step base pages id s slots none (λ h. absent_meet base pages id slots h) (eqb s.id id) refl

others_step : (base pages id : ℕ) (s : SlotView) (slots : List SlotView) → slot_by_id slots s.id ≡ None → meets_slot base pages (dropped id slots) ≡ others_meet base pages id slots → (b : Bool) → eqb s.id id ≡ b → meets_slot base pages (dropped id (s ∷ slots)) ≡ others_meet base pages id (s ∷ slots)
others_step base pages id s slots none rest true e =
    ap (λ (b : Bool). meets_slot base pages (cond b slots (s ∷ dropped id slots))) e
    ∙ (absent_meet base pages id slots (ap (λ (n : ℕ). slot_by_id slots n) (sym (eqb-true s.id id e)) ∙ none)
    ∙ ap (λ (b : Bool). (not b && meets (record { lo = base; hi = base + pages }) (slot_span s)) || others_meet base pages id slots) (sym e))
others_step base pages id s slots none rest false e =
    ap (λ (b : Bool). meets_slot base pages (cond b slots (s ∷ dropped id slots))) e
    ∙ (ap (λ (r : Bool). meets (record { lo = base; hi = base + pages }) (slot_span s) || r) rest
    ∙ ap (λ (b : Bool). (not b && meets (record { lo = base; hi = base + pages }) (slot_span s)) || others_meet base pages id slots) (sym e))

others_are : (base pages id : ℕ) (slots : List SlotView) → Good slots → meets_slot base pages (dropped id slots) ≡ others_meet base pages id slots
others_are base pages id [] g = refl
others_are base pages id (s ∷ slots) g = others_step base pages id s slots g.0 (others_are base pages id slots g.4) (eqb s.id id) refl

differ : (a b : ℕ) → a ≢ b → eqb a b ≡ false
differ a b ne = grind (arith, nat_tests)

-- one with another id that meets
others_true : (base pages id : ℕ) (slots : List SlotView) (at : ℕ) (d : SlotView) → at < length slots → (get_or slots at d).id ≢ id → meets (record { lo = base; hi = base + pages }) (slot_span (get_or slots at d)) ≡ true → others_meet base pages id slots ≡ true
others_true base pages id [] at d h ne e = absurd (omega arith)
others_true base pages id (s ∷ slots) zero d h ne e =
    ap (λ (b : Bool). (not b && meets (record { lo = base; hi = base + pages }) (slot_span s)) || others_meet base pages id slots) (differ s.id id ne)
    ∙ ap (λ (b : Bool). b || others_meet base pages id slots) e
others_true base pages id (s ∷ slots) (suc at) d h ne e = later (not (eqb s.id id) && meets (record { lo = base; hi = base + pages }) (slot_span s)) (others_meet base pages id slots) (others_true base pages id slots at d (omega arith) ne e)
  where
    later : (a b : Bool) → b ≡ true → (a || b) ≡ true
    later true b h = refl
    later false b h = h

-- none of them meets
others_false : (base pages id : ℕ) (slots : List SlotView) → ((at : ℕ) (d : SlotView) → at < length slots → (get_or slots at d).id ≢ id → meets (record { lo = base; hi = base + pages }) (slot_span (get_or slots at d)) ≡ false) → others_meet base pages id slots ≡ false
others_false base pages id [] each = refl
others_false base pages id (s ∷ slots) each =
    both (not (eqb s.id id) && meets (record { lo = base; hi = base + pages }) (slot_span s)) (others_meet base pages id slots) (first (eqb s.id id) refl) (others_false base pages id slots (λ at d h ne. each (suc at) d (omega arith) ne))
  where
    both : (a b : Bool) → a ≡ false → b ≡ false → (a || b) ≡ false
    both a b h l = ap (λ (x : Bool). x || b) h ∙ l

    unlike : (a b : ℕ) → eqb a b ≡ false → a ≢ b
    unlike a b e = grind (arith, nat_tests)

    first : (b : Bool) → eqb s.id id ≡ b → (not b && meets (record { lo = base; hi = base + pages }) (slot_span s)) ≡ false
    first true e = refl
    first false e = each 0 s (omega arith) (unlike s.id id e)

-- a slot that begins past the pages, and one that ends before another that ends before them
past : (s : SlotView) (base pages : ℕ) → 0 < pages → base + (pages - 1) < s.base → meets (record { lo = base; hi = base + pages }) (slot_span s) ≡ false
past s base pages some h = grind (arith, nat_tests)

ends_first : (s t : SlotView) (base pages : ℕ) → 0 < pages → s.base ≤ t.base → 0 < t.pages → t.base ≤ base + (pages - 1) → meets (slot_span s) (slot_span t) ≡ false → meets (record { lo = base; hi = base + pages }) (slot_span t) ≡ false → meets (record { lo = base; hi = base + pages }) (slot_span s) ≡ false
ends_first s t base pages some h l m e f = grind (arith, nat_tests)

abbrev blank : Begin
blank = record { base = 0; id = 0 }

-- where no other slot begins before the end of the pages, none meets
pub none_meet : (slots : List SlotView) (order : List Begin) (base pages id count : ℕ) → Good slots → ByBase slots order → 0 < pages → Begun order (base + (pages - 1)) count → ((at : ℕ) (d : Begin) → at < count → (get_or order at d).id ≡ id) → meets_slot base pages (dropped id slots) ≡ false
none_meet slots order base pages id count g by some begun none =
    others_are base pages id slots g ∙ others_false base pages id slots (λ at d h ne. beyond (get_or slots at d) ne (place slots order (get_or slots at d) g by (Contains-get_or slots at d h)))
  where
    beyond : (s : SlotView) → s.id ≢ id → (at : ℕ) × IsPlace order s at → meets (record { lo = base; hi = base + pages }) (slot_span s) ≡ false
    beyond s ne (k, p) = side (cases_lt k count)
      where
        side : ((k < count) ⊎ (count ≤ k)) → meets (record { lo = base; hi = base + pages }) (slot_span s) ≡ false
        side (inl early) = absurd (ne (sym (p.id blank) ∙ none k blank early))
        side (inr late) = past s base pages some (omega (arith, begun.high k blank late p.bound, p.base blank))

-- otherwise the last other one decides
pub last_decides : (slots : List SlotView) (order : List Begin) (base pages id count : ℕ) (b : Begin) (t : SlotView) → Good slots → ByBase slots order → 0 < pages → Begun order (base + (pages - 1)) count → IsLastOther order count id b → slot_by_id slots b.id ≡ Some t → meets_slot base pages (dropped id slots) ≡ meets (record { lo = base; hi = base + pages }) (slot_span t)
last_decides slots order base pages id count b t g by some begun last found =
    others_are base pages id slots g ∙ decide (meets (record { lo = base; hi = base + pages }) (slot_span t)) refl
  where
    there : Contains slots t × (t.id ≡ b.id)
    there = by_id_some slots b.id t found

    base_is : t.base ≡ b.base
    base_is = by_entry (entry slots order last.at blank by (omega (arith, last.bound, begun.bound)))
      where
        by_entry : (s : SlotView) × IsEntry slots (get_or order last.at blank) s → t.base ≡ b.base
        by_entry (s, i) =
            let again : slot_by_id slots b.id ≡ Some s = ap (λ (x : Begin). slot_by_id slots x.id) (sym (last.is blank)) ∙ i.found in
            let one : t ≡ s = the_same t s (sym found ∙ again) in
            ap (λ (x : SlotView). x.base) one ∙ ap (λ (x : Begin). x.base) (i.begins ∙ last.is blank)
          where
            the_same : (x y : SlotView) → Some x ≡ Some y → x ≡ y
            the_same x y e = cc

    clear : meets (record { lo = base; hi = base + pages }) (slot_span t) ≡ false → (s : SlotView) → Contains slots s → s.id ≢ id → (at : ℕ) × IsPlace order s at → meets (record { lo = base; hi = base + pages }) (slot_span s) ≡ false
    clear out s here ne (k, p) = side (cases_lt k count)
      where
        choose : s.base ≤ t.base → ((s ≡ t) ⊎ (meets (slot_span s) (slot_span t) ≡ false)) → meets (record { lo = base; hi = base + pages }) (slot_span s) ≡ false
        choose rises (inl e) = ap (λ (x : SlotView). meets (record { lo = base; hi = base + pages }) (slot_span x)) e ∙ out
        choose rises (inr e) =
            ends_first s t base pages some rises (pages_of slots t g there.0) (omega (arith, base_is, begun.low last.at blank last.bound, ap (λ (x : Begin). x.base) (last.is blank))) e out

        among : k < count → ((last.at < k) ⊎ (k ≤ last.at)) → meets (record { lo = base; hi = base + pages }) (slot_span s) ≡ false
        among early (inl later) = absurd (ne (sym (p.id blank) ∙ last.later k blank later early))
        among early (inr h) =
            choose (omega (arith, base_is, p.base blank, ap (λ (x : Begin). x.base) (last.is blank), not_falling order by.rises k last.at blank h (omega (arith, last.bound, begun.bound)))) (same_or_apart slots s t g here there.0)

        side : ((k < count) ⊎ (count ≤ k)) → meets (record { lo = base; hi = base + pages }) (slot_span s) ≡ false
        side (inl early) = among early (cases_lt last.at k)
        side (inr late) = past s base pages some (omega (arith, begun.high k blank late p.bound, p.base blank))

    decide : (m : Bool) → meets (record { lo = base; hi = base + pages }) (slot_span t) ≡ m → others_meet base pages id slots ≡ meets (record { lo = base; hi = base + pages }) (slot_span t)
    decide true e =
        others_true base pages id slots there.0.0 t there.0.1
        (λ h. last.differs (sym there.1 ∙ (sym (ap (λ (x : SlotView). x.id) there.0.2) ∙ h)))
        (ap (λ (x : SlotView). meets (record { lo = base; hi = base + pages }) (slot_span x)) there.0.2 ∙ e)
        ∙ sym e
    decide false e =
        others_false base pages id slots (λ at d h ne. clear e (get_or slots at d) (Contains-get_or slots at d h) ne (place slots order (get_or slots at d) g by (Contains-get_or slots at d h)))
        ∙ sym e

-- pages that meet no slot begin where none does
bases_differ : (t : SlotView) (base pages : ℕ) → 0 < pages → 0 < t.pages → meets (record { lo = base; hi = base + pages }) (slot_span t) ≡ false → t.base ≢ base
bases_differ t base pages some others e same = grind (arith, nat_tests)

pub bases_apart : (slots : List SlotView) (order : List Begin) (base pages : ℕ) → Good slots → ByBase slots order → 0 < pages → meets_slot base pages slots ≡ false → (at : ℕ) (d : Begin) → at < length order → (get_or order at d).base ≢ base
bases_apart slots order base pages g by some out at d h = by_entry (entry slots order at d by h)
  where
    by_entry : (s : SlotView) × IsEntry slots (get_or order at d) s → (get_or order at d).base ≢ base
    by_entry (s, i) e =
        bases_differ s base pages some (pages_of slots s g i.there)
        (ap (λ (x : SlotView). meets (record { lo = base; hi = base + pages }) (slot_span x)) (sym i.there.2) ∙ meets_at slots base pages i.there.0 s out i.there.1)
        (ap (λ (x : Begin). x.base) i.begins ∙ e)

-- what begins where a slot does is that slot
one_base : (s t : SlotView) → 0 < s.pages → 0 < t.pages → s.base ≡ t.base → meets (slot_span s) (slot_span t) ≡ false → ⊥
one_base s t h l e f = grind (arith, nat_tests)

pub taken_is : (slots : List SlotView) (order : List Begin) (id at : ℕ) (s : SlotView) (d : Begin) → Good slots → ByBase slots order → slot_by_id slots id ≡ Some s → at < length order → (get_or order at d).base ≡ s.base → get_or order at d ≡ record { base = s.base; id = id }
taken_is slots order id at s d g by found h base = by_entry (entry slots order at d by h)
  where
    there : Contains slots s × (s.id ≡ id)
    there = by_id_some slots id s found

    by_entry : (t : SlotView) × IsEntry slots (get_or order at d) t → get_or order at d ≡ record { base = s.base; id = id }
    by_entry (t, i) = choose (same_or_apart slots t s g i.there there.0)
      where
        choose : ((t ≡ s) ⊎ (meets (slot_span t) (slot_span s) ≡ false)) → get_or order at d ≡ record { base = s.base; id = id }
        choose (inl e) = sym i.begins ∙ (ap (λ (x : SlotView). record { base = x.base; id = x.id }) e ∙ ap (λ (n : ℕ). record { base = s.base; id = n }) there.1)
        choose (inr e) = absurd (one_base t s (pages_of slots t g i.there) (pages_of slots s g there.0) (ap (λ (x : Begin). x.base) i.begins ∙ base) e)
