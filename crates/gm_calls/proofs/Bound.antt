-- Whether a range of a file meets a bound one, by the file's bound ranges and by the slots.
use Rattle.std.proofs.Common.{◌≡◌, ℕ, ◌+◌, ◌<◌, ◌&&◌, ◌||◌, List, [], ◌∷◌, Bool, true, false, arith, refl, ◌∙◌, ap, cond, is_some, leb, ltb}
use Rattle.std.proofs.lemmas.Bool.Decides.{nat_tests}
use Rattle.gm_base.specs.Extent.{meets}
use Rattle.gm_file.specs.Ranges.{met, meets_range, parts_of, range_at}
use Rattle.gm_file.specs.declared.ranges.BoundRange.{BoundRange}
use Rattle.gm_flat.specs.Calls.{bound_range, meets_bound, put_by_index, slots_of_file}
use Rattle.gm_flat.specs.Slots.{is_file}
use Rattle.gm_flat.specs.declared.views.SlotView.{SlotView}
use Rattle.gm_calls.specs.Lent.{range_of, ranges_of}

-- whether a slot's bound range meets the n indexes from lo on
abbrev one_meets : ℕ → ℕ → SlotView → Bool
one_meets lo n s = meets (record { lo = lo; hi = lo + n }) (bound_range s)

abbrev any_meets : ℕ → ℕ → List SlotView → Bool
any_meets lo n [] = false
any_meets lo n (s ∷ slots) = one_meets lo n s || any_meets lo n slots

or_swap : (a b c : Bool) → (a || (b || c)) ≡ (b || (a || c))
or_swap true true c = refl
or_swap true false c = refl
or_swap false true c = refl
or_swap false false c = refl

any_put : (lo n : ℕ) (s : SlotView) (slots : List SlotView) → any_meets lo n (put_by_index s slots) ≡ (one_meets lo n s || any_meets lo n slots)
any_put lo n s [] = refl
any_put lo n s (t ∷ slots) = by_test (leb s.index t.index) (any_put lo n s slots)
  where
    by_test : (b : Bool) → any_meets lo n (put_by_index s slots) ≡ (one_meets lo n s || any_meets lo n slots) → any_meets lo n (cond b (s ∷ t ∷ slots) (t ∷ put_by_index s slots)) ≡ (one_meets lo n s || (one_meets lo n t || any_meets lo n slots))
    by_test true h = refl
    by_test false h = ap (λ (b : Bool). one_meets lo n t || b) h ∙ or_swap (one_meets lo n t) (one_meets lo n s) (any_meets lo n slots)

any_of_file : (fd lo n : ℕ) (slots : List SlotView) → any_meets lo n (slots_of_file fd slots) ≡ meets_bound fd lo n slots
any_of_file fd lo n [] = refl
any_of_file fd lo n (s ∷ slots) = by_test (is_file s.file fd) (any_of_file fd lo n slots)
  where
    by_test : (b : Bool) → any_meets lo n (slots_of_file fd slots) ≡ meets_bound fd lo n slots → any_meets lo n (cond b (put_by_index s (slots_of_file fd slots)) (slots_of_file fd slots)) ≡ ((b && one_meets lo n s) || meets_bound fd lo n slots)
    by_test true h = any_put lo n s (slots_of_file fd slots) ∙ ap (λ (b : Bool). one_meets lo n s || b) h
    by_test false h = h

same_test : (lo n : ℕ) (s : SlotView) → 0 < n → meets_range lo (lo + n) (range_of s) ≡ one_meets lo n s
same_test lo n s some = plain lo n s.index (s.index + s.pages) some
  where
    plain : (a m c d : ℕ) → 0 < m → (ltb a (a + m) && (ltb c (a + m) && ltb a d)) ≡ (ltb a d && ltb c (a + m))
    plain a m c d some = grind (arith, nat_tests)

first_met : (lo n : ℕ) (slots : List SlotView) → 0 < n → is_some (parts_of (range_at 0 (met lo (lo + n) (ranges_of slots)))) ≡ any_meets lo n slots
first_met lo n [] some = refl
first_met lo n (s ∷ slots) some = by_test (meets_range lo (lo + n) (range_of s)) (same_test lo n s some) (first_met lo n slots some)
  where
    by_test : (b : Bool) → b ≡ one_meets lo n s → is_some (parts_of (range_at 0 (met lo (lo + n) (ranges_of slots)))) ≡ any_meets lo n slots → is_some (parts_of (range_at 0 (cond b (range_of s ∷ met lo (lo + n) (ranges_of slots)) (met lo (lo + n) (ranges_of slots))))) ≡ (one_meets lo n s || any_meets lo n slots)
    by_test true e h = ap (λ (b : Bool). b || any_meets lo n slots) e
    by_test false e h = h ∙ ap (λ (b : Bool). b || any_meets lo n slots) e

-- the first range that is met, if any, tells whether a bound one is
pub meets_first : (fd lo n : ℕ) (bound : List BoundRange) (slots : List SlotView) → 0 < n → bound ≡ ranges_of (slots_of_file fd slots) → is_some (parts_of (range_at 0 (met lo (lo + n) bound))) ≡ meets_bound fd lo n slots
meets_first fd lo n bound slots some b =
    ap (λ (rs : List BoundRange). is_some (parts_of (range_at 0 (met lo (lo + n) rs)))) b
    ∙ first_met lo n (slots_of_file fd slots) some
    ∙ any_of_file fd lo n slots
