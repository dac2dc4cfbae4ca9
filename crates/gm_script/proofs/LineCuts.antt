-- The first line of bytes, and those after it.
use Rattle.std.proofs.Common.{◌≡◌, ℕ, ◌+◌, ◌<◌, ◌≤◌, List, [], ◌∷◌, length, take, drop, refl, arith, Bool, true, false, ltb, ap, ◌∙◌}
use Rattle.std.proofs.lemmas.List.{take_all, drop_all}
use Rattle.std.proofs.lemmas.Grind.{common_steps}
use Rattle.std.proofs.lemmas.Bool.Decides.{nat_tests}
use Rattle.gm_script.specs.Split.{cut_of}
use Rattle.gm_script.specs.Lines.{lines_of}

-- up to the first newline, and what stands after it
first_line : (xs : List ℕ) → 0 < length xs → lines_of xs ≡ record { bytes = take (cut_of 10 xs) xs; is_ended = ltb (cut_of 10 xs) (length xs) } ∷ lines_of (drop (cut_of 10 xs + 1) xs)
first_line [] h = absurd (omega arith)
first_line (x ∷ []) h = grind (arith, common_steps, nat_tests)
first_line (x ∷ (y ∷ ys)) h = grind (arith, common_steps, nat_tests, first_line (y ∷ ys) (omega arith))

pub ended_line : (xs : List ℕ) → cut_of 10 xs < length xs → lines_of xs ≡ record { bytes = take (cut_of 10 xs) xs; is_ended = true } ∷ lines_of (drop (cut_of 10 xs + 1) xs)
ended_line xs h = first_line xs (omega arith) ∙ ap (λ (b : Bool). record { bytes = take (cut_of 10 xs) xs; is_ended = b } ∷ lines_of (drop (cut_of 10 xs + 1) xs)) (is_less (cut_of 10 xs) (length xs) h)
  where
    is_less : (a b : ℕ) → a < b → ltb a b ≡ true
    is_less a b k = grind (arith, nat_tests)

pub cut_line : (xs : List ℕ) → 0 < length xs → length xs ≤ cut_of 10 xs → lines_of xs ≡ record { bytes = xs; is_ended = false } ∷ []
cut_line xs h k = first_line xs h ∙ rw (take_all (cut_of 10 xs) xs k, drop_all (cut_of 10 xs + 1) xs (omega arith)) (grind (arith, common_steps, nat_tests))

pub no_line : (xs : List ℕ) → length xs ≡ 0 → lines_of xs ≡ []
no_line [] h = refl
no_line (x ∷ xs) h = absurd (omega arith)
