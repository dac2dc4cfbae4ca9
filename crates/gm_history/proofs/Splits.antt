-- The first piece of bytes, and those after it.
use Rattle.std.proofs.Common.{◌≡◌, ℕ, ◌+◌, ◌<◌, ◌≤◌, List, [], ◌∷◌, length, take, drop, refl, arith, Bool, true, false, cond, eqb}
use Rattle.std.proofs.lemmas.Grind.{common_steps}
use Rattle.std.proofs.lemmas.Bool.Decides.{nat_tests}
use Rattle.gm_history.specs.Cuts.{cut_of, split_at, onto_first}
use Rattle.gm_base.specs.declared.values.Setup.{Setup}
use Rattle.gm_flat.specs.declared.entry.Entry.{Entry}
use Rattle.gm_history.specs.Reading.{Verdict, Bad, if_more, told_at}

-- up to the separator, and what stands after it
pub next_piece : (b : ℕ) (xs : List ℕ) → cut_of b xs < length xs → split_at b xs ≡ take (cut_of b xs) xs ∷ split_at b (drop (cut_of b xs + 1) xs)
next_piece b [] h = absurd (omega arith)
next_piece b (x ∷ xs) h = grind (arith, common_steps, nat_tests, next_piece b xs)

pub last_piece : (b : ℕ) (xs : List ℕ) → length xs ≤ cut_of b xs → split_at b xs ≡ xs ∷ []
last_piece b [] h = refl
last_piece b (x ∷ xs) h = grind (arith, common_steps, nat_tests, last_piece b xs)

-- bytes have a first piece
split_step : (t : Bool) (x : ℕ) (f : ℕ) (pieces : List (List ℕ)) (verdict : Verdict) → if_more f (cond t ([] ∷ pieces) (onto_first x pieces)) verdict ≡ verdict
split_step true x f pieces verdict = refl
split_step false x f [] verdict = refl
split_step false x f (p ∷ pieces) verdict = refl

pub more_after : (number b : ℕ) (xs : List ℕ) (verdict : Verdict) → if_more number (split_at b xs) verdict ≡ verdict
more_after number b [] verdict = refl
more_after number b (x ∷ xs) verdict = split_step (eqb x b) x number (split_at b xs) verdict

more_told : (t : Bool) (x : ℕ) (s : Setup) (es : List Entry) (turns : ℕ) (pieces : List (List ℕ)) → ((number : ℕ) (verdict : Verdict) → if_more number pieces verdict ≡ verdict) → told_at s es turns (cond t ([] ∷ pieces) (onto_first x pieces)) ≡ Bad (length es + 4)
more_told true x s es turns [] h = absurd (clash (h 0 (Bad 1)))
  where
    clash : Bad 0 ≡ Bad 1 → ⊥
    clash e = cc
more_told true x s es turns (p ∷ pieces) h = refl
more_told false x s es turns [] h = refl
more_told false x s es turns (p ∷ pieces) h = refl

-- nothing may stand after the last line
pub told_more : (s : Setup) (es : List Entry) (turns : ℕ) (after : List ℕ) → 0 < length after → told_at s es turns (split_at 10 after) ≡ Bad (length es + 4)
told_more s es turns [] h = absurd (omega arith)
told_more s es turns (x ∷ xs) h = more_told (eqb x 10) x s es turns (split_at 10 xs) (λ number verdict. more_after number 10 xs verdict)
