-- How long a cache's lists are.
use Rattle.std.proofs.Common.{ℕ, ◌+◌, ◌≤◌, List, [], ◌∷◌, length, Bool, true, false, cond, arith}
use Rattle.std.specs.Prelude.{nat_eq, nat_lt}
use Rattle.gm_base.specs.declared.values.Folio.{Folio}
use Rattle.gm_radix.specs.Entries.{put, within, is_within}

-- the entries of a range are no more than all
pub length_within : (lo hi : ℕ) (es : List (ℕ × Folio)) → length (within lo hi es) ≤ length es
length_within lo hi [] = omega arith
length_within lo hi (e ∷ es) = cases (is_within lo hi e) (length_within lo hi es)
  where
    cases : (b : Bool) → length (within lo hi es) ≤ length es → length (cond b (e ∷ within lo hi es) (within lo hi es)) ≤ length (e ∷ es)
    cases true h = omega arith
    cases false h = omega arith

-- a put adds at most one entry
pub length_put : (index : ℕ) (folio : Folio) (es : List (ℕ × Folio)) → length (put index folio es) ≤ length es + 1
length_put index folio [] = omega arith
length_put index folio (e ∷ es) = cases (nat_lt index e.0) (nat_eq e.0 index) (length_put index folio es)
  where
    cases : (s t : Bool) → length (put index folio es) ≤ length es + 1 → length (cond s ((index, folio) ∷ e ∷ es) (cond t ((index, folio) ∷ es) (e ∷ put index folio es))) ≤ length (e ∷ es) + 1
    cases true t h = omega arith
    cases false true h = omega arith
    cases false false h = omega arith
