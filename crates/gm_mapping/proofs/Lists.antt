-- Lists of which one element is replaced.
use Rattle.std.proofs.Common.{◌≡◌, ℕ, ◌<◌, List, [], ◌∷◌, length, get_or, set, zero, suc, arith, replicate, subst, sym, refl, eqb, true, false, inl, inr}
use Rattle.std.proofs.lemmas.Bool.{cases_Bool, eqb-true, eqb-false, eq-eqb}
use Rattle.std.proofs.lemmas.List.{get_or-replicate, get_or-set_same, get_or-set_other}

pub self : (v : ℕ) → eqb v v ≡ true
self v = eq-eqb v v refl

-- what holds of each element under its number holds after one is replaced
pub set_each : {A : Type 0} (P : ℕ → A → Type 0) (xs : List A) (n v : ℕ) (x : A) → length xs ≡ n → v < n → P v x → ((u : ℕ) (d : A) → u < n → eqb v u ≡ false → P u (get_or xs u d)) → (u : ℕ) (d : A) → u < n → P u (get_or (set xs v x) u d)
set_each {A = A} P xs n v x len lt here other u d lu =
    elim (cases_Bool (eqb v u)) [
      | inl e ↦ let s : v ≡ u = eqb-true v u e in subst (λ (k : ℕ). P k (get_or (set xs v x) k d)) s (subst (P v) (sym (get_or-set_same xs v x d (omega arith))) here)
      | inr e ↦ subst (P u) (sym (get_or-set_other xs v u x d (λ s. eqb-false v u e (sym s)))) (other u d lu e)
    ]

-- what holds of a value holds of each of its copies
pub replicate_each : {A : Type 0} (P : ℕ → A → Type 0) (n : ℕ) (x : A) → ((u : ℕ) → P u x) → (u : ℕ) (d : A) → u < n → P u (get_or (replicate n x) u d)
replicate_each {A = A} P n x p u d lt = subst (P u) (sym (get_or-replicate n u x d lt)) (p u)

-- an element doesn't depend on what stands in for a missing one
pub get_or_any : {A : Type 0} (xs : List A) (v : ℕ) (d e : A) → v < length xs → get_or xs v d ≡ get_or xs v e
get_or_any [] v d e lt = absurd (omega arith)
get_or_any (x ∷ xs) zero d e lt = refl
get_or_any (x ∷ xs) (suc v) d e lt = get_or_any xs v d e (omega arith)
