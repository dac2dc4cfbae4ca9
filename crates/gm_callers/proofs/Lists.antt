-- Lists of which one element is replaced.
use Rattle.std.proofs.Common.{◌≡◌, ℕ, ◌<◌, List, length, get_or, set, arith, subst, sym, eqb, inl, inr, false, true, refl}
use Rattle.std.proofs.lemmas.Bool.{cases_Bool, eqb-true, eqb-false, eq-eqb}
use Rattle.std.proofs.lemmas.List.{get_or-set_same, get_or-set_other}

pub self : (v : ℕ) → eqb v v ≡ true
self v = eq-eqb v v refl

-- what holds of each element under its number holds after one is replaced
pub set_each : {A : Type 0} (P : ℕ → A → Type 0) (xs : List A) (n v : ℕ) (x d : A) → length xs ≡ n → v < n → P v x → ((u : ℕ) → u < n → eqb v u ≡ false → P u (get_or xs u d)) → (u : ℕ) → u < n → P u (get_or (set xs v x) u d)
set_each {A = A} P xs n v x d len lt here other u lu =
    elim (cases_Bool (eqb v u)) [
      | inl e ↦ let s : v ≡ u = eqb-true v u e in subst (λ (k : ℕ). P k (get_or (set xs v x) k d)) s (subst (P v) (sym (get_or-set_same xs v x d (omega arith))) here)
      | inr e ↦ subst (P u) (sym (get_or-set_other xs v u x d (λ s. eqb-false v u e (sym s)))) (other u lu e)
    ]
