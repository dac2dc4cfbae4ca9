-- How many entries of a list have their indexes in a range.
use Rattle.std.proofs.Common.{◌≡◌, ℕ, ◌+◌, ◌-◌, ◌<◌, ◌≤◌, ◌⊎◌, inl, inr, List, [], ◌∷◌, ◌++◌, length, refl, ap, ◌∙◌, arith, Bool, true, false}
use Rattle.std.specs.Prelude.{Some, IsSome, nat_eq, nat_le, nat_lt, ◌&&◌, if◌then◌else◌}
use Rattle.std.proofs.lemmas.Bool.Decides.{nat_tests}
use Rattle.std.proofs.lemmas.Bool.{eq-eqb}
use Rattle.gm_radix.specs.Entries.{lookup, is_within, without, count_within, gap_from, Rises}
use Rattle.gm_radix.proofs.Lists.{not_within, within_none, length-Rises}

rest_step : (x lo hi c d n : ℕ) → x < hi → c + d ≡ n → (if nat_le lo x && nat_lt x hi then c + 1 else c) + (if nat_le 0 x && nat_lt x lo then d + 1 else d) ≡ n + 1
rest_step x lo hi c d n p q = grind (arith, nat_tests)

from_step : (x lo hi c d : ℕ) → lo ≤ x → c ≡ d → (if nat_le lo x && nat_lt x hi then c + 1 else c) ≡ (if nat_le 0 x && nat_lt x hi then d + 1 else d)
from_step x lo hi c d p q = grind (arith, nat_tests)

module _ {V : Type 0} where
  pub count_within-append : (lo hi : ℕ) (l r : List (ℕ × V)) → count_within lo hi (l ++ r) ≡ count_within lo hi l + count_within lo hi r
  count_within-append lo hi [] r = omega arith
  count_within-append lo hi (e ∷ es) r = cases (is_within lo hi e) (count_within-append lo hi es r)
    where
      cases : (b : Bool) {u : ℕ} → u ≡ count_within lo hi es + count_within lo hi r → (if b then u + 1 else u) ≡ (if b then count_within lo hi es + 1 else count_within lo hi es) + count_within lo hi r
      cases true q = omega arith
      cases false q = q

  pub count_within-length : (lo hi : ℕ) (es : List (ℕ × V)) → count_within lo hi es ≤ length es
  count_within-length lo hi [] = omega arith
  count_within-length lo hi (e ∷ es) = cases (is_within lo hi e) (count_within-length lo hi es)
    where
      cases : (b : Bool) → count_within lo hi es ≤ length es → (if b then count_within lo hi es + 1 else count_within lo hi es) ≤ length (e ∷ es)
      cases true q = omega arith
      cases false q = omega arith

  -- none where the bounds are apart
  pub count_within-apart : (lo hi a b : ℕ) (es : List (ℕ × V)) → Rises a b es → (b ≤ lo) ⊎ (hi ≤ a) → count_within lo hi es ≡ 0
  count_within-apart lo hi a b [] h o = refl
  count_within-apart lo hi a b (e ∷ es) h o =
      rw (not_within lo hi a b e h.0 o) (count_within-apart lo hi (e.0 + 1) b es h.1 (elim o [ inl p ↦ inl p | inr q ↦ inr (omega arith) ]))

  inside : (lo hi : ℕ) (e : ℕ × V) → lo ≤ e.0 → e.0 < hi → is_within lo hi e ≡ true
  inside lo hi e p q = grind (arith, nat_tests)

  -- none where the range has no index
  pub count_within-none : (lo hi : ℕ) (es : List (ℕ × V)) → hi ≤ lo → count_within lo hi es ≡ 0
  count_within-none lo hi [] p = refl
  count_within-none lo hi (e ∷ es) p = rw (within_none lo hi e p) (count_within-none lo hi es p)

  -- all where they are inside
  pub count_within-inside : (lo hi a b : ℕ) (es : List (ℕ × V)) → Rises a b es → lo ≤ a → b ≤ hi → count_within lo hi es ≡ length es
  count_within-inside lo hi a b [] h p q = refl
  count_within-inside lo hi a b (e ∷ es) h p q =
      let rest = count_within-inside lo hi (e.0 + 1) b es h.1 (omega arith) q in
      rw (inside lo hi e (omega arith) (omega arith)) (omega (arith, rest))

  -- where all are below the range's end, those that aren't in it are before it
  pub count_within-rest : (lo hi a b : ℕ) (es : List (ℕ × V)) → Rises a b es → b ≤ hi → count_within lo hi es + count_within 0 lo es ≡ length es
  count_within-rest lo hi a b [] h p = refl
  count_within-rest lo hi a b (e ∷ es) h p =
      rest_step e.0 lo hi (count_within lo hi es) (count_within 0 lo es) (length es) (omega arith) (count_within-rest lo hi (e.0 + 1) b es h.1 p) ∙ omega arith

  -- where none is before the range, all before its end are in it
  pub count_within-from : (lo hi a b : ℕ) (es : List (ℕ × V)) → Rises a b es → lo ≤ a → count_within lo hi es ≡ count_within 0 hi es
  count_within-from lo hi a b [] h p = refl
  count_within-from lo hi a b (e ∷ es) h p =
      from_step e.0 lo hi (count_within lo hi es) (count_within 0 hi es) (omega arith) (count_within-from lo hi (e.0 + 1) b es h.1 (omega arith))

  -- of two lists of which the range meets the first alone
  pub count_within-left : (lo hi pivot b : ℕ) (l r : List (ℕ × V)) → Rises pivot b r → hi ≤ pivot → count_within lo hi (l ++ r) ≡ count_within lo hi l
  count_within-left lo hi pivot b l r h p = count_within-append lo hi l r ∙ omega (arith, count_within-apart lo hi pivot b r h (inr p))

  -- or the second alone
  pub count_within-right : (lo hi a pivot : ℕ) (l r : List (ℕ × V)) → Rises a pivot l → pivot ≤ lo → count_within lo hi (l ++ r) ≡ count_within lo hi r
  count_within-right lo hi a pivot l r h p = count_within-append lo hi l r ∙ omega (arith, count_within-apart lo hi a pivot l h (inl p))

  -- or the first whole
  pub count_within-past : (index a pivot : ℕ) (l r : List (ℕ × V)) → Rises a pivot l → pivot ≤ index → count_within 0 index (l ++ r) ≡ length l + count_within 0 index r
  count_within-past index a pivot l r h p = count_within-append 0 index l r ∙ omega (arith, count_within-inside 0 index a pivot l h (omega arith) p)

  -- or both
  pub count_within-split : (lo hi a pivot b : ℕ) (l r : List (ℕ × V)) → Rises a pivot l → Rises pivot b r → lo ≤ pivot → pivot ≤ hi → count_within lo hi (l ++ r) + count_within 0 lo l ≡ length l + count_within 0 hi r
  count_within-split lo hi a pivot b l r h i p q =
      omega (arith, count_within-append lo hi l r, count_within-rest lo hi a pivot l h q, count_within-from lo hi pivot b r i p)

  -- as many entries as indexes leave no gap
  pub gap_from-full : (index lo hi : ℕ) (es : List (ℕ × V)) → Rises lo hi es → length es ≡ hi - lo → lo ≤ index → index ≤ hi → gap_from index es ≡ hi
  gap_from-full index lo hi [] h n p q = omega arith
  gap_from-full index lo hi (e ∷ es) h n p q =
      cases (nat_eq e.0 index) refl (λ k a. gap_from-full k (e.0 + 1) hi es h.1 (omega (arith, length-Rises (e.0 + 1) hi es h.1)) a)
    where
      cases : (b : Bool) → nat_eq e.0 index ≡ b → ((k : ℕ) → e.0 + 1 ≤ k → k ≤ hi → gap_from k es ≡ hi) → gap_from (if b then index + 1 else index) es ≡ hi
      cases true t r =
          let s : e.0 ≡ index = grind (arith, nat_tests) in
          r (index + 1) (omega arith) (omega arith)
      cases false t r =
          let d : e.0 ≡ index → ⊥ = λ p. grind (arith, nat_tests, eq-eqb e.0 index p) in
          let first : e.0 ≡ lo = omega (arith, length-Rises (e.0 + 1) hi es h.1) in
          r index (omega (arith, d)) q

  -- where the count is 0, a removal takes nothing
  pub without-count_none : (lo hi : ℕ) (es : List (ℕ × V)) → count_within lo hi es ≡ 0 → without lo hi es ≡ es
  without-count_none lo hi [] n = refl
  without-count_none lo hi (e ∷ es) n = cases (is_within lo hi e) n (without-count_none lo hi es)
    where
      cases : (b : Bool) → (if b then count_within lo hi es + 1 else count_within lo hi es) ≡ 0 → (count_within lo hi es ≡ 0 → without lo hi es ≡ es) → (if b then without lo hi es else e ∷ without lo hi es) ≡ e ∷ es
      cases true m r = absurd (omega arith)
      cases false m r = ap (λ (xs : List (ℕ × V)). e ∷ xs) (r m)

  later : (k : ℕ) (e : ℕ × V) (es : List (ℕ × V)) → IsSome (lookup k es) → IsSome (lookup k (e ∷ es))
  later k e es s = elim (nat_eq e.0 k) as (λ b. IsSome (if b then Some e.1 else lookup k es)) [ true ↦ refl | false ↦ s ]

  -- where the count isn't 0, an index has a value
  pub count_within-some : (lo hi : ℕ) (es : List (ℕ × V)) → 0 < count_within lo hi es → (k : ℕ) × (lo ≤ k) × (k < hi) × IsSome (lookup k es)
  count_within-some lo hi [] h = absurd (omega arith)
  count_within-some lo hi (e ∷ es) h = cases (is_within lo hi e) refl (count_within-some lo hi es) h
    where
      cases : (b : Bool) → is_within lo hi e ≡ b → (0 < count_within lo hi es → (k : ℕ) × (lo ≤ k) × (k < hi) × IsSome (lookup k es)) → 0 < (if b then count_within lo hi es + 1 else count_within lo hi es) → (k : ℕ) × (lo ≤ k) × (k < hi) × IsSome (lookup k (e ∷ es))
      cases true t r h = (e.0, grind (arith, nat_tests), grind (arith, nat_tests), rw (eq-eqb e.0 e.0 refl) refl)
      cases false t r h =
          let f = r h in
          (f.0, f.1, f.2, later f.0 e es f.3)

  -- where an index has a value, the count isn't 0
  pub count_within-there : (lo hi k : ℕ) (es : List (ℕ × V)) → lo ≤ k → k < hi → IsSome (lookup k es) → 0 < count_within lo hi es
  count_within-there lo hi k [] p q s = absurd cc
  count_within-there lo hi k (e ∷ es) p q s = cases (nat_eq e.0 k) refl (count_within-there lo hi k es p q) s
    where
      more : (b : Bool) → 0 < count_within lo hi es → 0 < (if b then count_within lo hi es + 1 else count_within lo hi es)
      more true h = omega arith
      more false h = h

      cases : (b : Bool) → nat_eq e.0 k ≡ b → (IsSome (lookup k es) → 0 < count_within lo hi es) → IsSome (if b then Some e.1 else lookup k es) → 0 < (if is_within lo hi e then count_within lo hi es + 1 else count_within lo hi es)
      cases true t r s =
          let same : e.0 ≡ k = grind (arith, nat_tests) in
          rw (inside lo hi e (omega arith) (omega arith)) (omega arith)
      cases false t r s = more (is_within lo hi e) (r s)
