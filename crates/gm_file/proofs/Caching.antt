-- Caches as lists of entries: what a put and a cut leave.
use Rattle.std.proofs.Common.{◌≡◌, ℕ, ◌+◌, ◌<◌, ◌≤◌, List, [], ◌∷◌, length, Bool, true, false, ◌&&◌, cond, Option, None, Some, refl, sym, ◌∙◌, ap, arith}
use Rattle.std.specs.Prelude.{IsSome, min, nat_eq, nat_lt, nat_le}
use Rattle.std.proofs.lemmas.Bool.{eq-eqb}
use Rattle.std.proofs.lemmas.Bool.Decides.{nat_tests}
use Rattle.gm_base.specs.declared.values.Folio.{Folio}
use Rattle.gm_radix.specs.Entries.{lookup, put, within, without, is_within, Rises}
use Rattle.gm_file.specs.Views.{IsFull, unless_within}

-- the entries of a range are no more than all
pub within_le : (lo hi : ℕ) (es : List (ℕ × Folio)) → length (within lo hi es) ≤ length es
within_le lo hi [] = omega arith
within_le lo hi (e ∷ es) = cases (is_within lo hi e) (within_le lo hi es)
  where
    cases : (b : Bool) → length (within lo hi es) ≤ length es → length (cond b (e ∷ within lo hi es) (within lo hi es)) ≤ length (e ∷ es)
    cases true h = omega arith
    cases false h = omega arith

rises_lower : (low from hi : ℕ) (es : List (ℕ × Folio)) → low ≤ from → Rises from hi es → Rises low hi es
rises_lower low from hi [] h r = tt
rises_lower low from hi (e ∷ es) h r = ((omega (arith, r.0.0), r.0.1), r.1)

-- a cut leaves the entries rising
pub rises-without : (low limit lo hi : ℕ) (es : List (ℕ × Folio)) → Rises low limit es → Rises low limit (without lo hi es)
rises-without low limit lo hi [] r = tt
rises-without low limit lo hi (e ∷ es) r = cases (is_within lo hi e) (rises-without (e.0 + 1) limit lo hi es r.1)
  where
    cases : (b : Bool) → Rises (e.0 + 1) limit (without lo hi es) → Rises low limit (cond b (without lo hi es) (e ∷ without lo hi es))
    cases true h = rises_lower low (e.0 + 1) limit (without lo hi es) (omega (arith, r.0.0)) h
    cases false h = (r.0, h)

-- and so does a put
pub rises-put : (low limit index : ℕ) (folio : Folio) (es : List (ℕ × Folio)) → low ≤ index → index < limit → Rises low limit es → Rises low limit (put index folio es)
rises-put low limit index folio [] a b r = ((a, b), tt)
rises-put low limit index folio (e ∷ es) a b r = cases (nat_lt index e.0) (nat_eq e.0 index) refl refl (λ h. rises-put (e.0 + 1) limit index folio es h b r.1)
  where
    cases : (s t : Bool) → nat_lt index e.0 ≡ s → nat_eq e.0 index ≡ t → (e.0 + 1 ≤ index → Rises (e.0 + 1) limit (put index folio es)) → Rises low limit (cond s ((index, folio) ∷ e ∷ es) (cond t ((index, folio) ∷ es) (e ∷ put index folio es)))
    cases true t p q h = ((a, b), (let next : index + 1 ≤ e.0 = grind (arith, nat_tests) in ((next, r.0.1), r.1)))
    cases false true p q h = ((a, b), (let same : index ≡ e.0 = grind (arith, nat_tests) in rises_lower (index + 1) (e.0 + 1) limit es (omega arith) r.1))
    cases false false p q h = (r.0, h (grind (arith, nat_tests)))

-- nothing is cached before the first entry can be
pub lookup-before : (low limit index : ℕ) (es : List (ℕ × Folio)) → Rises low limit es → index < low → lookup index es ≡ None
lookup-before low limit index [] r h = refl
lookup-before low limit index (e ∷ es) r h =
    ap (λ (b : Bool). cond b (Some e.1) (lookup index es)) (other e.0 r.0.0) ∙ lookup-before (e.0 + 1) limit index es r.1 (omega (arith, r.0.0))
  where
    other : (k : ℕ) → low ≤ k → nat_eq k index ≡ false
    other k l = grind (arith, nat_tests)

-- nor from the limit on
pub lookup-past : (low limit index : ℕ) (es : List (ℕ × Folio)) → Rises low limit es → limit ≤ index → lookup index es ≡ None
lookup-past low limit index [] r h = refl
lookup-past low limit index (e ∷ es) r h =
    ap (λ (b : Bool). cond b (Some e.1) (lookup index es)) (other e.0 r.0.1) ∙ lookup-past (e.0 + 1) limit index es r.1 h
  where
    other : (k : ℕ) → k < limit → nat_eq k index ≡ false
    other k l = grind (arith, nat_tests)

none_some : (o : Option Folio) → o ≡ None → IsSome o → ⊥
none_some None e h = cc
none_some (Some folio) e h = cc

-- so what is cached lies below the limit
pub cached_inside : (limit index : ℕ) (es : List (ℕ × Folio)) → Rises 0 limit es → IsSome (lookup index es) → index < limit
cached_inside limit index es r h = cases (nat_lt index limit) refl
  where
    cases : (b : Bool) → nat_lt index limit ≡ b → index < limit
    cases true p = grind (arith, nat_tests)
    cases false p =
        let past : limit ≤ index = grind (arith, nat_tests) in
        absurd (none_some (lookup index es) (lookup-past 0 limit index es r past) h)

-- what is cached at each index after a put
pub lookup-put : (k index : ℕ) (folio : Folio) (es : List (ℕ × Folio)) → lookup k (put index folio es) ≡ cond (nat_eq k index) (Some folio) (lookup k es)
lookup-put k index folio [] = ap (λ (b : Bool). cond b (Some folio) None) (turned index k)
  where
    turned : (a b : ℕ) → nat_eq a b ≡ nat_eq b a
    turned a b = grind (arith, nat_tests)
lookup-put k index folio (e ∷ es) = cases (nat_lt index e.0) (nat_eq e.0 index) refl refl (lookup-put k index folio es)
  where
    turned : (a b : ℕ) → nat_eq a b ≡ nat_eq b a
    turned a b = grind (arith, nat_tests)

    same : nat_eq e.0 index ≡ true → nat_eq e.0 k ≡ nat_eq k index
    same p = grind (arith, nat_tests)

    inner : (s t : Bool) → nat_eq e.0 k ≡ s → nat_eq k index ≡ t → nat_eq e.0 index ≡ false → cond s (Some e.1) (cond t (Some folio) (lookup k es)) ≡ cond t (Some folio) (cond s (Some e.1) (lookup k es))
    inner true true p q r = absurd (grind (arith, nat_tests))
    inner true false p q r = refl
    inner false true p q r = refl
    inner false false p q r = refl

    replaced : (t : Bool) → nat_eq k index ≡ t → nat_eq e.0 index ≡ true → cond t (Some folio) (lookup k es) ≡ cond t (Some folio) (cond (nat_eq e.0 k) (Some e.1) (lookup k es))
    replaced true p q = refl
    replaced false p q = ap (λ (b : Bool). cond b (Some e.1) (lookup k es)) (sym (same q ∙ p))

    cases : (s t : Bool) → nat_lt index e.0 ≡ s → nat_eq e.0 index ≡ t → lookup k (put index folio es) ≡ cond (nat_eq k index) (Some folio) (lookup k es) → lookup k (cond s ((index, folio) ∷ e ∷ es) (cond t ((index, folio) ∷ es) (e ∷ put index folio es))) ≡ cond (nat_eq k index) (Some folio) (lookup k (e ∷ es))
    cases true t p q h = ap (λ (b : Bool). cond b (Some folio) (lookup k (e ∷ es))) (turned index k)
    cases false true p q h = ap (λ (b : Bool). cond b (Some folio) (lookup k es)) (turned index k) ∙ replaced (nat_eq k index) refl q
    cases false false p q h = ap (λ (o : Option Folio). cond (nat_eq e.0 k) (Some e.1) o) h ∙ inner (nat_eq e.0 k) (nat_eq k index) refl refl q

-- and after a cut
pub lookup-without : (k lo hi : ℕ) (es : List (ℕ × Folio)) → lookup k (without lo hi es) ≡ unless_within lo hi k (lookup k es)
lookup-without k lo hi [] = nothing (nat_le lo k && nat_lt k hi) None
  where
    nothing : (b : Bool) (o : Option Folio) → o ≡ cond b o o
    nothing true o = refl
    nothing false o = refl
lookup-without k lo hi (e ∷ es) = cases (is_within lo hi e) (nat_eq e.0 k) refl refl (lookup-without k lo hi es)
  where
    same : nat_eq e.0 k ≡ true → is_within lo hi e ≡ (nat_le lo k && nat_lt k hi)
    same p = grind (arith, nat_tests)

    cases : (s t : Bool) → is_within lo hi e ≡ s → nat_eq e.0 k ≡ t → lookup k (without lo hi es) ≡ unless_within lo hi k (lookup k es) → lookup k (cond s (without lo hi es) (e ∷ without lo hi es)) ≡ unless_within lo hi k (cond t (Some e.1) (lookup k es))
    cases true true p q h = h ∙ (ap (λ (b : Bool). cond b None (lookup k es)) (sym (same q) ∙ p) ∙ sym (ap (λ (b : Bool). cond b None (Some e.1)) (sym (same q) ∙ p)))
    cases true false p q h = h
    cases false true p q h = ap (λ (b : Bool). cond b (Some e.1) (lookup k (without lo hi es))) q ∙ sym (ap (λ (b : Bool). cond b None (Some e.1)) (sym (same q) ∙ p))
    cases false false p q h = ap (λ (b : Bool). cond b (Some e.1) (lookup k (without lo hi es))) q ∙ h

-- a later end
pub rises-to : (low limit end : ℕ) (es : List (ℕ × Folio)) → limit ≤ end → Rises low limit es → Rises low end es
rises-to low limit end [] p r = tt
rises-to low limit end (e ∷ es) p r = ((r.0.0, omega (arith, r.0.1)), rises-to (e.0 + 1) limit end es p r.1)

some_or : (b : Bool) (folio : Folio) (o : Option Folio) → IsSome o → IsSome (cond b (Some folio) o)
some_or true folio o s = refl
some_or false folio o s = s

-- a put takes nothing away
pub full-put : (full index : ℕ) (folio : Folio) (es : List (ℕ × Folio)) → IsFull full es → IsFull full (put index folio es)
full-put full index folio es h k p = rw (lookup-put k index folio es) (some_or (nat_eq k index) folio (lookup k es) (h k p))

-- and at the first index that isn't cached it adds that one
pub full-next : (full index : ℕ) (folio : Folio) (es : List (ℕ × Folio)) → index ≡ full → IsFull full es → IsFull (full + 1) (put index folio es)
full-next full index folio es same h k p =
    rw (lookup-put k index folio es) (cases (nat_eq k index) refl)
  where
    cases : (b : Bool) → nat_eq k index ≡ b → IsSome (cond b (Some folio) (lookup k es))
    cases true t = refl
    cases false t =
        let other : k ≡ index → ⊥ = λ q. grind (arith, nat_tests, eq-eqb k index q) in
        h k (omega (arith, other))

-- a cut leaves what is before it
pub full-cut : (full lo hi : ℕ) (es : List (ℕ × Folio)) → IsFull full es → IsFull (min full lo) (without lo hi es)
full-cut full lo hi es h k p =
    rw (lookup-without k lo hi es) (cases (nat_le lo k && nat_lt k hi) refl)
  where
    cases : (b : Bool) → (nat_le lo k && nat_lt k hi) ≡ b → IsSome (cond b None (lookup k es))
    cases true t = absurd (grind (arith, nat_tests))
    cases false t = h k (omega arith)
