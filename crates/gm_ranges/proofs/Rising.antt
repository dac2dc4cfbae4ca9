-- Entries whose indexes rise.
use Rattle.std.proofs.Common.{◌≡◌, ◌≢◌, ℕ, ◌+◌, ◌<◌, ◌≤◌, List, [], ◌∷◌, refl, ap, arith, Bool, true, false, cond}
use Rattle.std.specs.Prelude.{None, Some, IsSome, nat_eq, nat_lt}
use Rattle.std.proofs.lemmas.Bool.{ne_eqb, eq-eqb}
use Rattle.std.proofs.lemmas.Bool.Decides.{nat_tests}
use Rattle.gm_radix.specs.Entries.{lookup, put, without, is_within, Rises}

module _ {V : Type 0} where
  rises_wider : (lo hi low : ℕ) (es : List (ℕ × V)) → low ≤ lo → Rises lo hi es → Rises low hi es
  rises_wider lo hi low [] p h = tt
  rises_wider lo hi low (e ∷ es) p h = ((omega arith, h.0.1), h.1)

  pub rises_put : (index : ℕ) (value : V) (lo hi : ℕ) (es : List (ℕ × V)) → lo ≤ index → index < hi → Rises lo hi es → Rises lo hi (put index value es)
  rises_put index value lo hi [] p q h = ((p, q), tt)
  rises_put index value lo hi (e ∷ es) p q h = cases (nat_lt index e.0) (nat_eq e.0 index) refl refl (λ r. rises_put index value (e.0 + 1) hi es r q h.1)
    where
      cases : (a b : Bool) → nat_lt index e.0 ≡ a → nat_eq e.0 index ≡ b → (e.0 + 1 ≤ index → Rises (e.0 + 1) hi (put index value es)) → Rises lo hi (cond a ((index, value) ∷ e ∷ es) (cond b ((index, value) ∷ es) (e ∷ put index value es)))
      cases true b s t r =
          let before : index + 1 ≤ e.0 = grind (arith, nat_tests) in
          ((p, q), ((before, h.0.1), h.1))
      cases false true s t r =
          let same : e.0 ≡ index = grind (arith, nat_tests) in
          ((p, q), rises_wider (e.0 + 1) hi (index + 1) es (omega arith) h.1)
      cases false false s t r =
          let after : e.0 + 1 ≤ index = grind (arith, nat_tests) in
          (h.0, r after)

  pub rises_without : (lo hi a b : ℕ) (es : List (ℕ × V)) → Rises a b es → Rises a b (without lo hi es)
  rises_without lo hi a b [] h = tt
  rises_without lo hi a b (e ∷ es) h = cases (is_within lo hi e) (rises_without lo hi (e.0 + 1) b es h.1)
    where
      cases : (t : Bool) → Rises (e.0 + 1) b (without lo hi es) → Rises a b (cond t (without lo hi es) (e ∷ without lo hi es))
      cases true q = rises_wider (e.0 + 1) b a (without lo hi es) (omega arith) q
      cases false q = (h.0, q)

  -- an index that is taken away has no value
  pub lookup_without : (lo hi k : ℕ) (es : List (ℕ × V)) → lo ≤ k → k < hi → lookup k (without lo hi es) ≡ None
  lookup_without lo hi k [] p q = refl
  lookup_without lo hi k (e ∷ es) p q = cases (is_within lo hi e) refl (lookup_without lo hi k es p q)
    where
      other : is_within lo hi e ≡ false → e.0 ≡ k → ⊥
      other t s = grind (arith, nat_tests)

      cases : (t : Bool) → is_within lo hi e ≡ t → lookup k (without lo hi es) ≡ None → lookup k (cond t (without lo hi es) (e ∷ without lo hi es)) ≡ None
      cases true t h = h
      cases false t h = rw (ne_eqb e.0 k (other t)) h

  -- a put leaves the other indexes
  pub lookup_put_other : (index : ℕ) (value : V) (k : ℕ) (es : List (ℕ × V)) → index ≢ k → lookup k (put index value es) ≡ lookup k es
  lookup_put_other index value k [] ne = rw (ne_eqb index k ne) refl
  lookup_put_other index value k (e ∷ es) ne = cases (nat_lt index e.0) (nat_eq e.0 index) refl (lookup_put_other index value k es ne)
    where
      cases : (a b : Bool) → nat_eq e.0 index ≡ b → lookup k (put index value es) ≡ lookup k es → lookup k (cond a ((index, value) ∷ e ∷ es) (cond b ((index, value) ∷ es) (e ∷ put index value es))) ≡ lookup k (e ∷ es)
      cases true b t h = rw (ne_eqb index k ne) refl
      cases false true t h =
          let same : e.0 ≡ index = grind (arith, nat_tests) in
          let apart : e.0 ≢ k = λ s. ne (omega arith) in
          rw (ne_eqb index k ne, ne_eqb e.0 k apart) refl
      cases false false t h = ap (λ o. cond (nat_eq e.0 k) (Some e.1) o) h

  pub later : (k : ℕ) (e : ℕ × V) (es : List (ℕ × V)) → IsSome (lookup k es) → IsSome (lookup k (e ∷ es))
  later k e es s = elim (nat_eq e.0 k) as (λ b. IsSome (cond b (Some e.1) (lookup k es))) [ true ↦ refl | false ↦ s ]

  pub here : (e : ℕ × V) (es : List (ℕ × V)) → IsSome (lookup e.0 (e ∷ es))
  here e es = rw (eq-eqb e.0 e.0 refl) refl

  -- an index before all others has no value
  pub lookup_before : (k lo hi : ℕ) (es : List (ℕ × V)) → Rises lo hi es → k < lo → IsSome (lookup k es) → ⊥
  lookup_before k lo hi [] h p s = absurd cc
  lookup_before k lo hi (e ∷ es) h p s =
      lookup_before k (e.0 + 1) hi es h.1 (omega arith) (rw (ne_eqb e.0 k (λ q. omega arith)) at s)
