-- Lists of entries by rising index, and what a look-up, a put and a removal do to two of them end to end.
use Rattle.std.proofs.Common.{◌≡◌, ℕ, suc, ◌+◌, ◌-◌, ◌<◌, ◌≤◌, ◌⊎◌, inl, inr, List, [], ◌∷◌, ◌++◌, length, refl, ap, sym, ◌∙◌, arith, Bool, true, false, append_assoc, length-append}
use Rattle.std.specs.Prelude.{None, Some, IsSome, nat_eq, nat_lt, if◌then◌else◌}
use Rattle.std.specs.declared.option.Option.{Option}
use Rattle.std.proofs.lemmas.Bool.{lt-ltb, le-ltb, ne_eqb, eq-eqb, cases_lt}
use Rattle.std.proofs.lemmas.Bool.Decides.{nat_tests}
use Rattle.gm_radix.specs.Entries.{lookup, put, is_within, within, without, gap_from, Rises, IsFirstGap}

module _ {V : Type 0} where
  -- wider bounds
  pub Rises-wider : (lo hi low high : ℕ) (es : List (ℕ × V)) → low ≤ lo → hi ≤ high → Rises lo hi es → Rises low high es
  Rises-wider lo hi low high [] p q h = tt
  Rises-wider lo hi low high (e ∷ es) p q h = ((omega arith, omega arith), Rises-wider (e.0 + 1) hi (e.0 + 1) high es (omega arith) q h.1)

  -- two lists end to end
  pub Rises-append : (lo pivot hi : ℕ) (l r : List (ℕ × V)) → lo ≤ pivot → pivot ≤ hi → Rises lo pivot l → Rises pivot hi r → Rises lo hi (l ++ r)
  Rises-append lo pivot hi [] r p q h k = Rises-wider pivot hi lo hi r p (omega arith) k
  Rises-append lo pivot hi (e ∷ es) r p q h k = ((h.0.0, omega arith), Rises-append (e.0 + 1) pivot hi es r (omega arith) q h.1 k)

  -- there are no more entries than indexes
  pub length-Rises : (lo hi : ℕ) (es : List (ℕ × V)) → Rises lo hi es → length es ≤ hi - lo
  length-Rises lo hi [] h = omega arith
  length-Rises lo hi (e ∷ es) h = omega (arith, length-Rises (e.0 + 1) hi es h.1)

  lookup_later : (index : ℕ) (e : ℕ × V) (es : List (ℕ × V)) → nat_eq e.0 index ≡ false → lookup index (e ∷ es) ≡ lookup index es
  lookup_later index e es h = rw h refl

  -- an index outside the bounds has no value
  pub lookup-outside : (index lo hi : ℕ) (es : List (ℕ × V)) → Rises lo hi es → (index < lo) ⊎ (hi ≤ index) → lookup index es ≡ None
  lookup-outside index lo hi [] h o = refl
  lookup-outside index lo hi (e ∷ es) h o =
      lookup_later index e es (ne_eqb e.0 index (λ p. elim o [ inl a ↦ omega arith | inr b ↦ omega arith ]))
      ∙ lookup-outside index (e.0 + 1) hi es h.1 (elim o [ inl a ↦ inl (omega arith) | inr b ↦ inr b ])

  -- an index below the second list is looked up in the first
  pub lookup-left : (index pivot hi : ℕ) (l r : List (ℕ × V)) → index < pivot → Rises pivot hi r → lookup index (l ++ r) ≡ lookup index l
  lookup-left index pivot hi [] r p h = lookup-outside index pivot hi r h (inl p)
  lookup-left index pivot hi (e ∷ es) r p h = ap (λ (o : Option V). if nat_eq e.0 index then Some e.1 else o) (lookup-left index pivot hi es r p h)

  -- an index past the first list is looked up in the second
  pub lookup-right : (index lo pivot : ℕ) (l r : List (ℕ × V)) → pivot ≤ index → Rises lo pivot l → lookup index (l ++ r) ≡ lookup index r
  lookup-right index lo pivot [] r p h = refl
  lookup-right index lo pivot (e ∷ es) r p h = lookup_later index e (es ++ r) (ne_eqb e.0 index (λ q. omega arith)) ∙ lookup-right index (e.0 + 1) pivot es r p h.1

  put_first : (index : ℕ) (value : V) (pivot hi : ℕ) (r : List (ℕ × V)) → index < pivot → Rises pivot hi r → put index value r ≡ (index, value) ∷ r
  put_first index value pivot hi [] p h = refl
  put_first index value pivot hi (e ∷ es) p h = rw (lt-ltb index e.0 (omega arith)) refl

  -- a put below the second list goes into the first
  pub put-left : (index : ℕ) (value : V) (pivot hi : ℕ) (l r : List (ℕ × V)) → index < pivot → Rises pivot hi r → put index value (l ++ r) ≡ put index value l ++ r
  put-left index value pivot hi [] r p h = put_first index value pivot hi r p h
  put-left index value pivot hi (e ∷ es) r p h = cases (nat_lt index e.0) (nat_eq e.0 index) (put-left index value pivot hi es r p h)
    where
      cases : (a b : Bool) {u : List (ℕ × V)} → u ≡ put index value es ++ r → (if a then (index, value) ∷ e ∷ (es ++ r) else (if b then (index, value) ∷ (es ++ r) else e ∷ u)) ≡ (if a then (index, value) ∷ e ∷ es else (if b then (index, value) ∷ es else e ∷ put index value es)) ++ r
      cases true b q = refl
      cases false true q = refl
      cases false false q = ap (λ (x : List (ℕ × V)). e ∷ x) q

  -- a put past the first list goes into the second
  pub put-right : (index : ℕ) (value : V) (lo pivot : ℕ) (l r : List (ℕ × V)) → pivot ≤ index → Rises lo pivot l → put index value (l ++ r) ≡ l ++ put index value r
  put-right index value lo pivot [] r p h = refl
  put-right index value lo pivot (e ∷ es) r p h =
      rw (le-ltb index e.0 (omega arith), ne_eqb e.0 index (λ q. omega arith)) (ap (λ (x : List (ℕ × V)). e ∷ x) (put-right index value (e.0 + 1) pivot es r p h.1))

  -- a removal takes from each of two lists
  pub without-append : (lo hi : ℕ) (l r : List (ℕ × V)) → without lo hi (l ++ r) ≡ without lo hi l ++ without lo hi r
  without-append lo hi [] r = refl
  without-append lo hi (e ∷ es) r = cases (is_within lo hi e) (without-append lo hi es r)
    where
      cases : (a : Bool) {u : List (ℕ × V)} → u ≡ without lo hi es ++ without lo hi r → (if a then u else e ∷ u) ≡ (if a then without lo hi es else e ∷ without lo hi es) ++ without lo hi r
      cases true q = q
      cases false q = ap (λ (x : List (ℕ × V)). e ∷ x) q

  pub not_within : (lo hi a b : ℕ) (e : ℕ × V) → (a ≤ e.0) × (e.0 < b) → (b ≤ lo) ⊎ (hi ≤ a) → is_within lo hi e ≡ false
  not_within lo hi a b e h o = elim o [ inl p ↦ test (inl (omega arith)) | inr q ↦ test (inr (omega arith)) ]
    where
      test : (e.0 < lo) ⊎ (hi ≤ e.0) → is_within lo hi e ≡ false
      test o = grind (arith, nat_tests)

  -- a removal of other indexes takes nothing
  pub without-apart : (lo hi a b : ℕ) (es : List (ℕ × V)) → Rises a b es → (b ≤ lo) ⊎ (hi ≤ a) → without lo hi es ≡ es
  without-apart lo hi a b [] h o = refl
  without-apart lo hi a b (e ∷ es) h o =
      rw (not_within lo hi a b e h.0 o) (ap (λ (x : List (ℕ × V)). e ∷ x) (without-apart lo hi (e.0 + 1) b es h.1 (elim o [ inl p ↦ inl p | inr q ↦ inr (omega arith) ])))

  -- nothing is within a range with no index
  pub within_none : (lo hi : ℕ) (e : ℕ × V) → hi ≤ lo → is_within lo hi e ≡ false
  within_none lo hi e p = grind (arith, nat_tests)

  pub without-none : (lo hi : ℕ) (es : List (ℕ × V)) → hi ≤ lo → without lo hi es ≡ es
  without-none lo hi [] p = refl
  without-none lo hi (e ∷ es) p = rw (within_none lo hi e p) (ap (λ (xs : List (ℕ × V)). e ∷ xs) (without-none lo hi es p))

  pub within-none : (lo hi : ℕ) (es : List (ℕ × V)) → hi ≤ lo → within lo hi es ≡ []
  within-none lo hi [] p = refl
  within-none lo hi (e ∷ es) p = rw (within_none lo hi e p) (within-none lo hi es p)

  -- a put in the place of the only entry
  pub put_same : (index : ℕ) (value : V) (at : ℕ) (other : V) → at ≡ index → put index value ((at, other) ∷ []) ≡ (index, value) ∷ []
  put_same index value at other p = rw (le-ltb index at (omega arith), eq-eqb at index p) refl

  -- a put before or after all the others
  pub put_before : (index : ℕ) (value : V) (lo hi : ℕ) (es : List (ℕ × V)) → index < lo → Rises lo hi es → (index, value) ∷ es ≡ put index value es
  put_before index value lo hi es p h = sym (put_first index value lo hi es p h)

  pub put_after : (index : ℕ) (value : V) (lo hi : ℕ) (es : List (ℕ × V)) → hi ≤ index → Rises lo hi es → es ++ (index, value) ∷ [] ≡ put index value es
  put_after index value lo hi [] p h = refl
  put_after index value lo hi (e ∷ es) p h =
      rw (le-ltb index e.0 (omega arith), ne_eqb e.0 index (λ q. omega arith)) (ap (λ (x : List (ℕ × V)). e ∷ x) (put_after index value (e.0 + 1) hi es p h.1))

  pub within-append : (lo hi : ℕ) (l r : List (ℕ × V)) → within lo hi (l ++ r) ≡ within lo hi l ++ within lo hi r
  within-append lo hi [] r = refl
  within-append lo hi (e ∷ es) r = cases (is_within lo hi e) (within-append lo hi es r)
    where
      cases : (a : Bool) {u : List (ℕ × V)} → u ≡ within lo hi es ++ within lo hi r → (if a then e ∷ u else u) ≡ (if a then e ∷ within lo hi es else within lo hi es) ++ within lo hi r
      cases true q = ap (λ (x : List (ℕ × V)). e ∷ x) q
      cases false q = q

  pub within-apart : (lo hi a b : ℕ) (es : List (ℕ × V)) → Rises a b es → (b ≤ lo) ⊎ (hi ≤ a) → within lo hi es ≡ []
  within-apart lo hi a b [] h o = refl
  within-apart lo hi a b (e ∷ es) h o =
      rw (not_within lo hi a b e h.0 o) (within-apart lo hi (e.0 + 1) b es h.1 (elim o [ inl p ↦ inl p | inr q ↦ inr (omega arith) ]))

  pub gap_from-append : (index : ℕ) (l r : List (ℕ × V)) → gap_from index (l ++ r) ≡ gap_from (gap_from index l) r
  gap_from-append index [] r = refl
  gap_from-append index (e ∷ es) r = gap_from-append (if nat_eq e.0 index then index + 1 else index) es r

  pub gap_from-outside : (index lo hi : ℕ) (es : List (ℕ × V)) → Rises lo hi es → (index < lo) ⊎ (hi ≤ index) → gap_from index es ≡ index
  gap_from-outside index lo hi [] h o = refl
  gap_from-outside index lo hi (e ∷ es) h o =
      rw (ne_eqb e.0 index (λ p. elim o [ inl a ↦ omega arith | inr b ↦ omega arith ]))
      (gap_from-outside index (e.0 + 1) hi es h.1 (elim o [ inl a ↦ inl (omega arith) | inr b ↦ inr b ]))

  -- it is at most as many indexes further as there are entries
  pub gap_from-most : (index : ℕ) (es : List (ℕ × V)) → gap_from index es ≤ index + length es
  gap_from-most index [] = omega arith
  gap_from-most index (e ∷ es) = cases (nat_eq e.0 index) (λ k. gap_from-most k es)
    where
      cases : (b : Bool) → ((k : ℕ) → gap_from k es ≤ k + length es) → gap_from (if b then index + 1 else index) es ≤ index + suc (length es)
      cases true r = omega (arith, r (index + 1))
      cases false r = omega (arith, r index)

  -- and within the bounds, or where it began
  pub gap_from-within : (index lo hi : ℕ) (es : List (ℕ × V)) → Rises lo hi es → index ≤ hi → gap_from index es ≤ hi
  gap_from-within index lo hi [] h p = p
  gap_from-within index lo hi (e ∷ es) h p = cases (nat_eq e.0 index) refl (λ k. gap_from-within k (e.0 + 1) hi es h.1)
    where
      cases : (b : Bool) → nat_eq e.0 index ≡ b → ((k : ℕ) → k ≤ hi → gap_from k es ≤ hi) → gap_from (if b then index + 1 else index) es ≤ hi
      cases true t r =
          let s : e.0 ≡ index = grind (arith, nat_tests) in
          r (index + 1) (omega arith)
      cases false t r = r index p

  -- on entries that rise it is the first index without a value
  pub gap_from-first : (index lo hi : ℕ) (es : List (ℕ × V)) → Rises lo hi es → IsFirstGap es index (gap_from index es)
  gap_from-first index lo hi [] h = record { after = omega arith; free = refl; taken = λ k p q. absurd (omega arith) }
  gap_from-first index lo hi (e ∷ es) h = cases (nat_eq e.0 index) refl (λ k. gap_from-first k (e.0 + 1) hi es h.1)
    where
      here : (k : ℕ) → e.0 ≡ k → IsSome (lookup k (e ∷ es))
      here k p = rw (eq-eqb e.0 k p) refl

      more : (k : ℕ) → IsSome (lookup k es) → IsSome (lookup k (e ∷ es))
      more k s = elim (nat_eq e.0 k) as (λ b. IsSome (if b then Some e.1 else lookup k es)) [ true ↦ refl | false ↦ s ]

      cases : (b : Bool) → nat_eq e.0 index ≡ b → ((k : ℕ) → IsFirstGap es k (gap_from k es)) → IsFirstGap (e ∷ es) index (gap_from (if b then index + 1 else index) es)
      cases true t r =
          let s : e.0 ≡ index = grind (arith, nat_tests) in
          let i = r (index + 1) in
          let n : e.0 < gap_from (index + 1) es = omega (arith, i.after) in
          record {
            after = omega (arith, i.after);
            free = lookup_later (gap_from (index + 1) es) e es (ne_eqb e.0 (gap_from (index + 1) es) (λ p. omega arith)) ∙ i.free;
            taken = λ k p q. elim (cases_lt index k) [ inl a ↦ more k (i.taken k (omega arith) q) | inr a ↦ here k (omega arith) ];
          }
      cases false t r =
          let d : e.0 ≡ index → ⊥ = λ p. grind (arith, nat_tests, eq-eqb e.0 index p) in
          let i = r index in
          let n : e.0 ≡ gap_from index es → ⊥ = λ p. elim (cases_lt index e.0) [ inl a ↦ (let o : gap_from index es ≡ index = gap_from-outside index (e.0 + 1) hi es h.1 (inl (omega arith)) in omega arith) | inr a ↦ d (omega (arith, i.after)) ] in
          record {
            after = i.after;
            free = lookup_later (gap_from index es) e es (ne_eqb e.0 (gap_from index es) n) ∙ i.free;
            taken = λ k p q. more k (i.taken k p q);
          }

  pub length-within-append : (lo hi : ℕ) (l r : List (ℕ × V)) → length (within lo hi (l ++ r)) ≡ length (within lo hi l) + length (within lo hi r)
  length-within-append lo hi l r = rw (within-append lo hi l r) (length-append (within lo hi l) (within lo hi r))

  pub within-append_after : (lo hi : ℕ) (l r : List (ℕ × V)) (front first second : List (ℕ × V)) → first ≡ front ++ within lo hi l → second ≡ first ++ within lo hi r → second ≡ front ++ within lo hi (l ++ r)
  within-append_after lo hi l r front first second p q =
      q ∙ (ap (λ (x : List (ℕ × V)). x ++ within lo hi r) p ∙ (append_assoc front (within lo hi l) (within lo hi r) ∙ ap (λ (x : List (ℕ × V)). front ++ x) (sym (within-append lo hi l r))))

  -- a put adds one entry at most
  pub length-put : (index : ℕ) (value : V) (es : List (ℕ × V)) → length (put index value es) ≤ length es + 1
  length-put index value [] = omega arith
  length-put index value (e ∷ es) = cases (nat_lt index e.0) (nat_eq e.0 index) (length-put index value es)
    where
      cases : (a b : Bool) → length (put index value es) ≤ length es + 1 → length (if a then (index, value) ∷ e ∷ es else (if b then (index, value) ∷ es else e ∷ put index value es)) ≤ suc (length es) + 1
      cases true b p = omega arith
      cases false true p = omega arith
      cases false false p = omega arith

  -- no index that a removal is for has a value after it
  pub lookup-without : (index lo hi : ℕ) (es : List (ℕ × V)) → lo ≤ index → index < hi → lookup index (without lo hi es) ≡ None
  lookup-without index lo hi [] p q = refl
  lookup-without index lo hi (e ∷ es) p q = cases (is_within lo hi e) refl (lookup-without index lo hi es p q)
    where
      cases : (b : Bool) → is_within lo hi e ≡ b → lookup index (without lo hi es) ≡ None → lookup index (if b then without lo hi es else e ∷ without lo hi es) ≡ None
      cases true t r = r
      cases false t r = lookup_later index e (without lo hi es) (ne_eqb e.0 index (λ s. grind (arith, nat_tests))) ∙ r
