-- How many entries are before a page, and what a put, a removal and an edge do to that.
use Rattle.std.proofs.Common.{◌≡◌, ℕ, ◌+◌, ◌<◌, ◌≤◌, List, [], ◌∷◌, length, refl, ap, ◌∙◌, arith, Bool, true, false, ◌&&◌, cond}
use Rattle.std.specs.Prelude.{None, Some, IsSome, nat_eq, nat_lt, nat_le}
use Rattle.std.proofs.lemmas.Bool.Decides.{nat_tests}
use Rattle.gm_base.specs.declared.numbers.TheConstants.{PAGE_LIMIT}
use Rattle.gm_radix.specs.Entries.{lookup, put, without, is_within, count_within, Rises}
use Rattle.gm_ranges.specs.Runs.{with_turn}
use Rattle.gm_ranges.proofs.Rising.{here, later, lookup_before}

-- all entries are before the limit
pub count_all : {V : Type 0} (n lo hi : ℕ) (es : List (ℕ × V)) → Rises lo hi es → hi ≤ n → count_within 0 n es ≡ length es
count_all n lo hi [] h p = refl
count_all n lo hi (e ∷ es) h p =
    ap (λ (b : Bool). cond b (count_within 0 n es + 1) (count_within 0 n es)) inside ∙ (ap (λ m. m + 1) (count_all n (e.0 + 1) hi es h.1 p) ∙ omega arith)
  where
    inside : is_within 0 n e ≡ true
    inside = grind (arith, nat_tests)

-- one more after a put at an index without a value
pub count_put : {V : Type 0} (n index : ℕ) (value : V) (es : List (ℕ × V)) → lookup index es ≡ None → count_within 0 n (put index value es) ≡ count_within 0 n es + cond (nat_lt index n) 1 0
count_put n index value [] h = grind (arith, nat_tests)
count_put {V} n index value (e ∷ es) h = cases (nat_lt index e.0) (nat_eq e.0 index) h (count_put n index value es)
  where
    new : (index n m : ℕ) → cond (nat_le 0 index && nat_lt index n) (m + 1) m ≡ m + cond (nat_lt index n) 1 0
    new index n m = grind (arith, nat_tests)

    old : (b : Bool) (m k : ℕ) → cond b (m + k + 1) (m + k) ≡ cond b (m + 1) m + k
    old true m k = omega arith
    old false m k = refl

    cases : (a b : Bool) → cond b (Some e.1) (lookup index es) ≡ None → (lookup index es ≡ None → count_within 0 n (put index value es) ≡ count_within 0 n es + cond (nat_lt index n) 1 0) → count_within 0 n (cond a ((index, value) ∷ e ∷ es) (cond b ((index, value) ∷ es) (e ∷ put index value es))) ≡ count_within 0 n (e ∷ es) + cond (nat_lt index n) 1 0
    cases true b t r = new index n (count_within 0 n (e ∷ es))
    cases false true t r = absurd cc
    cases false false t r =
        ap (λ m. cond (is_within 0 n e) (m + 1) m) (r t) ∙ old (is_within 0 n e) (count_within 0 n es) (cond (nat_lt index n) 1 0)

-- what an edge adds
pub count_turn : (n : ℕ) (turns : Bool) (page : ℕ) (es : List (ℕ × Unit {0})) → lookup page es ≡ None → count_within 0 n (with_turn turns page es) ≡ count_within 0 n es + cond (turns && nat_lt page PAGE_LIMIT) (cond (nat_lt page n) 1 0) 0
count_turn n turns page es h = cases (turns && nat_lt page PAGE_LIMIT)
  where
    cases : (b : Bool) → count_within 0 n (cond b (put page tt es) es) ≡ count_within 0 n es + cond b (cond (nat_lt page n) 1 0) 0
    cases true = count_put n page tt es h
    cases false = omega arith

-- a removal, by what one entry adds to each count
removed : {V : Type 0} (n lo hi : ℕ) (e : ℕ × V) (es : List (ℕ × V)) → count_within 0 n (without lo hi (e ∷ es)) ≡ cond (is_within lo hi e) (count_within 0 n (without lo hi es)) (cond (is_within 0 n e) (count_within 0 n (without lo hi es) + 1) (count_within 0 n (without lo hi es)))
removed n lo hi e es = cases (is_within lo hi e)
  where
    cases : (b : Bool) → count_within 0 n (cond b (without lo hi es) (e ∷ without lo hi es)) ≡ cond b (count_within 0 n (without lo hi es)) (cond (is_within 0 n e) (count_within 0 n (without lo hi es) + 1) (count_within 0 n (without lo hi es)))
    cases true = refl
    cases false = refl

before_step : (x n lo hi w c : ℕ) → n ≤ lo → w ≡ c → cond (nat_le lo x && nat_lt x hi) w (cond (nat_le 0 x && nat_lt x n) (w + 1) w) ≡ cond (nat_le 0 x && nat_lt x n) (c + 1) c
before_step x n lo hi w c p e = grind (arith, nat_tests)

inside_step : (x n lo hi w c : ℕ) → lo ≤ n → n ≤ hi → w ≡ c → cond (nat_le lo x && nat_lt x hi) w (cond (nat_le 0 x && nat_lt x n) (w + 1) w) ≡ cond (nat_le 0 x && nat_lt x lo) (c + 1) c
inside_step x n lo hi w c p q e = grind (arith, nat_tests)

after_step : (x n lo hi w c d f : ℕ) → lo ≤ hi → hi ≤ n → w + c ≡ d + f → cond (nat_le lo x && nat_lt x hi) w (cond (nat_le 0 x && nat_lt x n) (w + 1) w) + cond (nat_le 0 x && nat_lt x hi) (c + 1) c ≡ cond (nat_le 0 x && nat_lt x n) (d + 1) d + cond (nat_le 0 x && nat_lt x lo) (f + 1) f
after_step x n lo hi w c d f p q e = grind (arith, nat_tests)

-- a removal changes nothing before it
pub count_before : {V : Type 0} (n lo hi : ℕ) (es : List (ℕ × V)) → n ≤ lo → count_within 0 n (without lo hi es) ≡ count_within 0 n es
count_before n lo hi [] p = refl
count_before n lo hi (e ∷ es) p = removed n lo hi e es ∙ before_step e.0 n lo hi _ _ p (count_before n lo hi es p)

-- in it only those before it are left
pub count_inside : {V : Type 0} (n lo hi : ℕ) (es : List (ℕ × V)) → lo ≤ n → n ≤ hi → count_within 0 n (without lo hi es) ≡ count_within 0 lo es
count_inside n lo hi [] p q = refl
count_inside n lo hi (e ∷ es) p q = removed n lo hi e es ∙ inside_step e.0 n lo hi _ _ p q (count_inside n lo hi es p q)

-- and after it those in it are gone
pub count_after : {V : Type 0} (n lo hi : ℕ) (es : List (ℕ × V)) → lo ≤ hi → hi ≤ n → count_within 0 n (without lo hi es) + count_within 0 hi es ≡ count_within 0 n es + count_within 0 lo es
count_after n lo hi [] p q = refl
count_after n lo hi (e ∷ es) p q =
    ap (λ m. m + count_within 0 hi (e ∷ es)) (removed n lo hi e es) ∙ after_step e.0 n lo hi _ _ _ _ p q (count_after n lo hi es p q)

-- where no index from one on and before another has a value, as many are before both
pub count_gap : {V : Type 0} (m n : ℕ) (es : List (ℕ × V)) → m ≤ n → ((k : ℕ) → m ≤ k → k < n → IsSome (lookup k es) → ⊥) → count_within 0 n es ≡ count_within 0 m es
count_gap m n [] p h = refl
count_gap {V} m n (e ∷ es) p h = step e.0 _ _ outside (count_gap m n es p (λ k a b s. h k a b (later k e es s)))
  where
    outside : m ≤ e.0 → e.0 < n → ⊥
    outside a b = h e.0 a b (here e es)

    step : (x w c : ℕ) → (m ≤ x → x < n → ⊥) → w ≡ c → cond (nat_le 0 x && nat_lt x n) (w + 1) w ≡ cond (nat_le 0 x && nat_lt x m) (c + 1) c
    step x w c o e = grind (arith, nat_tests)

-- an index with a value counts once
pub count_at : {V : Type 0} (k lo hi : ℕ) (es : List (ℕ × V)) → Rises lo hi es → IsSome (lookup k es) → count_within 0 (k + 1) es ≡ count_within 0 k es + 1
count_at k lo hi [] h s = absurd cc
count_at {V} k lo hi (e ∷ es) h s = cases (nat_eq e.0 k) refl s (count_at k (e.0 + 1) hi es h.1)
  where
    rest : e.0 ≡ k → count_within 0 (k + 1) es ≡ count_within 0 k es
    rest same = count_gap k (k + 1) es (omega arith) (λ j p q t. lookup_before j (e.0 + 1) hi es h.1 (omega arith) t)

    first : (x k w c : ℕ) → x ≡ k → w ≡ c → cond (nat_le 0 x && nat_lt x (k + 1)) (w + 1) w ≡ cond (nat_le 0 x && nat_lt x k) (c + 1) c + 1
    first x k w c p q = grind (arith, nat_tests)

    other : (x k w c : ℕ) → nat_eq x k ≡ false → w ≡ c + 1 → cond (nat_le 0 x && nat_lt x (k + 1)) (w + 1) w ≡ cond (nat_le 0 x && nat_lt x k) (c + 1) c + 1
    other x k w c p q = grind (arith, nat_tests)

    cases : (b : Bool) → nat_eq e.0 k ≡ b → IsSome (cond b (Some e.1) (lookup k es)) → (IsSome (lookup k es) → count_within 0 (k + 1) es ≡ count_within 0 k es + 1) → count_within 0 (k + 1) (e ∷ es) ≡ count_within 0 k (e ∷ es) + 1
    cases true t s r =
        let same : e.0 ≡ k = grind (arith, nat_tests) in
        first e.0 k _ _ same (rest same)
    cases false t s r = other e.0 k _ _ t (r s)

split_step : (x lo hi c d n : ℕ) → lo ≤ hi → c + d ≡ n → cond (nat_le 0 x && nat_lt x lo) (c + 1) c + cond (nat_le lo x && nat_lt x hi) (d + 1) d ≡ cond (nat_le 0 x && nat_lt x hi) (n + 1) n
split_step x lo hi c d n p q = grind (arith, nat_tests)

-- those before a later page are those before the earlier one and those from there on
count_split : {V : Type 0} (lo hi : ℕ) (es : List (ℕ × V)) → lo ≤ hi → count_within 0 lo es + count_within lo hi es ≡ count_within 0 hi es
count_split lo hi [] p = refl
count_split lo hi (e ∷ es) p = split_step e.0 lo hi _ _ _ p (count_split lo hi es p)

-- what a removal takes is counted
count_gone : {V : Type 0} (lo hi : ℕ) (es : List (ℕ × V)) → count_within lo hi es + length (without lo hi es) ≡ length es
count_gone lo hi [] = refl
count_gone {V} lo hi (e ∷ es) = cases (is_within lo hi e) (count_gone lo hi es)
  where
    cases : (b : Bool) → count_within lo hi es + length (without lo hi es) ≡ length es → cond b (count_within lo hi es + 1) (count_within lo hi es) + length (cond b (without lo hi es) (e ∷ without lo hi es)) ≡ length (e ∷ es)
    cases true h = omega (arith, h)
    cases false h = omega (arith, h)

-- so those before the removal and those that it takes are those before its end
pub count_taken : {V : Type 0} (lo hi gone : ℕ) (es : List (ℕ × V)) → lo ≤ hi → gone + length (without lo hi es) ≡ length es → count_within 0 lo es + gone ≡ count_within 0 hi es
count_taken lo hi gone es p h = omega (arith, h, count_gone lo hi es, count_split lo hi es p)
