-- How edges turn a value.
use Rattle.std.proofs.Common.{◌≡◌, ℕ, ◌+◌, ◌<◌, ◌≤◌, List, [], ◌∷◌, ◌++◌, length, Bool, true, false, not, ◌&&◌, cond, refl, sym, ◌∙◌, ap, arith, ◌⊎◌, inl, inr}
use Rattle.std.specs.Prelude.{◌%◌, nat_eq, nat_le, nat_lt}
use Rattle.std.proofs.lemmas.Bool.Decides.{nat_tests}
use Rattle.std.proofs.lemmas.Bool.{cases_lt}
use Rattle.gm_base.specs.declared.numbers.TheConstants.{PAGE_LIMIT}
use Rattle.gm_radix.specs.Entries.{count_within, Rises}
use Rattle.gm_ranges.specs.Runs.{turned, odd, differ, indexes_of, edges_of}
use Rattle.gm_ranges.proofs.Counting.{count_all}

pub odd_next : (n : ℕ) → odd (n + 1) ≡ not (odd n)
odd_next n = grind (arith, nat_tests)

-- a value after so many turns
abbrev turned_by : ℕ → Bool → Bool
turned_by n value = cond (odd n) (not value) value

-- one turn more
turn_more : (b : Bool) (n : ℕ) (value : Bool) → turned_by n (cond b (not value) value) ≡ turned_by (cond b (n + 1) n) value
turn_more false n value = refl
turn_more true n value = turn (odd n) value ∙ ap (λ (o : Bool). cond o (not value) value) (sym (odd_next n))
  where
    turn : (o v : Bool) → cond o (not (not v)) (not v) ≡ cond (not o) (not v) v
    turn true true = refl
    turn true false = refl
    turn false true = refl
    turn false false = refl

-- edges one after the other
turned_append : (value : Bool) (xs ys : List ℕ) (page : ℕ) → turned value (xs ++ ys) page ≡ turned (turned value xs page) ys page
turned_append value [] ys page = refl
turned_append value (x ∷ xs) ys page = turned_append (cond (nat_le x page) (not value) value) xs ys page

up_to : (x page : ℕ) → nat_le x page ≡ (nat_le 0 x && nat_lt x (page + 1))
up_to x page = grind (arith, nat_tests)

-- the edges up to a page turn the value, in whichever order they stand
turned_count : (value : Bool) (es : List (ℕ × Unit {0})) (page : ℕ) → turned value (indexes_of es) page ≡ turned_by (count_within 0 (page + 1) es) value
turned_count value [] page = refl
turned_count value (e ∷ es) page =
    turned_count (cond (nat_le e.0 page) (not value) value) es page
    ∙ (ap (λ (b : Bool). turned_by (count_within 0 (page + 1) es) (cond b (not value) value)) (up_to e.0 page) ∙ turn_more (nat_le 0 e.0 && nat_lt e.0 (page + 1)) (count_within 0 (page + 1) es) value)

-- an edge at the limit leaves the pages below it, and makes the others false
close_below : (limit page : ℕ) (value b : Bool) → page < limit → turned value (cond b (limit ∷ []) []) page ≡ (nat_lt page limit && value)
close_below limit page value true h = grind (arith, nat_tests)
close_below limit page value false h = grind (arith, nat_tests)

close_above : (limit page : ℕ) (value : Bool) → limit ≤ page → turned value (cond value (limit ∷ []) []) page ≡ (nat_lt page limit && value)
close_above limit page true h = grind (arith, nat_tests)
close_above limit page false h = grind (arith, nat_tests)

-- the value of a page
pub value_is : (es : List (ℕ × Unit {0})) (page : ℕ) → Rises 0 PAGE_LIMIT es → turned false (edges_of es) page ≡ (nat_lt page PAGE_LIMIT && odd (count_within 0 (page + 1) es))
value_is es page r =
    turned_append false (indexes_of es) (cond (odd (length es)) (PAGE_LIMIT ∷ []) []) page
    ∙ (ap (λ (v : Bool). turned v (cond (odd (length es)) (PAGE_LIMIT ∷ []) []) page) (turned_count false es page ∙ only_odd (odd (count_within 0 (page + 1) es))) ∙ close (cases_lt page PAGE_LIMIT))
  where
    only_odd : (o : Bool) → cond o true false ≡ o
    only_odd true = refl
    only_odd false = refl

    close : ((page < PAGE_LIMIT) ⊎ (PAGE_LIMIT ≤ page)) → turned (odd (count_within 0 (page + 1) es)) (cond (odd (length es)) (PAGE_LIMIT ∷ []) []) page ≡ (nat_lt page PAGE_LIMIT && odd (count_within 0 (page + 1) es))
    close (inl p) = close_below PAGE_LIMIT page (odd (count_within 0 (page + 1) es)) (odd (length es)) p
    close (inr p) =
        ap (λ n. turned (odd (count_within 0 (page + 1) es)) (cond (odd n) (PAGE_LIMIT ∷ []) []) page) (sym (count_all (page + 1) 0 PAGE_LIMIT es r (omega arith)))
        ∙ close_above PAGE_LIMIT page (odd (count_within 0 (page + 1) es)) p

-- an edge where the value differs leads to it
pub odd_turn : (n : ℕ) (value : Bool) → odd (n + cond (differ (odd n) value) 1 0) ≡ value
odd_turn n value = cases (odd n) value refl
  where
    same : odd (n + 0) ≡ odd n
    same = ap odd (omega arith)

    cases : (o v : Bool) → odd n ≡ o → odd (n + cond (differ o v) 1 0) ≡ v
    cases true true e = same ∙ e
    cases true false e = odd_next n ∙ ap not e
    cases false true e = odd_next n ∙ ap not e
    cases false false e = same ∙ e

parity : (x y : ℕ) → odd x ≡ odd y → x % 2 ≡ y % 2
parity x y e = grind (arith, nat_tests)

-- two edges that lead to one value, and as many entries less as lie between them
pub odd_after : (w c d f a b : ℕ) (value : Bool) → w + c ≡ d + f → odd (f + a) ≡ value → odd (c + b) ≡ value → odd ((w + a) + b) ≡ odd d
odd_after w c d f a b value e p q =
    let same = parity (f + a) (c + b) (p ∙ sym q) in
    let rest : ((w + a) + b) % 2 ≡ d % 2 = omega arith in
    ap (λ n. nat_eq n 1) rest
