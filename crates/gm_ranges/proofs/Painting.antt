-- What a call does to the entries, and to the value of each page.
use Rattle.std.proofs.Common.{◌≡◌, ◌≢◌, ℕ, ◌+◌, ◌-◌, ◌<◌, ◌≤◌, List, Bool, true, false, not, ◌&&◌, cond, refl, sym, ◌∙◌, ap, arith, ◌⊎◌, inl, inr}
use Rattle.std.specs.Prelude.{None, IsSome, nat_le, nat_lt}
use Rattle.std.proofs.lemmas.Bool.Decides.{nat_tests}
use Rattle.std.proofs.lemmas.Bool.{cases_lt, lt-ltb}
use Rattle.gm_base.specs.declared.numbers.TheConstants.{PAGE_LIMIT}
use Rattle.gm_base.specs.Extent.{Extent, holds}
use Rattle.gm_radix.specs.Entries.{lookup, put, without, count_within, Rises}
use Rattle.gm_ranges.specs.Runs.{turned, odd, differ, edges_of, with_turn}
use Rattle.gm_ranges.proofs.Rising.{rises_put, rises_without, lookup_without, lookup_put_other}
use Rattle.gm_ranges.proofs.Counting.{count_turn, count_before, count_inside, count_after, count_at, count_gap}
use Rattle.gm_ranges.proofs.Turning.{value_is, odd_next, odd_turn, odd_after}

-- the entries after a call: those in the span go, and edges at its ends are added where the value turns
abbrev pub painted : List (ℕ × Unit {0}) → ℕ → ℕ → Bool → List (ℕ × Unit {0})
painted es lo hi value =
    with_turn (differ (odd (count_within 0 (hi + 1) es)) value) hi (with_turn (differ (odd (count_within 0 lo es)) value) lo (without lo (hi + 1) es))

-- as the code makes them
pub painted_of : (es cut first second : List (ℕ × Unit {0})) (lo hi from to : ℕ) (value before after a b : Bool) → cut ≡ without lo (hi + 1) es → first ≡ with_turn a lo cut → second ≡ with_turn b hi first → a ≡ differ before value → b ≡ differ after value → before ≡ odd (count_within 0 lo es) → after ≡ odd (count_within 0 (hi + 1) es) → lo ≡ from → hi ≡ to → second ≡ painted es from to value
painted_of es cut first second lo hi from to value before after a b cut_is first_is second_is a_is b_is before_is after_is lo_is hi_is =
    second_is
    ∙ (ap (λ (t : List (ℕ × Unit {0})). with_turn b hi t) (first_is ∙ ap (λ (t : List (ℕ × Unit {0})). with_turn a lo t) cut_is)
    ∙ (ap (λ (t : Bool). with_turn t hi (with_turn a lo (without lo (hi + 1) es))) (b_is ∙ ap (λ (v : Bool). differ v value) after_is)
    ∙ (ap (λ (t : Bool). with_turn (differ (odd (count_within 0 (hi + 1) es)) value) hi (with_turn t lo (without lo (hi + 1) es))) (a_is ∙ ap (λ (v : Bool). differ v value) before_is)
    ∙ (ap (λ n. painted es n hi value) lo_is ∙ ap (λ n. painted es from n value) hi_is))))

rises_turn : (turns : Bool) (page : ℕ) (es : List (ℕ × Unit {0})) → Rises 0 PAGE_LIMIT es → Rises 0 PAGE_LIMIT (with_turn turns page es)
rises_turn turns page es r = cases (turns && nat_lt page PAGE_LIMIT) refl
  where
    below : (t : Bool) (p limit : ℕ) → (t && nat_lt p limit) ≡ true → p < limit
    below t p limit e = grind (arith, nat_tests)

    cases : (b : Bool) → (turns && nat_lt page PAGE_LIMIT) ≡ b → Rises 0 PAGE_LIMIT (cond b (put page tt es) es)
    cases true e = rises_put page tt 0 PAGE_LIMIT es (omega arith) (below turns page PAGE_LIMIT e) r
    cases false e = r

pub rises_painted : (es : List (ℕ × Unit {0})) (lo hi : ℕ) (value : Bool) → Rises 0 PAGE_LIMIT es → Rises 0 PAGE_LIMIT (painted es lo hi value)
rises_painted es lo hi value r =
    rises_turn (differ (odd (count_within 0 (hi + 1) es)) value) hi (with_turn (differ (odd (count_within 0 lo es)) value) lo (without lo (hi + 1) es)) (rises_turn (differ (odd (count_within 0 lo es)) value) lo (without lo (hi + 1) es) (rises_without lo (hi + 1) 0 PAGE_LIMIT es r))

-- after an edge at a span's first page none is at its end
pub end_free : (turns : Bool) (lo hi : ℕ) (es : List (ℕ × Unit {0})) → lo < hi → lookup hi (with_turn turns lo (without lo (hi + 1) es)) ≡ None
end_free turns lo hi es less = cases (turns && nat_lt lo PAGE_LIMIT)
  where
    apart : lo ≢ hi
    apart e = omega arith

    cases : (t : Bool) → lookup hi (cond t (put lo tt (without lo (hi + 1) es)) (without lo (hi + 1) es)) ≡ None
    cases true = lookup_put_other lo tt hi (without lo (hi + 1) es) apart ∙ lookup_without lo (hi + 1) hi es (omega arith) (omega arith)
    cases false = lookup_without lo (hi + 1) hi es (omega arith) (omega arith)

-- how many entries are before a page then
count_painted : (es : List (ℕ × Unit {0})) (lo hi n : ℕ) (a b : Bool) → lo < hi → count_within 0 n (with_turn b hi (with_turn a lo (without lo (hi + 1) es))) ≡ (count_within 0 n (without lo (hi + 1) es) + cond (a && nat_lt lo PAGE_LIMIT) (cond (nat_lt lo n) 1 0) 0) + cond (b && nat_lt hi PAGE_LIMIT) (cond (nat_lt hi n) 1 0) 0
count_painted es lo hi n a b less =
    count_turn n b hi (with_turn a lo (without lo (hi + 1) es)) (end_free a lo hi es less)
    ∙ ap (λ m. m + cond (b && nat_lt hi PAGE_LIMIT) (cond (nat_lt hi n) 1 0) 0) (count_turn n a lo (without lo (hi + 1) es) (lookup_without lo (hi + 1) lo es (omega arith) (omega arith)))

sum_before : (w c lo hi n limit : ℕ) (a b : Bool) → n ≤ lo → lo < hi → w ≡ c → (w + cond (a && nat_lt lo limit) (cond (nat_lt lo n) 1 0) 0) + cond (b && nat_lt hi limit) (cond (nat_lt hi n) 1 0) 0 ≡ c
sum_before w c lo hi n limit a b p q e = grind (arith, nat_tests)

sum_inside : (w c lo hi n limit : ℕ) (a b : Bool) → lo < n → n ≤ hi → hi ≤ limit → w ≡ c → (w + cond (a && nat_lt lo limit) (cond (nat_lt lo n) 1 0) 0) + cond (b && nat_lt hi limit) (cond (nat_lt hi n) 1 0) 0 ≡ c + cond a 1 0
sum_inside w c lo hi n limit a b p q r e = grind (arith, nat_tests)

sum_after : (w lo hi n limit : ℕ) (a b : Bool) → lo < hi → hi < n → n ≤ limit → (w + cond (a && nat_lt lo limit) (cond (nat_lt lo n) 1 0) 0) + cond (b && nat_lt hi limit) (cond (nat_lt hi n) 1 0) 0 ≡ (w + cond a 1 0) + cond b 1 0
sum_after w lo hi n limit a b p q r = grind (arith, nat_tests)

outside : (lo hi page : ℕ) (value v : Bool) → ((page < lo) ⊎ (hi ≤ page)) → v ≡ cond (nat_le lo page && nat_lt page hi) value v
outside lo hi page value v (inl h) = grind (arith, nat_tests)
outside lo hi page value v (inr h) = grind (arith, nat_tests)

inside : (lo hi page : ℕ) (value v : Bool) → lo ≤ page → page < hi → value ≡ cond (nat_le lo page && nat_lt page hi) value v
inside lo hi page value v h l = grind (arith, nat_tests)

-- whether they are odd, below the limit
odd_painted : (es : List (ℕ × Unit {0})) (lo hi : ℕ) (value : Bool) (page : ℕ) → lo < hi → hi ≤ PAGE_LIMIT → page < PAGE_LIMIT → odd (count_within 0 (page + 1) (painted es lo hi value)) ≡ cond (nat_le lo page && nat_lt page hi) value (odd (count_within 0 (page + 1) es))
odd_painted es lo hi value page less limit below =
    ap odd (count_painted es lo hi (page + 1) a b less) ∙ place (cases_lt page lo) (cases_lt page hi)
  where
    a : Bool
    a = differ (odd (count_within 0 lo es)) value

    b : Bool
    b = differ (odd (count_within 0 (hi + 1) es)) value

    w : ℕ
    w = count_within 0 (page + 1) (without lo (hi + 1) es)

    now : Bool
    now = odd (count_within 0 (page + 1) es)

    place : ((page < lo) ⊎ (lo ≤ page)) → ((page < hi) ⊎ (hi ≤ page)) → odd ((w + cond (a && nat_lt lo PAGE_LIMIT) (cond (nat_lt lo (page + 1)) 1 0) 0) + cond (b && nat_lt hi PAGE_LIMIT) (cond (nat_lt hi (page + 1)) 1 0) 0) ≡ cond (nat_le lo page && nat_lt page hi) value now
    place (inl p) high =
        ap odd (sum_before w (count_within 0 (page + 1) es) lo hi (page + 1) PAGE_LIMIT a b (omega arith) less (count_before (page + 1) lo (hi + 1) es (omega arith)))
        ∙ outside lo hi page value now (inl p)
    place (inr p) (inl q) =
        ap odd (sum_inside w (count_within 0 lo es) lo hi (page + 1) PAGE_LIMIT a b (omega arith) (omega arith) limit (count_inside (page + 1) lo (hi + 1) es (omega arith) (omega arith)))
        ∙ (odd_turn (count_within 0 lo es) value ∙ inside lo hi page value now p q)
    place (inr p) (inr q) =
        ap odd (sum_after w lo hi (page + 1) PAGE_LIMIT a b less (omega arith) (omega arith))
        ∙ (odd_after w (count_within 0 (hi + 1) es) (count_within 0 (page + 1) es) (count_within 0 lo es) (cond a 1 0) (cond b 1 0) value (count_after (page + 1) lo (hi + 1) es (omega arith) (omega arith)) (odd_turn (count_within 0 lo es) value) (odd_turn (count_within 0 (hi + 1) es) value) ∙ outside lo hi page value now (inr q))

-- the value of each page after a call
pub value_painted : (es : List (ℕ × Unit {0})) (s : Extent) (value : Bool) (page : ℕ) → Rises 0 PAGE_LIMIT es → s.lo < s.hi → s.hi ≤ PAGE_LIMIT → turned false (edges_of (painted es s.lo s.hi value)) page ≡ cond (holds s page) value (turned false (edges_of es) page)
value_painted es s value page r less limit =
    value_is (painted es s.lo s.hi value) page (rises_painted es s.lo s.hi value r)
    ∙ (side (cases_lt page PAGE_LIMIT) ∙ ap (λ (v : Bool). cond (holds s page) value v) (sym (value_is es page r)))
  where
    now : Bool
    now = odd (count_within 0 (page + 1) es)

    both : (n limit : ℕ) (x v h : Bool) → n < limit → x ≡ cond h value v → (nat_lt n limit && x) ≡ cond h value (nat_lt n limit && v)
    both n limit x v h p e = ap (λ (t : Bool). t && x) (lt-ltb n limit p) ∙ (e ∙ ap (λ (t : Bool). cond h value (t && v)) (sym (lt-ltb n limit p)))

    none : (n lo hi limit : ℕ) (x v : Bool) → limit ≤ n → hi ≤ limit → (nat_lt n limit && x) ≡ cond (nat_le lo n && nat_lt n hi) value (nat_lt n limit && v)
    none n lo hi limit x v p q = grind (arith, nat_tests)

    side : ((page < PAGE_LIMIT) ⊎ (PAGE_LIMIT ≤ page)) → (nat_lt page PAGE_LIMIT && odd (count_within 0 (page + 1) (painted es s.lo s.hi value))) ≡ cond (holds s page) value (nat_lt page PAGE_LIMIT && now)
    side (inl p) = both page PAGE_LIMIT (odd (count_within 0 (page + 1) (painted es s.lo s.hi value))) now (holds s page) p (odd_painted es s.lo s.hi value page less limit p)
    side (inr p) = none page s.lo s.hi PAGE_LIMIT (odd (count_within 0 (page + 1) (painted es s.lo s.hi value))) now p limit

pub below_limit : (es : List (ℕ × Unit {0})) (page : ℕ) → Rises 0 PAGE_LIMIT es → page < PAGE_LIMIT → turned false (edges_of es) page ≡ odd (count_within 0 (page + 1) es)
below_limit es page r p = value_is es page r ∙ ap (λ (b : Bool). b && odd (count_within 0 (page + 1) es)) (lt-ltb page PAGE_LIMIT p)

pub above_limit : (es : List (ℕ × Unit {0})) (page : ℕ) → Rises 0 PAGE_LIMIT es → PAGE_LIMIT ≤ page → nat_lt page PAGE_LIMIT ≡ turned false (edges_of es) page
above_limit es page r p =
    sym (value_is es page r ∙ none page PAGE_LIMIT (odd (count_within 0 (page + 1) es)) p)
  where
    none : (n limit : ℕ) (o : Bool) → limit ≤ n → (nat_lt n limit && o) ≡ nat_lt n limit
    none n limit o p = grind (arith, nat_tests)

-- where no edge is past a span's first page and in it, its pages have the value of the first
pub all_alike : (es : List (ℕ × Unit {0})) (s : Extent) (page : ℕ) → Rises 0 PAGE_LIMIT es → s.hi ≤ PAGE_LIMIT → ((k : ℕ) → s.lo + 1 ≤ k → k < s.hi → IsSome (lookup k es) → ⊥) → holds s page ≡ true → turned false (edges_of es) page ≡ turned false (edges_of es) s.lo
all_alike es s page r limit none held =
    let from : s.lo ≤ page = low s.lo s.hi page held in
    let to : page < s.hi = high s.lo s.hi page held in
    below_limit es page r (omega arith)
    ∙ (ap odd (count_gap (s.lo + 1) (page + 1) es (omega arith) (λ k a b t. none k a (omega arith) t)) ∙ sym (below_limit es s.lo r (omega arith)))
  where
    low : (lo hi n : ℕ) → (nat_le lo n && nat_lt n hi) ≡ true → lo ≤ n
    low lo hi n e = grind (arith, nat_tests)

    high : (lo hi n : ℕ) → (nat_le lo n && nat_lt n hi) ≡ true → n < hi
    high lo hi n e = grind (arith, nat_tests)

-- two pages of a span differ where an edge stands inside
pub some_differ : (es : List (ℕ × Unit {0})) (s : Extent) (k : ℕ) → Rises 0 PAGE_LIMIT es → s.hi ≤ PAGE_LIMIT → s.lo + 1 ≤ k → k < s.hi → IsSome (lookup k es) → (page : ℕ) × (other : ℕ) × (holds s page ≡ true) × (holds s other ≡ true) × (turned false (edges_of es) page ≡ true) × (turned false (edges_of es) other ≡ false)
some_differ es s k r limit low high some = choose (odd (count_within 0 k es)) refl
  where
    held : (page : ℕ) → s.lo ≤ page → page < s.hi → holds s page ≡ true
    held page h l = grind (arith, nat_tests)

    before : turned false (edges_of es) (k - 1) ≡ odd (count_within 0 k es)
    before = below_limit es (k - 1) r (omega arith) ∙ ap (λ n. odd (count_within 0 n es)) (omega arith)

    now : turned false (edges_of es) k ≡ not (odd (count_within 0 k es))
    now = below_limit es k r (omega arith) ∙ (ap odd (count_at k 0 PAGE_LIMIT es r some) ∙ odd_next (count_within 0 k es))

    choose : (o : Bool) → odd (count_within 0 k es) ≡ o → (page : ℕ) × (other : ℕ) × (holds s page ≡ true) × (holds s other ≡ true) × (turned false (edges_of es) page ≡ true) × (turned false (edges_of es) other ≡ false)
    choose true e = (k - 1, k, held (k - 1) (omega arith) (omega arith), held k (omega arith) high, before ∙ e, now ∙ ap not e)
    choose false e = (k, k - 1, held k (omega arith) high, held (k - 1) (omega arith) (omega arith), now ∙ ap not e, before ∙ e)
