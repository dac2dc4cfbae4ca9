-- Ranges that lie apart: which of them meet another, and what a new one leaves.
use Rattle.std.proofs.Common.{◌≡◌, ◌⊎◌, inl, inr, ℕ, zero, suc, ◌+◌, ◌<◌, ◌≤◌, List, [], ◌∷◌, ◌++◌, length, get_or, take, drop, Bool, true, false, not, ◌&&◌, cond, Option, None, Some, refl, sym, ◌∙◌, ap, subst, arith}
use Rattle.std.specs.Prelude.{nat_eq, nat_lt, filter}
use Rattle.std.specs.List.Sorted.{IsNonDecreasingBy}
use Rattle.std.proofs.lemmas.Bool.{cases_order}
use Rattle.std.proofs.lemmas.Bool.Decides.{nat_tests}
use Rattle.gm_base.specs.declared.numbers.TheConstants.{PAGE_LIMIT}
use Rattle.gm_file.specs.declared.ranges.BoundRange.{BoundRange}
use Rattle.gm_file.specs.Ranges.{LieApart, meets_range, met, range_at, with_range, without_slot}

apart_lower : (low from : ℕ) (rs : List BoundRange) → low ≤ from → LieApart from rs → LieApart low rs
apart_lower low from [] h a = tt
apart_lower low from (r ∷ rs) h a = (omega (arith, a.0), a.1, a.2, a.3)

-- each begins at the start or later, and has an index
begins : (low : ℕ) (rs : List BoundRange) (i : ℕ) (d : BoundRange) → LieApart low rs → i < length rs → (low ≤ (get_or rs i d).lo) × ((get_or rs i d).lo < (get_or rs i d).hi)
begins low [] i d a h = absurd (omega arith)
begins low (r ∷ rs) zero d a h = (a.0, a.1)
begins low (r ∷ rs) (suc i) d a h =
    let next = begins r.hi rs i d a.3 (omega arith) in
    (omega (arith, next.0, a.0, a.1), next.1)

-- later ones begin at the end of earlier ones or after that
pub in_order : (low : ℕ) (rs : List BoundRange) (i j : ℕ) (d : BoundRange) → LieApart low rs → i < j → j < length rs → (get_or rs i d).hi ≤ (get_or rs j d).lo
in_order low [] i j d a l h = absurd (omega arith)
in_order low (r ∷ rs) i zero d a l h = absurd (omega arith)
in_order low (r ∷ rs) zero (suc j) d a l h = (begins r.hi rs j d a.3 (omega arith)).0
in_order low (r ∷ rs) (suc i) (suc j) d a l h = in_order r.hi rs i j d a.3 (omega arith) (omega arith)

-- their ends rise
pub ends_rise : (rs : List BoundRange) → LieApart 0 rs → IsNonDecreasingBy (λ (r : BoundRange). r.hi) rs
ends_rise rs a i j d l h = order (cases_order i j)
  where
    order : ((i ≡ j) ⊎ ((i < j) ⊎ (j < i))) → (get_or rs i d).hi ≤ (get_or rs j d).hi
    order (inl e) = same (ap (λ k. (get_or rs k d).hi) e)
      where
        same : (get_or rs i d).hi ≡ (get_or rs j d).hi → (get_or rs i d).hi ≤ (get_or rs j d).hi
        same e = omega arith
    order (inr (inl less)) = omega (arith, in_order 0 rs i j d a less h, (begins 0 rs j d a h).1)
    order (inr (inr more)) = absurd (omega arith)

-- their starts rise
pub starts_rise : (rs : List BoundRange) → LieApart 0 rs → IsNonDecreasingBy (λ (r : BoundRange). r.lo) rs
starts_rise rs a i j d l h = order (cases_order i j)
  where
    order : ((i ≡ j) ⊎ ((i < j) ⊎ (j < i))) → (get_or rs i d).lo ≤ (get_or rs j d).lo
    order (inl e) = same (ap (λ k. (get_or rs k d).lo) e)
      where
        same : (get_or rs i d).lo ≡ (get_or rs j d).lo → (get_or rs i d).lo ≤ (get_or rs j d).lo
        same e = omega arith
    order (inr (inl less)) = omega (arith, in_order 0 rs i j d a less h, (begins 0 rs i d a (omega arith)).1)
    order (inr (inr more)) = absurd (omega arith)

-- without the first of them the others lie apart
pub drop_apart : (low k : ℕ) (rs : List BoundRange) → LieApart low rs → LieApart low (drop k rs)
drop_apart low zero rs a = a
drop_apart low (suc k) [] a = tt
drop_apart low (suc k) (r ∷ rs) a = drop_apart low k rs (apart_lower low r.hi rs (omega (arith, a.0, a.1)) a.3)

-- none that begins at hi or later meets
none_met : (low lo hi : ℕ) (rs : List BoundRange) → LieApart low rs → hi ≤ low → met lo hi rs ≡ []
none_met low lo hi [] a h = refl
none_met low lo hi (r ∷ rs) a h =
    ap (λ (b : Bool). cond b (r ∷ met lo hi rs) (met lo hi rs)) (misses r.lo r.hi a.0) ∙ none_met r.hi lo hi rs a.3 (omega (arith, a.0, a.1))
  where
    misses : (x y : ℕ) → low ≤ x → (nat_lt lo hi && (nat_lt x hi && nat_lt lo y)) ≡ false
    misses x y l = grind (arith, nat_tests)

-- number `at` of those that meet is number `at` of all, if that begins before hi
abbrev pub begun : ℕ → ℕ → List BoundRange → BoundRange → Option BoundRange
begun hi at rs d = cond (nat_lt at (length rs) && nat_lt (get_or rs at d).lo hi) (Some (get_or rs at d)) None

pub begun_none : (hi at : ℕ) (rs : List BoundRange) (d : BoundRange) → (at < length rs → hi ≤ (get_or rs at d).lo) → begun hi at rs d ≡ None
begun_none hi at rs d h = cases (nat_lt at (length rs)) refl
  where
    begins_late : at < length rs → nat_lt (get_or rs at d).lo hi ≡ false
    begins_late l = late (get_or rs at d).lo (h l)
      where
        late : (n : ℕ) → hi ≤ n → nat_lt n hi ≡ false
        late n l = grind (arith, nat_tests)

    cases : (b : Bool) → nat_lt at (length rs) ≡ b → cond (b && nat_lt (get_or rs at d).lo hi) (Some (get_or rs at d)) None ≡ None
    cases true p = ap (λ (b : Bool). cond b (Some (get_or rs at d)) None) (begins_late (grind (arith, nat_tests)))
    cases false p = refl

pub begun_some : (hi at : ℕ) (rs : List BoundRange) (d : BoundRange) → at < length rs → (get_or rs at d).lo < hi → begun hi at rs d ≡ Some (get_or rs at d)
begun_some hi at rs d l h = ap (λ (b : Bool). cond b (Some (get_or rs at d)) None) (both at (length rs) (get_or rs at d).lo l h)
  where
    both : (a b c : ℕ) → a < b → c < hi → (nat_lt a b && nat_lt c hi) ≡ true
    both a b c l h = grind (arith, nat_tests)

-- one range more in front
begun_next : (hi at : ℕ) (r : BoundRange) (rs : List BoundRange) (d : BoundRange) → begun hi (suc at) (r ∷ rs) d ≡ begun hi at rs d
begun_next hi at r rs d = ap (λ (b : Bool). cond (b && nat_lt (get_or rs at d).lo hi) (Some (get_or rs at d)) None) (short at (length rs))
  where
    short : (at n : ℕ) → nat_lt (suc at) (suc n) ≡ nat_lt at n
    short at n = grind (arith, nat_tests)

-- where all end past lo, the first to meet is the first
found_step : (low lo hi : ℕ) (r : BoundRange) (rs : List BoundRange) (d : BoundRange) → LieApart low (r ∷ rs) → lo < hi → lo < r.hi → ((at : ℕ) → range_at at (met lo hi rs) ≡ begun hi at rs d) → (b : Bool) → nat_lt r.lo hi ≡ b → (at : ℕ) → range_at at (met lo hi (r ∷ rs)) ≡ begun hi at (r ∷ rs) d
found_step low lo hi r rs d a o h rest true e zero =
    ap (λ (b : Bool). range_at 0 (cond b (r ∷ met lo hi rs) (met lo hi rs))) (is_met e)
    ∙ sym (ap (λ (b : Bool). cond (b && nat_lt r.lo hi) (Some r) None) (some (length rs)) ∙ ap (λ (b : Bool). cond b (Some r) None) e)
  where
    is_met : nat_lt r.lo hi ≡ true → meets_range lo hi r ≡ true
    is_met e = grind (arith, nat_tests)

    some : (n : ℕ) → nat_lt 0 (suc n) ≡ true
    some n = grind (arith, nat_tests)
found_step low lo hi r rs d a o h rest true e (suc at) =
    ap (λ (b : Bool). range_at (suc at) (cond b (r ∷ met lo hi rs) (met lo hi rs))) (is_met e)
    ∙ (rest at ∙ sym (begun_next hi at r rs d))
  where
    is_met : nat_lt r.lo hi ≡ true → meets_range lo hi r ≡ true
    is_met e = grind (arith, nat_tests)
found_step low lo hi r rs d a o h rest false e at =
    ap (λ (l : List BoundRange). range_at at l) (none_met r.lo lo hi (r ∷ rs) (omega arith, a.1, a.2, a.3) late)
    ∙ sym (begun_none hi at (r ∷ rs) d (λ l. omega (arith, late, (begins r.lo (r ∷ rs) at d (omega arith, a.1, a.2, a.3) l).0)))
  where
    late : hi ≤ r.lo
    late = grind (arith, nat_tests)

found : (low lo hi : ℕ) (rs : List BoundRange) (d : BoundRange) → LieApart low rs → lo < hi → ((i : ℕ) → i < length rs → lo < (get_or rs i d).hi) → (at : ℕ) → range_at at (met lo hi rs) ≡ begun hi at rs d
found low lo hi [] d a o h at = sym (begun_none hi at [] d (λ l. absurd (omega arith)))
found low lo hi (r ∷ rs) d a o h at =
    found_step low lo hi r rs d a o (h 0 (omega arith)) (λ n. found r.hi lo hi rs d a.3 o (λ i l. h (suc i) (omega arith)) n) (nat_lt r.lo hi) refl at

-- the first k end at lo or before it, and the others past it: number `at` of those that meet is number k + at of all
pub record Ended (rs : List BoundRange) (lo k : ℕ) : Type 0 where
  pub within : k ≤ length rs
  pub low : (i : ℕ) (d : BoundRange) → i < k → (get_or rs i d).hi ≤ lo
  pub high : (i : ℕ) (d : BoundRange) → k ≤ i → i < length rs → lo < (get_or rs i d).hi

ended_next : (r : BoundRange) (rs : List BoundRange) (lo k : ℕ) → Ended (r ∷ rs) lo (suc k) → Ended rs lo k
ended_next r rs lo k e = record {
  within = omega (arith, e.within);
  low = λ i d h. e.low (suc i) d (omega arith);
  high = λ i d h l. e.high (suc i) d (omega arith) (omega arith);
}

pub find_at : (low lo hi k at j : ℕ) (rs : List BoundRange) (d : BoundRange) → LieApart low rs → lo < hi → Ended rs lo k → j ≡ k + at → range_at at (met lo hi rs) ≡ begun hi j rs d
find_at low lo hi zero at j rs d a o e is =
    let same : at ≡ j = omega arith in
    found low lo hi rs d a o (λ i l. e.high i d (omega arith) l) at ∙ ap (λ (n : ℕ). begun hi n rs d) same
find_at low lo hi (suc k) at j [] d a o e is = absurd (omega (arith, e.within))
find_at low lo hi (suc k) at zero (r ∷ rs) d a o e is = absurd (omega arith)
find_at low lo hi (suc k) at (suc j) (r ∷ rs) d a o e is =
    ap (λ (b : Bool). range_at at (cond b (r ∷ met lo hi rs) (met lo hi rs))) (missed (e.low 0 r (omega arith)))
    ∙ (find_at r.hi lo hi k at j rs d a.3 o (ended_next r rs lo k e) (omega arith) ∙ sym (begun_next hi j r rs d))
  where
    missed : r.hi ≤ lo → meets_range lo hi r ≡ false
    missed l = grind (arith, nat_tests)

-- the first k begin before hi, and the others at hi or later
pub record Begun (rs : List BoundRange) (hi k : ℕ) : Type 0 where
  pub within : k ≤ length rs
  pub low : (i : ℕ) (d : BoundRange) → i < k → (get_or rs i d).lo < hi
  pub high : (i : ℕ) (d : BoundRange) → k ≤ i → i < length rs → hi ≤ (get_or rs i d).lo

begun_rest : (r : BoundRange) (rs : List BoundRange) (hi k : ℕ) → Begun (r ∷ rs) hi (suc k) → Begun rs hi k
begun_rest r rs hi k b = record {
  within = omega (arith, b.within);
  low = λ i d h. b.low (suc i) d (omega arith);
  high = λ i d h l. b.high (suc i) d (omega arith) (omega arith);
}

-- where all end past lo, those that begin before hi are the ones that meet
met_front : (low lo hi k : ℕ) (rs : List BoundRange) → LieApart low rs → lo < hi → ((i : ℕ) (d : BoundRange) → i < length rs → lo < (get_or rs i d).hi) → Begun rs hi k → met lo hi rs ≡ take k rs
met_front low lo hi zero [] a o h b = refl
met_front low lo hi (suc k) [] a o h b = refl
met_front low lo hi zero (r ∷ rs) a o h b =
    none_met r.lo lo hi (r ∷ rs) (omega arith, a.1, a.2, a.3) (b.high 0 r (omega arith) (omega arith))
met_front low lo hi (suc k) (r ∷ rs) a o h b =
    ap (λ (t : Bool). cond t (r ∷ met lo hi rs) (met lo hi rs)) (is_met r.lo r.hi (b.low 0 r (omega arith)) (h 0 r (omega arith)))
    ∙ ap (λ (l : List BoundRange). r ∷ l) (met_front r.hi lo hi k rs a.3 o (λ i d l. h (suc i) d (omega arith)) (begun_rest r rs hi k b))
  where
    is_met : (x y : ℕ) → x < hi → lo < y → (nat_lt lo hi && (nat_lt x hi && nat_lt lo y)) ≡ true
    is_met x y l m = grind (arith, nat_tests)

-- those that meet follow the first j, which end at lo or before it, and are the k after them, which begin before hi
pub all_within : (low lo hi j k : ℕ) (rs : List BoundRange) → LieApart low rs → lo < hi → Ended rs lo j → Begun (drop j rs) hi k → met lo hi rs ≡ take k (drop j rs)
all_within low lo hi zero k rs a o e b = met_front low lo hi k rs a o (λ i d l. e.high i d (omega arith) l) b
all_within low lo hi (suc j) k [] a o e b = absurd (omega (arith, e.within))
all_within low lo hi (suc j) k (r ∷ rs) a o e b =
    ap (λ (t : Bool). cond t (r ∷ met lo hi rs) (met lo hi rs)) (missed (e.low 0 r (omega arith)))
    ∙ all_within r.hi lo hi j k rs a.3 o (ended_next r rs lo j e) b
  where
    missed : r.hi ≤ lo → meets_range lo hi r ≡ false
    missed l = grind (arith, nat_tests)

-- an empty range meets none
pub none_in_nothing : (lo hi : ℕ) (rs : List BoundRange) → hi ≤ lo → met lo hi rs ≡ []
none_in_nothing lo hi [] h = refl
none_in_nothing lo hi (r ∷ rs) h =
    ap (λ (b : Bool). cond (b && (nat_lt r.lo hi && nat_lt lo r.hi)) (r ∷ met lo hi rs) (met lo hi rs)) empty ∙ none_in_nothing lo hi rs h
  where
    empty : nat_lt lo hi ≡ false
    empty = grind (arith, nat_tests)

-- a list without a first range is empty
pub first_none : (rs : List BoundRange) → range_at 0 rs ≡ None → rs ≡ []
first_none [] h = refl
first_none (r ∷ rs) h = absurd cc

-- where none meets, the one after those that end before begins at hi or later
begins_after : (lo hi k : ℕ) (rs : List BoundRange) (d : BoundRange) → LieApart 0 rs → lo < hi → Ended rs lo k → range_at 0 (met lo hi rs) ≡ None → k < length rs → hi ≤ (get_or rs k d).lo
begins_after lo hi k rs d a o e none l = cases (nat_lt (get_or rs k d).lo hi) refl
  where
    is : begun hi k rs d ≡ None
    is = sym (find_at 0 lo hi k 0 k rs d a o e (omega arith)) ∙ none

    inside : nat_lt k (length rs) ≡ true
    inside = grind (arith, nat_tests)

    cases : (b : Bool) → nat_lt (get_or rs k d).lo hi ≡ b → hi ≤ (get_or rs k d).lo
    cases true p =
        let some : Some (get_or rs k d) ≡ None = sym (ap (λ (b : Bool). cond (b && nat_lt (get_or rs k d).lo hi) (Some (get_or rs k d)) None) inside ∙ ap (λ (b : Bool). cond b (Some (get_or rs k d)) None) p) ∙ is in
        absurd cc
    cases false p = late (get_or rs k d).lo p
      where
        late : (n : ℕ) → nat_lt n hi ≡ false → hi ≤ n
        late n p = grind (arith, nat_tests)

-- where a new range goes
pub record Fits (new : BoundRange) (rs : List BoundRange) (k : ℕ) : Type 0 where
  pub within : k ≤ length rs
  pub low : (i : ℕ) (d : BoundRange) → i < k → (get_or rs i d).hi ≤ new.lo
  pub high : (d : BoundRange) → k < length rs → new.hi ≤ (get_or rs k d).lo

pub fits_of : (new : BoundRange) (rs os : List BoundRange) (k : ℕ) → os ≡ rs → LieApart 0 rs → new.lo < new.hi → Ended os new.lo k → range_at 0 (met new.lo new.hi rs) ≡ None → Fits new rs k
fits_of new rs os k same a o e none =
    let ended : Ended rs new.lo k = subst (λ (l : List BoundRange). Ended l new.lo k) same e in
    record { within = ended.within; low = ended.low; high = λ d l. begins_after new.lo new.hi k rs d a o ended none l }

fits_next : (new r : BoundRange) (rs : List BoundRange) (k : ℕ) → Fits new (r ∷ rs) (suc k) → Fits new rs k
fits_next new r rs k f = record {
  within = omega (arith, f.within);
  low = λ i d h. f.low (suc i) d (omega arith);
  high = λ d l. f.high d (omega arith);
}

before : (new r : BoundRange) → new.lo < new.hi → new.hi ≤ r.lo → nat_lt new.lo r.lo ≡ true
before new r a b = grind (arith, nat_tests)

after : (new r : BoundRange) → r.lo < r.hi → r.hi ≤ new.lo → nat_lt new.lo r.lo ≡ false
after new r a b = grind (arith, nat_tests)

pub with_range_is : (low k : ℕ) (new : BoundRange) (rs : List BoundRange) → LieApart low rs → new.lo < new.hi → Fits new rs k → with_range new rs ≡ take k rs ++ new ∷ drop k rs
with_range_is low zero new [] a o f = refl
with_range_is low zero new (r ∷ rs) a o f =
    ap (λ (b : Bool). cond b (new ∷ r ∷ rs) (r ∷ with_range new rs)) (before new r o (f.high r (omega arith)))
with_range_is low (suc k) new [] a o f = absurd (omega (arith, f.within))
with_range_is low (suc k) new (r ∷ rs) a o f =
    ap (λ (b : Bool). cond b (new ∷ r ∷ rs) (r ∷ with_range new rs)) (after new r a.1 (f.low 0 r (omega arith)))
    ∙ ap (λ (l : List BoundRange). r ∷ l) (with_range_is r.hi k new rs a.3 o (fits_next new r rs k f))

pub with_range_apart : (low k : ℕ) (new : BoundRange) (rs : List BoundRange) → LieApart low rs → low ≤ new.lo → new.lo < new.hi → new.hi ≤ PAGE_LIMIT → Fits new rs k → LieApart low (with_range new rs)
with_range_apart low zero new [] a s o l f = (s, o, l, tt)
with_range_apart low zero new (r ∷ rs) a s o l f =
    rw (before new r o (f.high r (omega arith))) (s, o, l, (f.high r (omega arith), a.1, a.2, a.3))
with_range_apart low (suc k) new [] a s o l f = absurd (omega (arith, f.within))
with_range_apart low (suc k) new (r ∷ rs) a s o l f =
    rw (after new r a.1 (f.low 0 r (omega arith)))
    (a.0, a.1, a.2, with_range_apart r.hi k new rs a.3 (f.low 0 r (omega arith)) o l (fits_next new r rs k f))

-- without a slot's ranges the others lie apart
pub without_slot_apart : (low slot : ℕ) (rs : List BoundRange) → LieApart low rs → LieApart low (without_slot slot rs)
without_slot_apart low slot [] a = tt
without_slot_apart low slot (r ∷ rs) a = cases (nat_eq r.slot slot) (without_slot_apart r.hi slot rs a.3)
  where
    cases : (b : Bool) → LieApart r.hi (without_slot slot rs) → LieApart low (cond b (without_slot slot rs) (r ∷ without_slot slot rs))
    cases true h = apart_lower low r.hi (without_slot slot rs) (omega (arith, a.0, a.1)) h
    cases false h = (a.0, a.1, a.2, h)

-- which is what a filter keeps
pub filter_is : (slot : ℕ) (rs : List BoundRange) → filter (λ (r : BoundRange). not (nat_eq r.slot slot)) rs ≡ without_slot slot rs
filter_is slot [] = refl
filter_is slot (r ∷ rs) = cases (nat_eq r.slot slot) (filter_is slot rs)
  where
    cases : (b : Bool) → filter (λ (r : BoundRange). not (nat_eq r.slot slot)) rs ≡ without_slot slot rs → cond (not b) (r ∷ filter (λ (r : BoundRange). not (nat_eq r.slot slot)) rs) (filter (λ (r : BoundRange). not (nat_eq r.slot slot)) rs) ≡ cond b (without_slot slot rs) (r ∷ without_slot slot rs)
    cases true h = h
    cases false h = ap (λ (l : List BoundRange). r ∷ l) h
