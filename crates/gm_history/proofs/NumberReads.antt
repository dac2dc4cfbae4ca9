-- A number is read back from its decimal digits, where no digit follows.
use Rattle.std.proofs.Common.{◌≡◌, ℕ, ◌+◌, ◌^◌, ◌<◌, List, [], ◌∷◌, ◌++◌, length, take, drop, get_or, Bool, true, false, not, ◌&&◌, ◌||◌, cond, eqb, ltb, refl, sym, ◌∙◌, ap, subst, arith, Some, None, add-one}
use Rattle.std.specs.Fmt.{decimal}
use Rattle.std.proofs.lemmas.Bool.{and_parts}
use Rattle.std.proofs.lemmas.Bool.Decides.{nat_tests}
use Rattle.std.proofs.Common.{rules}
use Rattle.std.proofs.lemmas.Fmt.{decimal_digit, decimal_nonempty, first_decimal, digits_decimal, digits_value-decimal, decimal-digits_value}
use Rattle.std.proofs.lemmas.List.{take-append-drop}
use Rattle.std.proofs.lemmas.Str.Parse.{IsNumeralModel, numerals_by_fold}
use Rattle.gm_history.specs.Numerals.{Got, got, is_digit, digit_count, read_on, is_numeral, number_at, NUMBER_LIMIT}

-- the text begins with no digit
abbrev pub NoDigit : List ℕ → Type 0
NoDigit [] = Unit {0}
NoDigit (b ∷ x) = is_digit b ≡ false

abbrev all_digits : List ℕ → Bool
all_digits [] = true
all_digits (d ∷ ds) = is_digit d && all_digits ds

own : IsNumeralModel (λ ds. all_digits ds ≡ true) (read_on 0)
own = numerals_by_fold _ (search rules) read_on (search rules)

front_step : (b : Bool) (x n : ℕ) (xs : List ℕ) → b ≡ is_digit x → all_digits (take n xs) ≡ true → all_digits (take (cond b (n + 1) 0) (x ∷ xs)) ≡ true
front_step true x n xs e h = rw (add-one, ← e) h
front_step false x n xs e h = refl

front_digits : (bytes : List ℕ) → all_digits (take (digit_count bytes) bytes) ≡ true
front_digits [] = refl
front_digits (x ∷ xs) = front_step (is_digit x) x (digit_count xs) xs refl (front_digits xs)

count_digits : (ds x : List ℕ) → all_digits ds ≡ true → NoDigit x → digit_count (ds ++ x) ≡ length ds
count_digits [] [] p h = refl
count_digits [] (b ∷ x) p h = rw h refl
count_digits (d ∷ ds) x p h =
    let q = and_parts (is_digit d) (all_digits ds) p in
    rw (q.0, count_digits ds x q.1 h) (omega arith)

numeral_cases : (a b : Bool) (n : ℕ) (rest : List ℕ) (g : Got ℕ) → cond (a && b) (Some (got n rest)) None ≡ Some g → (a ≡ true) × (b ≡ true) × (got n rest ≡ g)
numeral_cases true true n rest g e = (refl, refl, cc)
numeral_cases true false n rest g e = absurd (clash e)
  where
    clash : {A : Type 0} {v : A} → None ≡ Some v → ⊥
    clash e = cc
numeral_cases false b n rest g e = absurd (clash e)
  where
    clash : {A : Type 0} {v : A} → None ≡ Some v → ⊥
    clash e = cc

numeral_long : (ds : List ℕ) → is_numeral ds ≡ true → 0 < length ds
numeral_long ds h = grind (arith, nat_tests)

numeral_zero : (ds : List ℕ) → is_numeral ds ≡ true → get_or ds 0 0 ≡ 48 → length ds ≡ 1
numeral_zero ds h z = grind (arith, nat_tests)

is_small : (n : ℕ) → ltb n NUMBER_LIMIT ≡ true → n < 2 ^ 64
is_small n h = grind (arith, nat_tests)

pub number_sound : (bytes : List ℕ) (g : Got ℕ) → number_at bytes ≡ Some g → (bytes ≡ decimal g.value ++ g.rest) × (g.value < 2 ^ 64)
unfolding number_at
number_sound bytes g e =
    let ds : List ℕ = take (digit_count bytes) bytes in
    let rest : List ℕ = drop (digit_count bytes) bytes in
    let c = numeral_cases (is_numeral ds) (ltb (read_on 0 ds) NUMBER_LIMIT) (read_on 0 ds) rest g e in
    let small = is_small (read_on 0 ds) c.1 in
    let back : decimal (read_on 0 ds) ≡ ds = decimal-digits_value own ds (front_digits bytes) (numeral_long ds c.0) (numeral_zero ds c.0) small in
    subst (λ (z : Got ℕ). (bytes ≡ decimal z.value ++ z.rest) × (z.value < 2 ^ 64)) c.2
    (sym (take-append-drop (digit_count bytes) bytes) ∙ ap (λ (t : List ℕ). t ++ rest) (sym back), small)

long_is : (n : ℕ) → 0 < n → not (eqb n 0) ≡ true
long_is n h = grind (arith, nat_tests)

is_more : (n : ℕ) → 48 < n → not (eqb n 48) ≡ true
is_more n h = grind (arith, nat_tests)

or_right : (a b : Bool) → b ≡ true → (a || b) ≡ true
or_right true b h = refl
or_right false b h = h

and_both : (a b : Bool) → a ≡ true → b ≡ true → (a && b) ≡ true
and_both true b h k = k
and_both false b h k = h

decimal_numeral : (n : ℕ) → n < 2 ^ 64 → is_numeral (decimal n) ≡ true
decimal_numeral n h =
    elim (eqb n 0) as (λ b. b ≡ eqb n 0 → is_numeral (decimal n) ≡ true) [
      | true ↦ λ e. zero_numeral n (is_zero n e)
      | false ↦ λ e. and_both (not (eqb (length (decimal n)) 0)) _ (long_is (length (decimal n)) (decimal_nonempty n h)) (or_right (eqb (length (decimal n)) 1) (not (eqb (get_or (decimal n) 0 0) 48)) (is_more (get_or (decimal n) 0 0) (first_decimal n (not_zero n e) h)))
    ] refl
  where
    is_zero : (n : ℕ) → true ≡ eqb n 0 → n ≡ 0
    is_zero n e = grind (arith, nat_tests)

    not_zero : (n : ℕ) → false ≡ eqb n 0 → 0 < n
    not_zero n e = grind (arith, nat_tests)

    zero_numeral : (n : ℕ) → n ≡ 0 → is_numeral (decimal n) ≡ true
    zero_numeral n e = subst (λ (l : List ℕ). is_numeral l ≡ true) (sym (decimal_digit n (omega arith))) refl

less_is : (n : ℕ) → n < 2 ^ 64 → ltb n NUMBER_LIMIT ≡ true
less_is n h = grind (arith, nat_tests)

take_front : (ds x : List ℕ) → take (length ds) (ds ++ x) ≡ ds
take_front [] x = refl
take_front (d ∷ ds) x = ap (λ (l : List ℕ). d ∷ l) (take_front ds x)

drop_front : (ds x : List ℕ) → drop (length ds) (ds ++ x) ≡ x
drop_front [] x = refl
drop_front (d ∷ ds) x = drop_front ds x

numeral_is : (a b : Bool) (m n : ℕ) (rest : List ℕ) → a ≡ true → b ≡ true → m ≡ n → cond (a && b) (Some (got m rest)) None ≡ Some (got n rest)
numeral_is true true m n rest p q e = ap (λ (k : ℕ). Some (got k rest)) e
numeral_is true false m n rest p q e = absurd cc
numeral_is false b m n rest p q e = absurd cc

pub number_gives : (n : ℕ) (x : List ℕ) → n < 2 ^ 64 → NoDigit x → number_at (decimal n ++ x) ≡ Some (got n x)
unfolding number_at
number_gives n x h k =
    let c : digit_count (decimal n ++ x) ≡ length (decimal n) = count_digits (decimal n) x (digits_decimal own n h) k in
    let v : read_on 0 (decimal n) ≡ n = digits_value-decimal own n h in
    rw (c, take_front (decimal n) x, drop_front (decimal n) x)
    (numeral_is (is_numeral (decimal n)) (ltb (read_on 0 (decimal n)) NUMBER_LIMIT) (read_on 0 (decimal n)) n x (decimal_numeral n h) (rw v (less_is n h)) v)

-- a decimal has no byte below 48
abbrev pub lacks : ℕ → List ℕ → Bool
lacks b [] = true
lacks b (x ∷ xs) = not (eqb x b) && lacks b xs

digit_is_not : (b x : ℕ) → b < 48 → is_digit x ≡ true → not (eqb x b) ≡ true
digit_is_not b x h e = grind (arith, nat_tests)

digits_lack : (b : ℕ) (ds : List ℕ) → b < 48 → all_digits ds ≡ true → lacks b ds ≡ true
digits_lack b [] h p = refl
digits_lack b (d ∷ ds) h p =
    let q = and_parts (is_digit d) (all_digits ds) p in
    and_both (not (eqb d b)) (lacks b ds) (digit_is_not b d h q.0) (digits_lack b ds h q.1)

pub decimal_lacks : (b n : ℕ) → b < 48 → n < 2 ^ 64 → lacks b (decimal n) ≡ true
decimal_lacks b n h k = digits_lack b (decimal n) h (digits_decimal own n k)

pub lacks_append : (b : ℕ) (x y : List ℕ) → lacks b x ≡ true → lacks b y ≡ true → lacks b (x ++ y) ≡ true
lacks_append b [] y h k = k
lacks_append b (a ∷ x) y h k =
    let q = and_parts (not (eqb a b)) (lacks b x) h in
    and_both (not (eqb a b)) (lacks b (x ++ y)) q.0 (lacks_append b x y q.1 k)
