-- Decimal digits are read back as a script's grammar reads them.
use Rattle.std.proofs.Common.{◌≡◌, ℕ, zero, suc, ◌+◌, ◌-◌, ◌*◌, ◌/◌, ◌%◌, ◌^◌, ◌<◌, ◌≤◌, List, [], ◌∷◌, ◌++◌, length, drop, Bool, true, false, not, ◌&&◌, ◌||◌, leb, ltb, eqb, cond, refl, sym, ap, ◌∙◌, arith, Option, Some, None}
use Rattle.std.specs.Fmt.{decimal}
use Rattle.std.proofs.lemmas.Bool.{and_parts}
use Rattle.std.proofs.lemmas.Bool.Decides.{nat_tests}
use Rattle.std.proofs.lemmas.Fmt.{decimal_by_steps, length-decimal-le}
use Rattle.std.proofs.lemmas.List.{drop_all}
use Rattle.gm_script.proofs.Digits.{some_of}
use Rattle.gm_script.specs.Numbers.{below_of, digit_of, digit_on, digits_after, digits_of, number_of, NUMBER_LIMIT}
use Rattle.gm_script.specs.Split.{begins_with}

abbrev pub is_digit : ℕ → Bool
is_digit b = leb 48 b && leb b 57

abbrev pub all_digits : List ℕ → Bool
all_digits [] = true
all_digits (b ∷ bs) = is_digit b && all_digits bs

-- these digits are of the number
pub record IsRead (n : ℕ) (ds : List ℕ) : Type 0 where
  pub value : digits_after 10 ds 0 ≡ Some n
  pub digits : all_digits ds ≡ true
  pub some : 0 < length ds

first_choice : (b : Bool) (x y : Option ℕ) → b ≡ true → cond b x y ≡ x
first_choice true x y e = refl
first_choice false x y e = absurd cc

digit_reads : (d : ℕ) → d < 10 → digit_of (48 + d) ≡ Some d
digit_reads d h = first_choice (leb 48 (48 + d) && leb (48 + d) 57) (Some (48 + d - 48)) _ (grind (arith, nat_tests)) ∙ ap (λ (n : ℕ). Some n) (omega arith)

digit_is : (d : ℕ) → d < 10 → is_digit (48 + d) ≡ true
digit_is d h = grind (arith, nat_tests)

choice_kept : (b : Bool) (x y : Option ℕ) (m r : ℕ) → (x ≡ Some m → y ≡ Some r) → cond b x None ≡ Some m → cond b y None ≡ Some r
choice_kept true x y m r f e = f e
choice_kept false x y m r f e = absurd (clash e)
  where
    clash : {A : Type 0} {v : A} → None ≡ Some v → ⊥
    clash e = cc

digit_kept : (n : ℕ) (o : Option ℕ) (f g : ℕ → Option ℕ) (m r : ℕ) → ((k : ℕ) → f k ≡ Some m → g k ≡ Some r) → digit_on 10 n o f ≡ Some m → digit_on 10 n o g ≡ Some r
digit_kept n None f g m r h e = absurd (clash e)
  where
    clash : {A : Type 0} {v : A} → None ≡ Some v → ⊥
    clash e = cc
digit_kept n (Some v) f g m r h e = choice_kept (ltb v 10) (f (n * 10 + v)) (g (n * 10 + v)) m r (h (n * 10 + v)) e

same_some : (n m : ℕ) → Some n ≡ Some m → n ≡ m
same_some n m e = cc

digit_last : (n d : ℕ) → d < 10 → digits_after 10 ((48 + d) ∷ []) n ≡ Some (n * 10 + d)
digit_last n d h = rw (digit_reads d h) (first_choice (ltb d 10) (Some (n * 10 + d)) None (grind (arith, nat_tests)))

digits_more : (ds : List ℕ) (n m d : ℕ) → d < 10 → digits_after 10 ds n ≡ Some m → digits_after 10 (ds ++ (48 + d) ∷ []) n ≡ Some (m * 10 + d)
digits_more [] n m d h e = digit_last n d h ∙ ap (λ (k : ℕ). Some (k * 10 + d)) (same_some n m e)
digits_more (x ∷ xs) n m d h e = digit_kept n (digit_of x) (digits_after 10 xs) (digits_after 10 (xs ++ (48 + d) ∷ [])) m (m * 10 + d) (λ k f. digits_more xs k m d h f) e

all_more : (ds : List ℕ) (b : ℕ) → all_digits ds ≡ true → is_digit b ≡ true → all_digits (ds ++ b ∷ []) ≡ true
all_more [] b h e = rw e refl
all_more (d ∷ ds) b h e =
    let q = and_parts (is_digit d) (all_digits ds) h in
    rw (q.0, all_more ds b q.1 e) refl

longer : (ds : List ℕ) (b : ℕ) → 0 < length (ds ++ b ∷ [])
longer [] b = omega arith
longer (d ∷ ds) b = omega arith

last_below : (n : ℕ) → n % 10 < 10
last_below n = omega arith

last_back : (n : ℕ) → n / 10 * 10 + n % 10 ≡ n
last_back n = omega arith

one_read : (n : ℕ) → n < 10 → IsRead n ((48 + n) ∷ [])
one_read n h = record { value = digit_last 0 n h ∙ ap (λ (k : ℕ). Some k) (omega arith); digits = rw (digit_is n h) refl; some = omega arith }

more_read : (n : ℕ) (ds : List ℕ) → 10 ≤ n → IsRead (n / 10) ds → IsRead n (ds ++ (48 + n % 10) ∷ [])
more_read n ds h r = record {
  value = digits_more ds 0 (n / 10) (n % 10) (last_below n) r.value ∙ ap (λ (k : ℕ). Some k) (last_back n);
  digits = all_more ds (48 + n % 10) r.digits (digit_is (n % 10) (last_below n));
  some = longer ds (48 + n % 10);
}

pub decimal_read : (n : ℕ) → n < 2 ^ 64 → IsRead n (decimal n)
decimal_read n h = decimal_by_steps (λ (m : ℕ) (ds : List ℕ). IsRead m ds) (λ m lt. one_read m lt) (λ m ds le k. more_read m ds le k) n h

-- so many digits or fewer
pub digits_reads : (most n : ℕ) → n < 2 ^ 64 → length (decimal n) ≤ most → digits_of 10 most (decimal n) ≡ Some n
digits_reads most n h k =
    let r = decimal_read n h in
    sym (some_of 10 most n (length (decimal n)) (decimal n) r.some k (omega arith) h
    (ap (λ (l : List ℕ). below_of NUMBER_LIMIT (digits_after 10 l n)) (drop_all (length (decimal n)) (decimal n) (omega arith)) ∙ ap (λ (o : Option ℕ). below_of NUMBER_LIMIT o) (sym r.value)))

not_letter : (b : ℕ) → is_digit b ≡ true → eqb 120 b ≡ false
not_letter b h = grind (arith, nat_tests)

and_never : (a : Bool) → (a && false) ≡ false
and_never true = refl
and_never false = refl

-- decimal digits aren't taken for hexadecimal ones
not_hexadecimal : (ds : List ℕ) → all_digits ds ≡ true → begins_with (48 ∷ 120 ∷ []) ds ≡ false
unfolding begins_with
not_hexadecimal [] h = refl
not_hexadecimal (d ∷ []) h = and_never (eqb 48 d)
not_hexadecimal (d ∷ e ∷ es) h =
    let q = and_parts (is_digit d) (all_digits (e ∷ es)) h in
    let r = and_parts (is_digit e) (all_digits es) q.1 in
    rw (not_letter e r.0) (and_never (eqb 48 d))

second_choice : (b : Bool) (x y : Option ℕ) → b ≡ false → cond b x y ≡ y
second_choice false x y e = refl
second_choice true x y e = absurd cc

pub number_reads : (n : ℕ) → n < 2 ^ 64 → number_of (decimal n) ≡ Some n
unfolding number_of
number_reads n h =
    second_choice (begins_with (48 ∷ 120 ∷ []) (decimal n)) _ (digits_of 10 20 (decimal n)) (not_hexadecimal (decimal n) (decimal_read n h).digits)
    ∙ digits_reads 20 n h (length-decimal-le 20 n (omega arith) (omega arith) h)
