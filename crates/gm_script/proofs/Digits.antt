-- Digits after a number that is too great.
use Rattle.std.proofs.Common.{◌≡◌, ℕ, ◌+◌, ◌*◌, ◌<◌, ◌≤◌, List, [], ◌∷◌, length, drop, get_or, refl, sym, arith, Option, Some, None, Bool, true, false, ltb, leb, ◌&&◌, cond}
use Rattle.std.proofs.Math.Nat.{le-mul_of_pos_right}
use Rattle.std.proofs.lemmas.List.{drop_more, drop_all}
use Rattle.std.proofs.lemmas.Bool.Decides.{nat_tests}
use Rattle.gm_script.specs.Numbers.{digits_after, digit_on, digit_of, below_of, digits_of, NUMBER_LIMIT}

grown : (base n d limit : ℕ) → 0 < base → limit ≤ n → limit ≤ n * base + d
grown base n d limit h k = omega (arith, le-mul_of_pos_right n h)

not_below : (b : Bool) (o : Option ℕ) → below_of NUMBER_LIMIT o ≡ None → below_of NUMBER_LIMIT (cond b o None) ≡ None
not_below true o h = h
not_below false o h = refl

too_great_on : (base n : ℕ) (o : Option ℕ) (rest : ℕ → Option ℕ) → 0 < base → NUMBER_LIMIT ≤ n → ((m : ℕ) → NUMBER_LIMIT ≤ m → below_of NUMBER_LIMIT (rest m) ≡ None) → below_of NUMBER_LIMIT (digit_on base n o rest) ≡ None
too_great_on base n None rest h k r = refl
too_great_on base n (Some d) rest h k r = not_below (ltb d base) (rest (n * base + d)) (r (n * base + d) (grown base n d NUMBER_LIMIT h k))

-- a number that is too great stays so
pub too_great : (base : ℕ) (xs : List ℕ) → 0 < base → (n : ℕ) → NUMBER_LIMIT ≤ n → below_of NUMBER_LIMIT (digits_after base xs n) ≡ None
too_great base [] h n k = grind (arith, nat_tests)
too_great base (x ∷ xs) h n k = too_great_on base n (digit_of x) (digits_after base xs) h k (too_great base xs h)

-- a number that is refused is too great
refused_great : (n : ℕ) → below_of NUMBER_LIMIT (Some n) ≡ None → NUMBER_LIMIT ≤ n
refused_great n h = grind (arith, nat_tests)

digit_step : (base n v : ℕ) (rest : ℕ → Option ℕ) (o : Option ℕ) → o ≡ Some v → v < base → digit_on base n o rest ≡ rest (n * base + v)
digit_step base n v rest o e h = rw e (grind (arith, nat_tests))

-- one digit more than fits
pub overflowed : (base n v i d : ℕ) (word : List ℕ) → 0 < base → i < length word → digit_of (get_or word i d) ≡ Some v → v < base → below_of NUMBER_LIMIT (Some (n * base + v)) ≡ None → below_of NUMBER_LIMIT (digits_after base (drop i word) n) ≡ None
overflowed base n v i d word p h e k o =
    rw (drop_more word i d h, digit_step base n v (digits_after base (drop (i + 1) word)) (digit_of (get_or word i d)) e k) (too_great base (drop (i + 1) word) p (n * base + v) (refused_great (n * base + v) o))

none_either : (b : Bool) (o : Option ℕ) → o ≡ None → None ≡ cond b o None
none_either true o h = sym h
none_either false o h = refl

pub none_of : (base most : ℕ) (word : List ℕ) → below_of NUMBER_LIMIT (digits_after base word 0) ≡ None → None ≡ digits_of base most word
unfolding digits_of
none_of base most word h = none_either (leb 1 (length word) && leb (length word) most) (below_of NUMBER_LIMIT (digits_after base word 0)) h

some_both : (n : ℕ) (a b c : Bool) → a ≡ true → b ≡ true → c ≡ true → Some n ≡ cond (a && b) (cond c (Some n) None) None
some_both n true true true p q r = refl
some_both n true true false p q r = absurd cc
some_both n true false c p q r = absurd cc
some_both n false b c p q r = absurd cc

-- after the last digit
pub some_of : (base most n i : ℕ) (word : List ℕ) → 1 ≤ length word → length word ≤ most → length word ≤ i → n < NUMBER_LIMIT → below_of NUMBER_LIMIT (digits_after base (drop i word) n) ≡ below_of NUMBER_LIMIT (digits_after base word 0) → Some n ≡ digits_of base most word
unfolding digits_of
some_of base most n i word p q r s inv = rw (← inv, drop_all i word r) (some_both n (leb 1 (length word)) (leb (length word) most) (ltb n NUMBER_LIMIT) (grind (arith, nat_tests)) (grind (arith, nat_tests)) (grind (arith, nat_tests)))
