-- Sets of numbers that words hold.
use Rattle.std.proofs.Common.{◌≡◌, ◌≢◌, ℕ, ◌+◌, ◌-◌, ◌*◌, ◌/◌, ◌%◌, ◌^◌, ◌<◌, ◌≤◌, List, [], ◌∷◌, ◌++◌, length, get_or, Bool, true, false, cond, eqb, ltb, eqb-true, ltb-true, ltb-false, sym, ◌∙◌, ap, arith, ◌⊎◌, inl, inr}
use Rattle.std.proofs.lemmas.Bool.Decides.{nat_tests}
use Rattle.std.proofs.lemmas.Bool.{cases_eq, cases_lt}
use Rattle.std.proofs.lemmas.List.{get_or_past, get_or_append_left, get_or_at, length_push}
use Rattle.std.proofs.lemmas.Nat.{one_shl}
use Rattle.std.proofs.lemmas.Nat.Bits.{bit_at-zero, bit_at_ones, bit_at_ones_above, same_from_bits_below}
use Rattle.std.specs.Int.{bit_at}
use Rattle.gm_pool.specs.Bits.{has_bit, bit_in, Heads, HasRun}

-- a word with a bit isn't 0
pub bit_some : (word bit : ℕ) → has_bit word bit ≡ true → ltb 0 word ≡ true
bit_some word bit h = by_word (cases_eq word 0)
  where
    none : word ≡ 0 → bit_at 0 bit ≡ bit_at 0 bit + 1
    none e = omega (arith, eqb-true (bit_at word bit) 1 h, ap (λ w. bit_at w bit) e, bit_at-zero bit)

    by_word : ((word ≡ 0) ⊎ (word ≢ 0)) → ltb 0 word ≡ true
    by_word (inl e) = absurd (omega (arith, none e))
    by_word (inr ne) = some word ne
      where
        some : (word : ℕ) → word ≢ 0 → ltb 0 word ≡ true
        some word ne = grind (arith, nat_tests)

at_number : (value old : Bool) (n : ℕ) → cond (eqb n n) value old ≡ value
at_number value old n = grind (arith, nat_tests)

at_other : (value old : Bool) (other n : ℕ) → other ≢ n → cond (eqb other n) value old ≡ old
at_other value old other n ne = grind (arith, nat_tests)

-- the heads after a number is added
pub heads_added : (old new heads next : List ℕ) (n : ℕ) → Heads old heads → ((m : ℕ) → bit_in new m ≡ cond (eqb m n) true (bit_in old m)) → ((w : ℕ) → w ≢ n / 64 → get_or new w 0 ≡ get_or old w 0) → ((m : ℕ) → bit_in next m ≡ cond (eqb m (n / 64)) true (bit_in heads m)) → Heads new next
heads_added old new heads next n h numbers words added w = by_word (cases_eq w (n / 64))
  where
    by_word : ((w ≡ n / 64) ⊎ (w ≢ n / 64)) → bit_in next w ≡ ltb 0 (get_or new w 0)
    by_word (inl e) =
        ap (λ m. bit_in next m) e
        ∙ (added (n / 64) ∙ (at_number true (bit_in heads (n / 64)) (n / 64)
        ∙ (sym (bit_some (get_or new (n / 64) 0) (n % 64) (numbers n ∙ at_number true (bit_in old n) n)) ∙ ap (λ m. ltb 0 (get_or new m 0)) (sym e))))
    by_word (inr ne) =
        added w ∙ (at_other true (bit_in heads w) w (n / 64) ne ∙ (h w ∙ ap (λ v. ltb 0 v) (sym (words w ne))))

-- the heads after a number is taken out, where its word is 0 then
pub heads_emptied : (old new heads next : List ℕ) (n : ℕ) → Heads old heads → ((w : ℕ) → w ≢ n / 64 → get_or new w 0 ≡ get_or old w 0) → ((m : ℕ) → bit_in next m ≡ cond (eqb m (n / 64)) false (bit_in heads m)) → get_or new (n / 64) 0 ≡ 0 → Heads new next
heads_emptied old new heads next n h words removed zero w = by_word (cases_eq w (n / 64))
  where
    by_word : ((w ≡ n / 64) ⊎ (w ≢ n / 64)) → bit_in next w ≡ ltb 0 (get_or new w 0)
    by_word (inl e) =
        ap (λ m. bit_in next m) e
        ∙ (removed (n / 64) ∙ (at_number false (bit_in heads (n / 64)) (n / 64)
        ∙ (sym (ap (λ v. ltb 0 v) zero) ∙ ap (λ m. ltb 0 (get_or new m 0)) (sym e))))
    by_word (inr ne) =
        removed w ∙ (at_other false (bit_in heads w) w (n / 64) ne ∙ (h w ∙ ap (λ v. ltb 0 v) (sym (words w ne))))

-- and where its word isn't 0
pub heads_kept : (old new heads : List ℕ) (n : ℕ) → Heads old heads → bit_in old n ≡ true → ((w : ℕ) → w ≢ n / 64 → get_or new w 0 ≡ get_or old w 0) → get_or new (n / 64) 0 ≢ 0 → Heads new heads
heads_kept old new heads n h was words some w = by_word (cases_eq w (n / 64))
  where
    positive : (v : ℕ) → v ≢ 0 → ltb 0 v ≡ true
    positive v ne = grind (arith, nat_tests)

    by_word : ((w ≡ n / 64) ⊎ (w ≢ n / 64)) → bit_in heads w ≡ ltb 0 (get_or new w 0)
    by_word (inl e) =
        ap (λ m. bit_in heads m) e
        ∙ (h (n / 64) ∙ (bit_some (get_or old (n / 64) 0) (n % 64) was
        ∙ (sym (positive (get_or new (n / 64) 0) some) ∙ ap (λ m. ltb 0 (get_or new m 0)) (sym e))))
    by_word (inr ne) = h w ∙ ap (λ v. ltb 0 v) (sym (words w ne))

-- a number of the set lies within the words
pub in_words : (words : List ℕ) (n : ℕ) → bit_in words n ≡ true → n / 64 < length words
in_words words n h = by_length (cases_lt (n / 64) (length words))
  where
    by_length : ((n / 64 < length words) ⊎ (length words ≤ n / 64)) → n / 64 < length words
    by_length (inl l) = l
    by_length (inr past) = absurd (omega (arith, ltb-true 0 (get_or words (n / 64) 0) (bit_some (get_or words (n / 64) 0) (n % 64) h), get_or_past words (n / 64) 0 past))

at_place : (words : List ℕ) (w t : ℕ) → t < 64 → bit_in words (w * 64 + t) ≡ has_bit (get_or words w 0) t
at_place words w t l =
    ap (λ n. has_bit (get_or words n 0) ((w * 64 + t) % 64)) quotient ∙ ap (λ n. has_bit (get_or words w 0) n) remainder
  where
    quotient : (w * 64 + t) / 64 ≡ w
    quotient = omega arith

    remainder : (w * 64 + t) % 64 ≡ t
    remainder = omega arith

-- the word that a head names isn't 0
pub head_word : (words heads : List ℕ) (head t : ℕ) → Heads words heads → t < 64 → has_bit (get_or heads head 0) t ≡ true → (0 < get_or words (head * 64 + t) 0) × (head * 64 + t < length words)
head_word words heads head t h l e = (some, within (cases_lt (head * 64 + t) (length words)))
  where
    some : 0 < get_or words (head * 64 + t) 0
    some = ltb-true 0 (get_or words (head * 64 + t) 0) (sym (h (head * 64 + t)) ∙ (at_place heads head t l ∙ e))

    within : ((head * 64 + t < length words) ⊎ (length words ≤ head * 64 + t)) → head * 64 + t < length words
    within (inl less) = less
    within (inr past) = absurd (omega (arith, some, get_or_past words (head * 64 + t) 0 past))

no_bit : (word bit : ℕ) → word ≡ 0 → has_bit word bit ≡ false
no_bit word bit e = ap (λ w. has_bit w bit) e ∙ ap (λ b. eqb b 1) (bit_at-zero bit)

-- a number whose word has no head isn't in the set
pub headless : (words heads : List ℕ) (n : ℕ) → Heads words heads → bit_in heads (n / 64) ≡ false → bit_in words n ≡ false
headless words heads n h e = no_bit (get_or words (n / 64) 0) (n % 64) (zero (get_or words (n / 64) 0) (sym (h (n / 64)) ∙ e))
  where
    zero : (word : ℕ) → ltb 0 word ≡ false → word ≡ 0
    zero word e = omega (arith, ltb-false 0 word e)

-- a number before the first bit of the first word isn't in the set
pub before_lowest : (words heads : List ℕ) (head t low n : ℕ) → Heads words heads → t < 64 → low < 64 → ((w : ℕ) → w < head → get_or heads w 0 ≡ 0) → ((b : ℕ) → b < t → has_bit (get_or heads head 0) b ≡ false) → ((b : ℕ) → b < low → has_bit (get_or words (head * 64 + t) 0) b ≡ false) → n < (head * 64 + t) * 64 + low → bit_in words n ≡ false
before_lowest words heads head t low n h l m empty heads_low words_low less = by_word (cases_lt (n / 64) (head * 64 + t))
  where
    by_head : ((n / 64 / 64 < head) ⊎ (head ≤ n / 64 / 64)) → n / 64 < head * 64 + t → bit_in heads (n / 64) ≡ false
    by_head (inl earlier) same = no_bit (get_or heads (n / 64 / 64) 0) (n / 64 % 64) (empty (n / 64 / 64) earlier)
    by_head (inr here) same =
        ap (λ w. has_bit (get_or heads w 0) (n / 64 % 64)) (omega arith) ∙ heads_low (n / 64 % 64) (omega arith)

    by_word : ((n / 64 < head * 64 + t) ⊎ (head * 64 + t ≤ n / 64)) → bit_in words n ≡ false
    by_word (inl earlier) = headless words heads n h (by_head (cases_lt (n / 64 / 64) head) earlier)
    by_word (inr here) =
        ap (λ w. has_bit (get_or words w 0) (n % 64)) (omega arith) ∙ words_low (n % 64) (omega arith)

-- a word with its low bits set
low_bits : (rest bit : ℕ) → has_bit (2 ^ rest - 1) bit ≡ ltb bit rest
low_bits rest bit = side (cases_lt bit rest)
  where
    below : bit < rest → ltb bit rest ≡ true
    below h = grind (arith, nat_tests)

    above : rest ≤ bit → ltb bit rest ≡ false
    above h = grind (arith, nat_tests)

    side : ((bit < rest) ⊎ (rest ≤ bit)) → has_bit (2 ^ rest - 1) bit ≡ ltb bit rest
    side (inl h) = ap (λ b. eqb b 1) (bit_at_ones rest bit h) ∙ sym (below h)
    side (inr h) = ap (λ b. eqb b 1) (bit_at_ones_above rest bit h) ∙ sym (above h)

-- words that are full up to one, which has its low bits set
pub words_below : (words : List ℕ) (whole rest size number : ℕ) → ((w : ℕ) → w < whole → get_or words w 0 ≡ 2 ^ 64 - 1) → get_or words whole 0 ≡ 2 ^ rest - 1 → length words ≤ whole + 1 → rest < 64 → size ≡ 64 * whole + rest → bit_in words number ≡ ltb number size
words_below words whole rest size number full last long h size_is = side (cases_lt (number / 64) whole) (cases_lt whole (number / 64))
  where
    small : number < size → ltb number size ≡ true
    small h = grind (arith, nat_tests)

    large : size ≤ number → ltb number size ≡ false
    large h = grind (arith, nat_tests)

    same : number / 64 ≡ whole → ltb (number % 64) rest ≡ ltb number size
    same e = by_test (cases_lt (number % 64) rest)
      where
        low : number % 64 < rest → ltb (number % 64) rest ≡ true
        low h = grind (arith, nat_tests)

        high : rest ≤ number % 64 → ltb (number % 64) rest ≡ false
        high h = grind (arith, nat_tests)

        by_test : ((number % 64 < rest) ⊎ (rest ≤ number % 64)) → ltb (number % 64) rest ≡ ltb number size
        by_test (inl h) = low h ∙ sym (small (omega arith))
        by_test (inr h) = high h ∙ sym (large (omega arith))

    side : ((number / 64 < whole) ⊎ (whole ≤ number / 64)) → ((whole < number / 64) ⊎ (number / 64 ≤ whole)) → bit_in words number ≡ ltb number size
    side (inl before) other =
        ap (λ w. has_bit w (number % 64)) (full (number / 64) before)
        ∙ (ap (λ b. eqb b 1) (bit_at_ones 64 (number % 64) (omega arith)) ∙ sym (small (omega arith)))
    side (inr from) (inl after) =
        no_bit (get_or words (number / 64) 0) (number % 64) (get_or_past words (number / 64) 0 (omega arith)) ∙ sym (large (omega arith))
    side (inr from) (inr to) =
        let here : number / 64 ≡ whole = omega arith in
        ap (λ n. has_bit (get_or words n 0) (number % 64)) here ∙ (ap (λ w. has_bit w (number % 64)) last ∙ (low_bits rest (number % 64) ∙ same here))

-- no word of them is 0
pub words_some : (words : List ℕ) (whole rest word : ℕ) → ((w : ℕ) → w < whole → get_or words w 0 ≡ 2 ^ 64 - 1) → get_or words whole 0 ≡ 2 ^ rest - 1 → length words ≤ whole + 1 → (whole < length words → 0 < rest) → ltb 0 (get_or words word 0) ≡ ltb word (length words)
words_some words whole rest word full last long some = side (cases_lt word (length words)) (cases_lt word whole)
  where
    small : word < length words → ltb word (length words) ≡ true
    small h = grind (arith, nat_tests)

    large : length words ≤ word → ltb word (length words) ≡ false
    large h = grind (arith, nat_tests)

    none : (w : ℕ) → w ≡ 0 → ltb 0 w ≡ false
    none w e = grind (arith, nat_tests)

    side : ((word < length words) ⊎ (length words ≤ word)) → ((word < whole) ⊎ (whole ≤ word)) → ltb 0 (get_or words word 0) ≡ ltb word (length words)
    side (inr past) other = none (get_or words word 0) (get_or_past words word 0 past) ∙ sym (large past)
    side (inl within) (inl before) = ap (λ w. ltb 0 w) (full word before) ∙ sym (small within)
    side (inl within) (inr from) =
        let here : word ≡ whole = omega arith in
        bit_some (get_or words word 0) 0 (ap (λ n. has_bit (get_or words n 0) 0) here ∙ (ap (λ w. has_bit w 0) last ∙ ap (λ b. eqb b 1) (bit_at_ones rest 0 (some (omega arith))))) ∙ sym (small within)

-- a bit pushed to full words
pub pushed_full : (words : List ℕ) (whole mask w : ℕ) → ((w : ℕ) → w < whole → get_or words w 0 ≡ 2 ^ 64 - 1) → length words ≡ whole → w < whole → get_or (words ++ mask ∷ []) w 0 ≡ 2 ^ 64 - 1
pushed_full words whole mask w full long h = get_or_append_left words (mask ∷ []) 0 w (omega arith) ∙ full w h

pub pushed_last : (words : List ℕ) (whole rest : ℕ) → length words ≡ whole → rest < 64 → get_or (words ++ (1 * 2 ^ rest % 18446744073709551616 - 1) ∷ []) whole 0 ≡ 2 ^ rest - 1
pushed_last words whole rest long h = get_or_at words (1 * 2 ^ rest % 18446744073709551616 - 1) [] 0 whole long ∙ ap (λ n. n - 1) (one_shl rest 64 h)

-- full words hold all their numbers
pub run_of_full : (words : List ℕ) (first count : ℕ) → ((k : ℕ) → k < count → get_or words (first + k) 0 ≡ 2 ^ 64 - 1) → HasRun words (64 * first) (64 * count)
run_of_full words first count full k h =
    ap (λ w. has_bit w ((64 * first + k) % 64)) (ap (λ n. get_or words n 0) place ∙ full (k / 64) (omega arith))
    ∙ ap (λ b. eqb b 1) (bit_at_ones 64 ((64 * first + k) % 64) (omega arith))
  where
    place : (64 * first + k) / 64 ≡ first + k / 64
    place = omega arith

-- and a word that holds all its numbers is full
pub full_of_run : (words : List ℕ) (first count k : ℕ) → ((w : ℕ) → get_or words w 0 < 2 ^ 64) → HasRun words (64 * first) (64 * count) → k < count → get_or words (first + k) 0 ≡ 2 ^ 64 - 1
full_of_run words first count k small run h =
    same_from_bits_below 64 (get_or words (first + k) 0) (2 ^ 64 - 1) (small (first + k)) (omega arith)
    (λ bit l. eqb-true (bit_at (get_or words (first + k) 0) bit) 1 (sym (place bit l) ∙ run (64 * k + bit) (omega arith)) ∙ sym (bit_at_ones 64 bit l))
  where
    place : (bit : ℕ) → bit < 64 → bit_in words (64 * first + (64 * k + bit)) ≡ has_bit (get_or words (first + k) 0) bit
    place bit l =
        let quotient : (64 * first + (64 * k + bit)) / 64 ≡ first + k = omega arith in
        let remainder : (64 * first + (64 * k + bit)) % 64 ≡ bit = omega arith in
        ap (λ n. has_bit (get_or words n 0) ((64 * first + (64 * k + bit)) % 64)) quotient ∙ ap (λ n. has_bit (get_or words (first + k) 0) n) remainder

-- words that are full but for the last, which has its low bits set
pub pushed_below : (full words : List ℕ) (whole rest size number : ℕ) → ((w : ℕ) → w < whole → get_or full w 0 ≡ 2 ^ 64 - 1) → length full ≡ whole → rest < 64 → size ≡ 64 * whole + rest → words ≡ full ++ (1 * 2 ^ rest % 18446744073709551616 - 1) ∷ [] → bit_in words number ≡ ltb number size
pushed_below full words whole rest size number all long h size_is is =
    ap (λ (ws : List ℕ). bit_in ws number) is
    ∙ words_below (full ++ (1 * 2 ^ rest % 18446744073709551616 - 1) ∷ []) whole rest size number (λ w l. pushed_full full whole (1 * 2 ^ rest % 18446744073709551616 - 1) w all long l) (pushed_last full whole rest long h) (omega (arith, length_push full (1 * 2 ^ rest % 18446744073709551616 - 1))) h size_is

pub pushed_some : (full words : List ℕ) (whole rest word : ℕ) → ((w : ℕ) → w < whole → get_or full w 0 ≡ 2 ^ 64 - 1) → length full ≡ whole → rest < 64 → 0 < rest → words ≡ full ++ (1 * 2 ^ rest % 18446744073709551616 - 1) ∷ [] → ltb 0 (get_or words word 0) ≡ ltb word (length words)
pushed_some full words whole rest word all long h some is =
    ap (λ (ws : List ℕ). ltb 0 (get_or ws word 0)) is
    ∙ (words_some (full ++ (1 * 2 ^ rest % 18446744073709551616 - 1) ∷ []) whole rest word (λ w l. pushed_full full whole (1 * 2 ^ rest % 18446744073709551616 - 1) w all long l) (pushed_last full whole rest long h) (omega (arith, length_push full (1 * 2 ^ rest % 18446744073709551616 - 1))) (λ _. some)
    ∙ ap (λ (ws : List ℕ). ltb word (length ws)) (sym is))
