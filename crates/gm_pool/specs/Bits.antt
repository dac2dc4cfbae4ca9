-- Numbers of 64 bits as a set of numbers.
use Rattle.std.specs.Prelude.{◌≡◌, ℕ, ◌+◌, ◌<◌, ◌/◌, ◌%◌, List, Bool, true, nat_eq, nat_lt, slice_index}
use Rattle.std.specs.Int.{bit_at}

-- whether a bit of a word is set
abbrev pub has_bit : ℕ → ℕ → Bool
has_bit word bit = nat_eq (bit_at word bit) 1

-- whether a number is in the set that words hold, 64 numbers each
abbrev pub bit_in : List ℕ → ℕ → Bool
bit_in words number = has_bit (slice_index words (number / 64)) (number % 64)

-- each bit of the heads says whether the word of that number holds any
abbrev pub Heads : List ℕ → List ℕ → Type 0
Heads words heads = (word : ℕ) → bit_in heads word ≡ nat_lt 0 (slice_index words word)

-- so many numbers from the first on are in the set that words hold
abbrev pub HasRun : List ℕ → ℕ → ℕ → Type 0
HasRun words first count = (k : ℕ) → k < count → bit_in words (first + k) ≡ true
