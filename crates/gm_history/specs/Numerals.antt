-- Decimal numbers without leading zeros at the front of bytes.
use Rattle.std.specs.Prelude.{ℕ, ◌+◌, ◌-◌, ◌*◌, Bool, not, ◌&&◌, ◌||◌, nat_eq, nat_le, nat_lt, List, [], ◌∷◌, length, take, drop, slice_index_or, Some, None, if◌then◌else◌}
use Rattle.std.specs.declared.option.Option.{Option}

-- a value that was read, and what stands after it
pub record Got (A : Type 0) : Type 0 where
  pub value : A
  pub rest : List ℕ

abbrev pub got : {A : Type 0} → A → List ℕ → Got A
got value rest = record { value = value; rest = rest }

-- none where nothing was read
abbrev pub with_got : {A B : Type 0} → Option (Got A) → (A → List ℕ → Option B) → Option B
with_got None k = None
with_got (Some g) k = k g.value g.rest

abbrev pub with_rest : {B : Type 0} → Option (List ℕ) → (List ℕ → Option B) → Option B
with_rest None k = None
with_rest (Some rest) k = k rest

-- numbers end below this, 2^64
abbrev pub NUMBER_LIMIT : ℕ
NUMBER_LIMIT = 18446744073709551616

abbrev pub is_digit : ℕ → Bool
is_digit b = nat_le 48 b && nat_le b 57

-- how many digits stand at the front
abbrev pub digit_count : List ℕ → ℕ
digit_count [] = 0
digit_count (x ∷ xs) = if is_digit x then digit_count xs + 1 else 0

-- the number that digits make after a number
abbrev pub read_on : ℕ → List ℕ → ℕ
read_on n [] = n
read_on n (c ∷ cs) = read_on (10 * n + (c - 48)) cs

-- at least one digit, and no zero before others
abbrev pub is_numeral : List ℕ → Bool
is_numeral ds = not (nat_eq (length ds) 0) && (nat_eq (length ds) 1 || not (nat_eq (slice_index_or ds 0 0) 48))

-- the number of digits, if it is below 2^64
abbrev pub numeral : List ℕ → List ℕ → Option (Got ℕ)
numeral ds rest = if is_numeral ds && nat_lt (read_on 0 ds) NUMBER_LIMIT then Some (got (read_on 0 ds) rest) else None

-- the number at the front of bytes
unfoldable pub number_at : List ℕ → Option (Got ℕ)
number_at bytes = numeral (take (digit_count bytes) bytes) (drop (digit_count bytes) bytes)

-- a number below a limit
abbrev pub below : ℕ → Option (Got ℕ) → Option (Got ℕ)
below limit None = None
below limit (Some g) = if nat_lt g.value limit then Some g else None
