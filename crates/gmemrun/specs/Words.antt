-- The words that the program knows.
use Rattle.std.specs.Prelude.{◌≡◌, ℕ, List, [], ◌∷◌, Some, codes, String, string_bytes}
use Rattle.std.specs.Global.{Global}
use Rattle.gm_script.specs.Numbers.{number_of}

-- one word alone
abbrev pub IsWord : List ℕ → List (String Global) → Type 0
IsWord text [] = ⊥
IsWord text (word ∷ []) = string_bytes word ≡ text
IsWord text (word ∷ more ∷ words) = ⊥

-- the one word `steps`
abbrev pub IsSteps : List (String Global) → Type 0
IsSteps words = IsWord (codes "steps") words

-- the one word `migrate`
abbrev pub IsMigrate : List (String Global) → Type 0
IsMigrate words = IsWord (codes "migrate") words

-- the one word `threads`
abbrev pub IsThreads : List (String Global) → Type 0
IsThreads words = IsWord (codes "threads") words

-- the two words `bulk` and the number, which is written as scripts write theirs, below 2^64
abbrev pub IsBulk : List (String Global) → ℕ → Type 0
IsBulk [] number = ⊥
IsBulk (word ∷ []) number = ⊥
IsBulk (word ∷ digits ∷ []) number = (string_bytes word ≡ codes "bulk") × (number_of (string_bytes digits) ≡ Some number)
IsBulk (word ∷ digits ∷ more ∷ words) number = ⊥
