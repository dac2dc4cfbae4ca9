-- The lines of a history as words and fields in turn.
use Rattle.std.specs.Prelude.{ℕ, List, [], ◌∷◌, ◌++◌, Some, None}
use Rattle.std.specs.declared.option.Option.{Option}
use Rattle.gm_history.specs.Fields.{Part, Value, IsRanged, part_text, after}
use Rattle.gm_history.specs.Numerals.{with_got}

-- a word with the field after it
pub data Piece : Type 0 where
  Say : (word : List ℕ) → (part : Part) → Piece

-- a value for each field
abbrev pub Holes : List Piece → Type 0
Holes [] = Unit {0}
Holes (Say word part ∷ pieces) = Value part × Holes pieces

-- the values are within their ranges
abbrev pub AreHolesRanged : (pieces : List Piece) → Holes pieces → Type 0
AreHolesRanged [] h = Unit {0}
AreHolesRanged (Say word part ∷ pieces) h = IsRanged part h.0 × AreHolesRanged pieces h.1

-- the text with these values
abbrev pub weave : (pieces : List Piece) → Holes pieces → List ℕ
weave [] h = []
weave (Say word part ∷ pieces) h = word ++ (part_text part h.0 ++ weave pieces h.1)

-- the values at the front of bytes, with what stands after them
abbrev pub parse : {A : Type 0} → (pieces : List Piece) → List ℕ → (Holes pieces → List ℕ → Option A) → Option A
parse [] bytes next = next tt bytes
parse (Say word part ∷ pieces) bytes next = with_got (after word part bytes) (λ value rest. parse pieces rest (λ h more. next (value, h) more))

-- nothing stands after it
abbrev pub ended : {A : Type 0} → A → List ℕ → Option A
ended value [] = Some value
ended value (b ∷ bytes) = None

-- what a line says whose whole is the text of a pattern
abbrev pub whole : {A : Type 0} → (pieces : List Piece) → (Holes pieces → A) → List ℕ → Option A
whole pieces build line = parse pieces line (λ h rest. ended (build h) rest)
