-- Bytes cut at a separator.
use Rattle.std.specs.Prelude.{ℕ, ◌+◌, nat_eq, List, [], ◌∷◌, Some, None, if◌then◌else◌}
use Rattle.std.specs.declared.option.Option.{Option}

-- before the first piece
abbrev pub onto_first : ℕ → List (List ℕ) → List (List ℕ)
onto_first x [] = (x ∷ []) ∷ []
onto_first x (piece ∷ pieces) = (x ∷ piece) ∷ pieces

-- the pieces between the separators
abbrev pub split_at : ℕ → List ℕ → List (List ℕ)
split_at b [] = [] ∷ []
split_at b (x ∷ xs) = if nat_eq x b then [] ∷ split_at b xs else onto_first x (split_at b xs)

-- the length of the first piece
abbrev pub cut_of : ℕ → List ℕ → ℕ
cut_of b [] = 0
cut_of b (x ∷ xs) = if nat_eq x b then 0 else cut_of b xs + 1

-- what stands after a word that the bytes begin with
unfoldable pub strip : List ℕ → List ℕ → Option (List ℕ)
strip [] bytes = Some bytes
strip (w ∷ ws) [] = None
strip (w ∷ ws) (x ∷ xs) = if nat_eq w x then strip ws xs else None

-- what stands after the first piece: the pieces of some bytes, or none
abbrev pub pieces_after : ℕ → Option (List ℕ) → List (List ℕ)
pieces_after b None = []
pieces_after b (Some rest) = split_at b rest
