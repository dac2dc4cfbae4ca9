-- The first entries of a history.
use Rattle.std.specs.Prelude.{ℕ, List, [], ◌∷◌, length, nat_le, if◌then◌else◌}
use Rattle.gm_flat.specs.declared.entry.Entry.{Entry}

-- the first n entries
abbrev pub front : ℕ → List Entry → List Entry
front n [] = []
front n (e ∷ past) = if nat_le (length (e ∷ past)) n then e ∷ past else front n past
