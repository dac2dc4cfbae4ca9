-- How the table keeps its leaves: each under its first page.
use Rattle.std.specs.Prelude.{◌≡◌, ℕ, ◌+◌, ◌≤◌, List, [], ◌∷◌, None, Some, if◌then◌else◌}
use Rattle.std.specs.declared.option.Option.{Option}
use Rattle.gm_base.specs.Leaf.{covers}
use Rattle.gm_base.specs.Values.{pages_of}
use Rattle.gm_base.specs.declared.leaf.Leaf.{Leaf}
use Rattle.gm_table.specs.Leaves.{IsAligned}

-- the leaves of the entries
abbrev pub leaves_of : List (ℕ × Leaf) → List Leaf
leaves_of [] = []
leaves_of (e ∷ entries) = e.1 ∷ leaves_of entries

-- each leaf stands under its first page, a block is aligned, and each begins at or after the end of the one before it
abbrev pub IsKept : ℕ → List (ℕ × Leaf) → Type 0
IsKept lo [] = Unit {0}
IsKept lo (e ∷ entries) = (lo ≤ e.0) × (e.1.first ≡ e.0) × IsAligned e.1 × IsKept (e.0 + pages_of e.1.level) entries

-- a leaf, where it covers the page
abbrev pub covering : ℕ → Option Leaf → Option Leaf
covering page None = None
covering page (Some leaf) = if covers leaf page then Some leaf else None
