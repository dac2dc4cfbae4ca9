-- The flags of the tracked blocks: which of them are mixed.
use Rattle.std.specs.Prelude.{◌≡◌, ℕ, List, Bool, true, false, Some, None, IsSome}
use Rattle.std.specs.declared.option.Option.{Option}
use Rattle.gm_base.specs.Extent.{holds}
use Rattle.gm_radix.specs.Entries.{lookup}
use Rattle.gm_ranges.specs.Runs.{turned}
use Rattle.gm_attr.specs.Kinds.{block_extent}

-- two pages of the block have different values
abbrev pub Differ : List ℕ → ℕ → Type 0
Differ edges block = (page : ℕ) × (other : ℕ) × (holds (block_extent block) page ≡ true) × (holds (block_extent block) other ≡ true) × (turned false edges page ≡ true) × (turned false edges other ≡ false)

-- all pages of the block have one value
abbrev pub Agree : List ℕ → ℕ → Type 0
Agree edges block = (value : Bool) × ((page : ℕ) → holds (block_extent block) page ≡ true → turned false edges page ≡ value)

-- what an entry of the mixed blocks says of its block, and what its absence says
abbrev pub FlagIs : List ℕ → ℕ → Option (Unit {0}) → Type 0
FlagIs edges block None = Agree edges block
FlagIs edges block (Some flag) = Differ edges block

-- the flag of each tracked block is right
abbrev pub FlagsAre : List ℕ → List (ℕ × Unit {0}) → List (ℕ × Unit {0}) → Type 0
FlagsAre edges tracked mixed = (block : ℕ) → IsSome (lookup block tracked) → FlagIs edges block (lookup block mixed)
