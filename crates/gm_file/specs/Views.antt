-- What is seen of a file, and of a list that a cut fills.
use Rattle.std.specs.Prelude.{ℕ, ◌<◌, List, Bool, ◌&&◌, nat_le, nat_lt, None, IsSome, if◌then◌else◌}
use Rattle.std.specs.declared.option.Option.{Option}
use Rattle.gm_base.specs.declared.values.Folio.{Folio}
use Rattle.gm_radix.specs.Entries.{lookup}
use Rattle.gm_file.specs.declared.ranges.BoundRange.{BoundRange}

-- a file: its size in pages, its flag, its cache by rising index, its bound ranges in order of index, and for how many
-- more pages and ranges it has room
pub record FileView : Type 0 where
  pub pages : ℕ
  pub block : Bool
  pub cached : List (ℕ × Folio)
  pub bound : List BoundRange
  pub page_spare : ℕ
  pub bind_spare : ℕ

-- a list of folios with their indexes, and the greatest length that it can have
pub record FolioList : Type 0 where
  pub list : List (ℕ × Folio)
  pub room : ℕ

-- a value, unless its index is at least lo and below hi
abbrev pub unless_within : ℕ → ℕ → ℕ → Option Folio → Option Folio
unless_within lo hi index folio = if nat_le lo index && nat_lt index hi then None else folio

-- every index below this one has a folio
abbrev pub IsFull : ℕ → List (ℕ × Folio) → Type 0
IsFull full cached = (k : ℕ) → k < full → IsSome (lookup k cached)
