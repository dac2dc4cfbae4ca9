-- Leaves that don't meet, by rising first page.
use Rattle.std.specs.Prelude.{◌≡◌, ℕ, ◌+◌, ◌*◌, ◌/◌, ◌<◌, ◌≤◌, List, [], ◌∷◌, nat_lt, None, Some, if◌then◌else◌}
use Rattle.std.specs.declared.option.Option.{Option}
use Rattle.gm_base.specs.Extent.{Extent}
use Rattle.gm_base.specs.Leaf.{covers, meets_leaf}
use Rattle.gm_base.specs.Values.{pages_of}
use Rattle.gm_base.specs.declared.leaf.Leaf.{Leaf}
use Rattle.gm_base.specs.declared.numbers.TheConstants.{BLOCK_PAGES, PAGE_LIMIT}
use Rattle.gm_base.specs.declared.values.Level.TheVariants.{Block}
use Rattle.gm_base.specs.declared.values.Place.{Place}
use Rattle.gm_base.specs.declared.values.Place.TheVariants.{User, Frame}

-- the leaves of a table, and for how many installs it has room
pub record Mapped : Type 0 where
  pub leaves : List Leaf
  pub spare : ℕ

-- the pages of a leaf
abbrev pub extent_of : Leaf → Extent
extent_of leaf = record { lo = leaf.first; hi = leaf.first + pages_of leaf.level }

-- the leaf over a page
abbrev pub leaf_over : List Leaf → ℕ → Option Leaf
leaf_over [] page = None
leaf_over (leaf ∷ leaves) page = if covers leaf page then Some leaf else leaf_over leaves page

-- without those that meet a span
abbrev pub apart_from : Extent → List Leaf → List Leaf
apart_from s [] = []
apart_from s (leaf ∷ leaves) = if meets_leaf leaf s then apart_from s leaves else leaf ∷ apart_from s leaves

-- a leaf, unless it meets a span
abbrev pub unless_met : Extent → Option Leaf → Option Leaf
unless_met s None = None
unless_met s (Some leaf) = if meets_leaf leaf s then None else Some leaf

-- with one more in its place
abbrev pub place : Leaf → List Leaf → List Leaf
place leaf [] = leaf ∷ []
place leaf (other ∷ leaves) = if nat_lt leaf.first other.first then leaf ∷ other ∷ leaves else other ∷ place leaf leaves

-- after an install: what it meets goes, and it comes
abbrev pub installed : Leaf → List Leaf → List Leaf
installed leaf leaves = place leaf (apart_from (extent_of leaf) leaves)

-- each leaf begins at or after the end of the one before it, the first at or after lo
abbrev pub LieApart : ℕ → List Leaf → Type 0
LieApart lo [] = Unit {0}
LieApart lo (leaf ∷ leaves) = (lo ≤ leaf.first) × LieApart (leaf.first + pages_of leaf.level) leaves

-- the number of a place
abbrev pub place_number : Place → ℕ
place_number (User page) = page
place_number (Frame frame) = frame

-- a block begins at a multiple of 512
abbrev pub IsAligned : Leaf → Type 0
IsAligned leaf = leaf.level ≡ Block → BLOCK_PAGES * (leaf.first / BLOCK_PAGES) ≡ leaf.first

-- a leaf that may be installed: it begins below 2^52, and a block and its place begin at a multiple of 512
pub record IsInstallable (leaf : Leaf) : Type 0 where
  pub limit : leaf.first < PAGE_LIMIT
  pub aligned : IsAligned leaf
  pub place_aligned : leaf.level ≡ Block → BLOCK_PAGES * (place_number leaf.place / BLOCK_PAGES) ≡ place_number leaf.place
