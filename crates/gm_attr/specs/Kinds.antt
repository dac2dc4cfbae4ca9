-- The attributes of all pages, as they are seen.
use Rattle.std.specs.Prelude.{◌≡◌, ℕ, ◌+◌, ◌-◌, ◌*◌, ◌/◌, List, Bool, true, false, ◌&&◌, nat_le, is_some}
use Rattle.gm_base.specs.Extent.{Extent, holds}
use Rattle.gm_base.specs.declared.numbers.TheConstants.{BLOCK_PAGES}
use Rattle.gm_base.specs.declared.values.Kind.{Kind}
use Rattle.gm_base.specs.declared.values.Kind.TheVariants.{Private, Shared}
use Rattle.gm_flat.specs.Attribute.{attr_of}
use Rattle.gm_flat.specs.FlatState.{AttrCall}
use Rattle.gm_radix.specs.Entries.{lookup}
use Rattle.gm_ranges.specs.Runs.{turned}

-- the pages at which the attribute changes, from shared on; the tracked blocks; and for how many set calls and blocks there
-- is room
pub record AttrsView : Type 0 where
  pub edges : List ℕ
  pub tracked : List (ℕ × Unit {0})
  pub call_spare : ℕ
  pub block_spare : ℕ

-- the kind that a truth value stands for
abbrev pub kind_if : Bool → Kind
kind_if true = Private
kind_if false = Shared

-- the attribute of a page
abbrev pub kind_at : AttrsView → ℕ → Kind
kind_at v page = kind_if (turned false v.edges page)

-- each page has the attribute that it has after the calls, the latest first
abbrev pub Tells : AttrsView → List AttrCall → Type 0
Tells v calls = (page : ℕ) → kind_at v page ≡ attr_of page calls

-- whether a block is tracked
abbrev pub is_tracked : AttrsView → ℕ → Bool
is_tracked v block = is_some (lookup block v.tracked)

-- the pages of a block
abbrev pub block_extent : ℕ → Extent
block_extent block = record { lo = BLOCK_PAGES * block; hi = BLOCK_PAGES * block + BLOCK_PAGES }

-- whether a block lies wholly in a span
abbrev pub lies_in : Extent → ℕ → Bool
lies_in span block = nat_le span.lo (BLOCK_PAGES * block) && nat_le (BLOCK_PAGES * block + BLOCK_PAGES) span.hi

-- the first block that begins in a span or after it, and the one after the last that ends in it or before it
abbrev pub first_whole : Extent → ℕ
first_whole span = (span.lo + (BLOCK_PAGES - 1)) / BLOCK_PAGES

abbrev pub end_whole : Extent → ℕ
end_whole span = span.hi / BLOCK_PAGES

-- how many blocks lie wholly in a span
abbrev pub blocks_in : Extent → ℕ
blocks_in span = end_whole span - first_whole span

-- two pages of a block have different kinds
abbrev pub IsMixed : (ℕ → Kind) → ℕ → Type 0
IsMixed kind block = (page : ℕ) × (other : ℕ) × (holds (block_extent block) page ≡ true) × (holds (block_extent block) other ≡ true) × (kind page ≡ Private) × (kind other ≡ Shared)

-- all pages of a block have one kind
abbrev pub IsUniform : (ℕ → Kind) → ℕ → Type 0
IsUniform kind block = (page other : ℕ) → holds (block_extent block) page ≡ true → holds (block_extent block) other ≡ true → kind page ≡ kind other

-- a page of a span hasn't a kind
abbrev pub SomeOther : (ℕ → Kind) → Extent → Kind → Type 0
SomeOther kind span wanted = (page : ℕ) × (holds span page ≡ true) × (kind page ≡ wanted → ⊥)

-- every page of a span has a kind
abbrev pub AllHave : (ℕ → Kind) → Extent → Kind → Type 0
AllHave kind span wanted = (page : ℕ) → holds span page ≡ true → kind page ≡ wanted
