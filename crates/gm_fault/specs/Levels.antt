-- How large a leaf may be.
use Rattle.std.specs.Prelude.{ℕ, ◌+◌, ◌*◌, ◌/◌, Bool, false, ◌&&◌, not, nat_le, None, Some, if◌then◌else◌}
use Rattle.std.specs.declared.option.Option.{Option}
use Rattle.gm_base.specs.Extent.{Extent, meets}
use Rattle.gm_base.specs.declared.numbers.TheConstants.{BLOCK_PAGES}
use Rattle.gm_base.specs.declared.values.Level.{Level}
use Rattle.gm_base.specs.declared.values.Level.TheVariants.{Small, Block}
use Rattle.gm_flat.specs.Slots.{slot_span}
use Rattle.gm_flat.specs.declared.views.SlotView.{SlotView}

-- the block that holds a page
abbrev pub block_of : ℕ → Extent
block_of page = record { lo = BLOCK_PAGES * (page / BLOCK_PAGES); hi = BLOCK_PAGES * (page / BLOCK_PAGES) + BLOCK_PAGES }

-- whether the first extent holds each page of the second
abbrev pub contains : Extent → Extent → Bool
contains s t = nat_le s.lo t.lo && nat_le t.hi s.hi

-- whether the range of the invalidations in progress meets a block
abbrev pub hull_meets : Option Extent → Extent → Bool
hull_meets None block = false
hull_meets (Some range) block = meets range block

-- a block where the machine allows blocks, the slot covers the whole one, its attributes agree, its backing is whole,
-- and no invalidation in progress meets it; else one page
abbrev pub level_of : Bool → SlotView → ℕ → Bool → Bool → Option Extent → Level
level_of huge slot page mixed whole hull =
    if huge && (contains (slot_span slot) (block_of page) && (not mixed && (whole && not (hull_meets hull (block_of page))))) then Block else Small
