-- How large a leaf may be, over the state.
use Rattle.std.specs.Prelude.{◌≡◌, ℕ, ◌+◌, ◌<◌, Bool, false, Some}
use Rattle.std.specs.declared.option.Option.{Option}
use Rattle.gm_base.specs.Extent.{Extent}
use Rattle.gm_base.specs.declared.numbers.TheConstants.{BLOCK_PAGES}
use Rattle.gm_base.specs.declared.values.Kind.{Kind}
use Rattle.gm_base.specs.declared.values.Level.{Level}
use Rattle.gm_base.specs.declared.values.Level.TheVariants.{Small, Block}
use Rattle.gm_flat.specs.Attribute.{attr_of}
use Rattle.gm_flat.specs.FlatState.{Flat}
use Rattle.gm_flat.specs.RightLevel.{IsWholeBlock}
use Rattle.gm_flat.specs.Slots.{slot_over}
use Rattle.gm_flat.specs.declared.views.SlotView.{SlotView}

-- a block exactly where the rule of levels says so, over a flat state and the range of the invalidations in progress
abbrev pub IsLevel : Level → Bool → ℕ → Flat → Option Extent → Type 0
IsLevel Block huge page f range = IsWholeBlock huge page f range
IsLevel Small huge page f range = IsWholeBlock huge page f range → ⊥

-- the slot, which isn't marked, lies over each page of the block from this one on, and each has this attribute
pub record LiesUnder (slot : SlotView) (kind : Kind) (first : ℕ) (f : Flat) : Type 0 where
  pub unmarked : slot.invalid ≡ false
  pub over : (k : ℕ) → k < BLOCK_PAGES → slot_over f.slots (first + k) ≡ Some slot
  pub kinds : (k : ℕ) → k < BLOCK_PAGES → attr_of (first + k) f.attrs ≡ kind
