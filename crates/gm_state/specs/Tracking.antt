-- Which blocks are tracked: where the machine allows blocks, those that lie wholly in a slot.
use Rattle.std.specs.Prelude.{◌≡◌, ℕ, ◌+◌, List, [], ◌∷◌, Bool, false, ◌&&◌, ◌||◌, Some, None}
use Rattle.std.specs.declared.option.Option.{Option}
use Rattle.gm_attr.specs.Kinds.{AttrsView, is_tracked, lies_in}
use Rattle.gm_base.specs.Extent.{Extent}
use Rattle.gm_base.specs.declared.calls.Region.{Region}
use Rattle.gm_flat.specs.Calls.{page_of}
use Rattle.gm_flat.specs.Slots.{slot_span}
use Rattle.gm_flat.specs.declared.views.SlotView.{SlotView}

-- the guest pages of a region
abbrev pub region_span : Region → Extent
region_span r = record { lo = page_of r.gpa; hi = page_of r.gpa + page_of r.size }

-- whether a block lies wholly in the pages of a slot, if there is one
abbrev pub lies_in_slot : Option SlotView → ℕ → Bool
lies_in_slot None block = false
lies_in_slot (Some s) block = lies_in (slot_span s) block

-- whether a block lies wholly in the pages of one of the slots, a marked one too
abbrev pub lies_in_slots : List SlotView → ℕ → Bool
lies_in_slots [] block = false
lies_in_slots (s ∷ slots) block = lies_in (slot_span s) block || lies_in_slots slots block

-- the state knows whether blocks are allowed; where they are, exactly the blocks are tracked that lie wholly in a slot,
-- and else none is
pub record BlocksStand (allowed huge : Bool) (attrs : AttrsView) (slots : List SlotView) : Type 0 where
  pub huge_is : huge ≡ allowed
  pub tracked : (block : ℕ) → is_tracked attrs block ≡ (allowed && lies_in_slots slots block)
