-- Whether a slot may stand among those of a view.
use Rattle.std.specs.Prelude.{ℕ, ◌+◌, List, Bool, true, false, not, ◌&&◌, nat_lt, nat_le, None, Some}
use Rattle.std.specs.declared.option.Option.{Option}
use Rattle.gm_base.specs.declared.numbers.TheConstants.{SLOT_IDS}
use Rattle.gm_flat.specs.declared.views.SlotView.{SlotView}
use Rattle.gm_flat.specs.Slots.{slot_by_id}
use Rattle.gm_flat.specs.Calls.{meets_slot}
use Rattle.gm_flat.specs.Effects.{U64_LIMIT, dropped}

-- whether there is none
abbrev pub is_absent : Option SlotView → Bool
is_absent None = true
is_absent (Some s) = false

-- whether the id may be, and no slot has it
abbrev pub is_new : ℕ → List SlotView → Bool
is_new id slots = nat_lt id SLOT_IDS && is_absent (slot_by_id slots id)

-- whether so many pages from a base on are one at least, and none is past the last u64
abbrev pub fits_at : ℕ → ℕ → Bool
fits_at base pages = nat_lt 0 pages && nat_le (base + pages) U64_LIMIT

-- whether a slot may stand with the others: its id is new, its pages fit, and it meets none
abbrev pub may_stand : SlotView → List SlotView → Bool
may_stand s slots = (is_new s.id slots && fits_at s.base s.pages) && not (meets_slot s.base s.pages slots)

-- whether the slot is there, its pages fit at the base, and they meet no other
abbrev pub clears : ℕ → ℕ → List SlotView → Option SlotView → Bool
clears id base slots None = false
clears id base slots (Some s) = fits_at base s.pages && not (meets_slot base s.pages (dropped id slots))

-- whether the slot with an id may move to a base
abbrev pub may_move : ℕ → ℕ → List SlotView → Bool
may_move id base slots = clears id base slots (slot_by_id slots id)
