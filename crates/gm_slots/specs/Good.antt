-- What a list of slots keeps.
use Rattle.std.specs.Prelude.{◌≡◌, ◌<◌, List, [], ◌∷◌, false, None}
use Rattle.gm_base.specs.declared.numbers.TheConstants.{SLOT_IDS}
use Rattle.gm_flat.specs.declared.views.SlotView.{SlotView}
use Rattle.gm_flat.specs.Slots.{slot_by_id}
use Rattle.gm_flat.specs.Calls.{meets_slot}

-- no two slots have one id or meet; each has an id that may be and at least one page
abbrev pub Good : List SlotView → Type 0
Good [] = Unit {0}
Good (s ∷ slots) = (slot_by_id slots s.id ≡ None) × (s.id < SLOT_IDS) × (0 < s.pages) × (meets_slot s.base s.pages slots ≡ false) × Good slots
