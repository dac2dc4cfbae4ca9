-- What an effect does to the slots and the attribute calls of a view. Both lists have the newest first.
use Rattle.std.specs.Prelude.{◌≡◌, ℕ, List, ◌∷◌, true, false, None, Some, if◌then◌else◌}
use Rattle.std.specs.declared.option.Option.{Option}
use Rattle.gm_flat.specs.declared.effect.Effect.{Effect}
use Rattle.gm_flat.specs.declared.effect.Effect.TheVariants.{Slot, Mark, NoSlot, Move, Attr, Shut}
use Rattle.gm_flat.specs.declared.views.SlotView.{SlotView}
use Rattle.gm_flat.specs.Effects.{apply, dropped, marked, moved, shut_slots, slot_fits}
use Rattle.gm_flat.specs.FlatState.{AttrCall, Flat, was_made}
use Rattle.gm_views.specs.Standing.{may_move, may_stand}

-- the attributes that a view keeps: the calls, and for how many more there is room
pub record AttributesSeen : Type 0 where
  pub calls : List AttrCall
  pub room : ℕ

-- a slot comes in front where it may stand; otherwise nothing changes
abbrev pub slot_added : SlotView → List SlotView → List SlotView
slot_added s slots = if may_stand s slots then s ∷ slots else slots

-- a slot moves where it may; otherwise nothing changes
abbrev pub slot_moved : ℕ → ℕ → List SlotView → List SlotView
slot_moved id base slots = if may_move id base slots then moved id base slots else slots

-- the slot that an effect makes
abbrev pub slot_made : ℕ → ℕ → ℕ → ℕ → ℕ → Option ℕ → ℕ → SlotView
slot_made slot base pages user flags file index = record { id = slot; base = base; pages = pages; user = user; flags = flags; file = file; index = index; invalid = false }

-- the slots after an effect: what the flat state's own words say, where a new slot may stand and one that moves may move,
-- without the flat state's tests
abbrev pub slots_after : Effect → List SlotView → List SlotView
slots_after (Slot slot base pages user flags file index) slots = slot_added (slot_made slot base pages user flags file index) slots
slots_after (Mark slot) slots = marked slot slots
slots_after (NoSlot slot) slots = dropped slot slots
slots_after (Move slot base) slots = slot_moved slot base slots
slots_after (Shut file) slots = shut_slots file slots
slots_after _ slots = slots

-- the attribute calls after an effect
abbrev pub calls_after : Effect → List AttrCall → List AttrCall
calls_after (Attr span kind) calls = record { span = span; kind = kind } ∷ calls
calls_after _ calls = calls

-- the same where there may be no effect
abbrev pub sight_slots : Option Effect → List SlotView → List SlotView
sight_slots None slots = slots
sight_slots (Some effect) slots = slots_after effect slots

abbrev pub sight_calls : Option Effect → List AttrCall → List AttrCall
sight_calls None calls = calls
sight_calls (Some effect) calls = calls_after effect calls

-- a new slot is within its types, and may stand
abbrev pub FindsPlace : SlotView → Flat → Type 0
FindsPlace s f = (slot_fits s ≡ true) × (may_stand s f.slots ≡ true)

-- what the flat state asks of an effect, and that a slot finds room: a new slot finds its place, one that moves may move
-- there, and a file that is shut was made
abbrev pub FindsRoom : Effect → Flat → Type 0
FindsRoom (Slot slot base pages user flags file index) f = FindsPlace (slot_made slot base pages user flags file index) f
FindsRoom (Move slot base) f = may_move slot base f.slots ≡ true
FindsRoom (Shut file) f = was_made file f.files ≡ true
FindsRoom _ f = Unit {0}

-- the slots and the attribute calls of a view go as those of the flat state
pub record FollowsFlat (e : Effect) (f : Flat) : Type 0 where
  pub slots : (apply e f).slots ≡ slots_after e f.slots
  pub calls : (apply e f).attrs ≡ calls_after e f.attrs
