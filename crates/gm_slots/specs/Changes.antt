-- What a call on a slot does to the slots.
use Rattle.std.specs.Prelude.{◌≡◌, ℕ, ◌<◌, List, ◌∷◌, true, false, ◌||◌, nat_eq, None, Some, Ok, Err, if◌then◌else◌}
use Rattle.std.specs.declared.option.Option.{Option}
use Rattle.std.specs.declared.result.Result.{Result}
use Rattle.gm_base.specs.declared.calls.Region.{Region}
use Rattle.gm_base.specs.declared.numbers.TheConstants.{SLOT_IDS}
use Rattle.gm_base.specs.declared.values.Errno.{Errno}
use Rattle.gm_base.specs.declared.values.Errno.TheVariants.{Exist, Inval}
use Rattle.gm_flat.specs.declared.views.SlotView.{SlotView}
use Rattle.gm_flat.specs.Slots.{slot_by_id}
use Rattle.gm_flat.specs.Effects.{dropped, moved}
use Rattle.gm_flat.specs.Calls.{is_paged, page_of, wants_file, has_memfd, differs, meets_slot}
use Rattle.gm_slots.specs.declared.change.Change.{Change}
use Rattle.gm_slots.specs.declared.change.Change.TheVariants.{Nothing, Make, Delete, Move}

-- the slots, the one added last first, and how often they changed
pub record SlotList : Type 0 where
  pub slots : List SlotView
  pub generation : ℕ

-- the arguments pass the rows that look at no state, as far as the slots rest on them
pub record Passed (r : Region) : Type 0 where
  pub size : is_paged r.size ≡ true
  pub gpa : is_paged r.gpa ≡ true
  pub slot : r.slot < SLOT_IDS

-- the rows for a slot that doesn't exist
abbrev pub new_change : Region → List SlotView → Result Change Errno
new_change r slots =
    if nat_eq r.size 0 then Err Inval
    else if meets_slot (page_of r.gpa) (page_of r.size) slots then Err Exist
    else Ok Make

-- the rows for a slot that exists
abbrev pub old_change : Region → List SlotView → SlotView → Result Change Errno
old_change r slots s =
    if nat_eq r.size 0 then Ok Delete
    else if has_memfd s || wants_file r then Err Inval
    else if differs r s then Err Inval
    else if nat_eq s.base (page_of r.gpa) then Ok Nothing
    else if meets_slot (page_of r.gpa) (page_of r.size) (dropped r.slot slots) then Err Exist
    else Ok Move

abbrev pub change_by : Region → List SlotView → Option SlotView → Result Change Errno
change_by r slots None = new_change r slots
change_by r slots (Some s) = old_change r slots s

-- what the call does to the slots, or its refusal: the rows on missing, unchangeable and overlapping slots, in order
abbrev pub change_of : Region → List SlotView → Result Change Errno
change_of r slots = change_by r slots (slot_by_id slots r.slot)

-- the slot that the call makes
abbrev pub made_slot : Region → SlotView
made_slot r = record {
  id = r.slot;
  base = page_of r.gpa;
  pages = page_of r.size;
  user = page_of r.user;
  flags = r.flags;
  file = if wants_file r then Some r.fd else None;
  index = if wants_file r then page_of r.offset else 0;
  invalid = false;
}

-- the slots after a change
abbrev pub slots_after : Change → Region → List SlotView → List SlotView
slots_after Nothing r slots = slots
slots_after Make r slots = made_slot r ∷ slots
slots_after Delete r slots = dropped r.slot slots
slots_after Move r slots = moved r.slot (page_of r.gpa) slots

-- how much the generation rises by a change
abbrev pub rise_by : Change → ℕ
rise_by Nothing = 0
rise_by Make = 1
rise_by Delete = 1
rise_by Move = 1
