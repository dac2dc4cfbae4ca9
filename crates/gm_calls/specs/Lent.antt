-- How what is lent stands for a flat state.
use Rattle.std.specs.Prelude.{◌≡◌, ℕ, ◌+◌, ◌<◌, ◌≤◌, List, [], ◌∷◌, true, false, length, Option, Some, None, slice_index_or}
use Rattle.gm_attr.specs.Kinds.{Tells as TellsKinds}
use Rattle.gm_base.specs.declared.numbers.TheConstants.{PAGE_LIMIT, SLOT_IDS}
use Rattle.gm_file.specs.Views.{FileView}
use Rattle.gm_file.specs.declared.ranges.BoundRange.{BoundRange}
use Rattle.gm_flat.specs.Calls.{slots_of_file}
use Rattle.gm_flat.specs.FlatState.{Flat, file_by_number, in_use}
use Rattle.gm_flat.specs.Slots.{slot_by_id}
use Rattle.gm_flat.specs.declared.views.SlotView.{SlotView}
use Rattle.gm_calls.specs.declared.parts.Parts.{Parts}

-- the range of its file that is bound for a slot
abbrev pub range_of : SlotView → BoundRange
range_of s = record { lo = s.index; hi = s.index + s.pages; slot = s.id }

abbrev pub ranges_of : List SlotView → List BoundRange
ranges_of [] = []
ranges_of (s ∷ slots) = range_of s ∷ ranges_of slots

-- a file in use is the one of that number, and its bound ranges are those of the slots that name it, in order of index
pub record FileStands (x : FileView) (file : ℕ) (f : Flat) : Type 0 where
  pub state_is : file_by_number file f.files ≡ Some (record { number = file; pages = x.pages; block = x.block; used = true })
  pub bound_is : x.bound ≡ ranges_of (slots_of_file file f.slots)

-- none stands for a number that names no file in use
abbrev pub FileIs : Option FileView → ℕ → Flat → Type 0
FileIs None file f = in_use file f.files ≡ false
FileIs (Some x) file f = FileStands x file f

-- a slot is the one with its id, has pages, and they and their indexes are below 2^52
pub record IsKnown (slots : List SlotView) (s : SlotView) : Type 0 where
  pub by_id : slot_by_id slots s.id ≡ Some s
  pub some : 0 < s.pages
  pub limit : s.base + s.pages ≤ PAGE_LIMIT
  pub indexes : s.index + s.pages ≤ PAGE_LIMIT

abbrev pub AllKnown : List SlotView → List SlotView → Type 0
AllKnown all [] = Unit {0}
AllKnown all (s ∷ slots) = IsKnown all s × AllKnown all slots

-- the slots, with their marks; each file; how many were made, in use or shut; the attributes; and what is known of slots
pub record LentStand (p : Parts) (f : Flat) : Type 0 where
  pub slots_are : p.slots.now.slots ≡ f.slots
  pub files_are : (file : ℕ) → FileIs (slice_index_or p.files.now file None) file f
  pub made : length p.files.now ≡ length f.files
  pub attrs_are : TellsKinds p.attrs.now f.attrs
  pub known : AllKnown f.slots f.slots
  pub count : length f.slots ≤ SLOT_IDS
