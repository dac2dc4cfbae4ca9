-- What the plan of a call promises of its effect, over the flat state in which it was judged.
use Rattle.std.specs.Prelude.{◌≡◌, ℕ, ◌+◌, ◌*◌, ◌<◌, ◌≤◌, true, false, length, Some, Ok}
use Rattle.gm_base.specs.declared.calls.Ioctl.{Ioctl}
use Rattle.gm_base.specs.declared.calls.Ioctl.TheVariants.{Create, Region2, Attrs, Punch, Close, Poke}
use Rattle.gm_base.specs.declared.calls.Region.{Region}
use Rattle.gm_base.specs.declared.numbers.TheConstants.{PAGE_BYTES, PAGE_LIMIT, PAGE_WORDS}
use Rattle.gm_base.specs.declared.values.Setup.{Setup}
use Rattle.gm_flat.specs.Calls.{Plan, Short, Bracketed, file_pages, has_memfd, meets_bound, new_slot, page_of, wants_file}
use Rattle.gm_flat.specs.FlatState.{Flat, in_use}
use Rattle.gm_flat.specs.Slots.{slot_by_id}
use Rattle.gm_flat.specs.declared.effect.Effect.{Effect}
use Rattle.gm_flat.specs.declared.effect.Effect.TheVariants.{File, Slot, NoSlot, Move, Attr, Cut, Shut, Word}
use Rattle.gm_flat.specs.declared.views.SlotView.{SlotView}
use Rattle.gm_ioctl.specs.InRange.{RegionInRange}
use Rattle.gm_slots.specs.Changes.{change_of}
use Rattle.gm_slots.specs.declared.change.Change.TheVariants as change

-- of a region with a file: the file is in use and has the pages, none of which is bound
pub record BindsFree (r : Region) (f : Flat) : Type 0 where
  pub used : in_use r.fd f.files ≡ true
  pub inside : r.offset + r.size ≤ PAGE_BYTES * file_pages r.fd f.files
  pub unbound : meets_bound r.fd (page_of r.offset) (page_of r.size) f.slots ≡ false

-- a region makes its slot
pub record MakesSlot (s : Setup) (r : Region) (f : Flat) (effect : Effect) : Type 0 where
  pub effect_is : effect ≡ new_slot r (wants_file r)
  pub in_range : RegionInRange s.user r
  pub changes : change_of r f.slots ≡ Ok change.Make
  pub some : 0 < page_of r.size
  pub binds : wants_file r ≡ true → BindsFree r f

-- a region deletes its slot
pub record DropsSlot (s : Setup) (r : Region) (f : Flat) (id : ℕ) : Type 0 where
  pub id_is : id ≡ r.slot
  pub in_range : RegionInRange s.user r
  pub changes : change_of r f.slots ≡ Ok change.Delete

-- a region moves its slot, which has no file
pub record MovesSlot (s : Setup) (r : Region) (f : Flat) (id base : ℕ) : Type 0 where
  pub id_is : id ≡ r.slot
  pub base_is : base ≡ page_of r.gpa
  pub in_range : RegionInRange s.user r
  pub changes : change_of r f.slots ≡ Ok change.Move
  pub plain : (t : SlotView) → slot_by_id f.slots r.slot ≡ Some t → (has_memfd t ≡ false) × (t.pages ≡ page_of r.size)

-- what a call makes, by its kind
abbrev pub Makes : Setup → Ioctl → Flat → Effect → Type 0
Makes s (Create size flags) f (File file pages block) = (file ≡ length f.files) × (pages ≤ PAGE_LIMIT)
Makes s (Region2 r) f (Slot slot base pages user flags file index) = MakesSlot s r f (Slot slot base pages user flags file index)
Makes s (Region2 r) f (NoSlot slot) = DropsSlot s r f slot
Makes s (Region2 r) f (Move slot base) = MovesSlot s r f slot base
Makes s (Attrs address size attributes flags) f (Attr span kind) = Unit {0}
Makes s (Punch fd offset bytes) f (Cut file lo hi) = in_use file f.files ≡ true
Makes s (Close fd) f (Shut file) = in_use file f.files ≡ true
Makes s (Poke address value) f (Word page word written) = (page < s.user) × (word < PAGE_WORDS)
Makes s _ f effect = ⊥

abbrev pub Promised : Setup → Ioctl → Flat → Plan → Type 0
Promised s i f (Short effect answer) = Makes s i f effect
Promised s i f (Bracketed effect spans) = Makes s i f effect
Promised s i f _ = Unit {0}
