-- Room that is kept for pages and bound ranges of files.
use Rattle.std.specs.Prelude.{◌≡◌, ℕ, ◌≤◌, List, Option, Some, None, length}
use Rattle.gm_file.specs.Views.{FileView}
use Rattle.gm_store.specs.Views.{bind_room, file_in, page_room}

-- the file with this much room
abbrev pub with_room : ℕ → ℕ → Option FileView → Option FileView
with_room pages binds None = None
with_room pages binds (Some x) = Some (record x { page_spare = pages; bind_spare = binds })

-- a file is as it was but for its room, which isn't less
pub record RoomKept (old new : Option FileView) : Type 0 where
  pub file_is : new ≡ with_room (page_room new) (bind_room new) old
  pub pages_not_less : page_room old ≤ page_room new
  pub binds_not_less : bind_room old ≤ bind_room new

-- each file is as it was but for its room, which isn't less
pub record RoomsKept (old new : List (Option FileView)) : Type 0 where
  pub count_is : length new ≡ length old
  pub each : (file : ℕ) → RoomKept (file_in old file) (file_in new file)

-- a file in use has room for so many more pages and ranges; a shut one needs none
abbrev pub HasRoom : ℕ → ℕ → Option FileView → Type 0
HasRoom pages binds None = Unit {0}
HasRoom pages binds (Some x) = (pages ≤ x.page_spare) × (binds ≤ x.bind_spare)

-- the same of the file that is named, if one is
abbrev pub HasRoomIn : Option ℕ → ℕ → ℕ → List (Option FileView) → Type 0
HasRoomIn None pages binds files = Unit {0}
HasRoomIn (Some file) pages binds files = HasRoom pages binds (file_in files file)
