-- Where the ranges lie that slots bind of their files.
use Rattle.std.specs.Prelude.{◌≡◌, ℕ, ◌+◌, ◌≤◌, true}
use Rattle.gm_flat.specs.declared.views.SlotView.{SlotView}
use Rattle.gm_flat.specs.Slots.{is_file}
use Rattle.gm_flat.specs.FlatState.{Flat, in_use}
use Rattle.gm_flat.specs.Calls.{file_pages}
use Rattle.gm_laws.specs.SlotsStand.{AllOf, Pairwise, IsBoundApart}

-- the slot's indexes are those of pages of its file
abbrev pub IsInsideFile : Flat → SlotView → Type 0
IsInsideFile f s = (file : ℕ) → is_file s.file file ≡ true → in_use file f.files ≡ true → s.index + s.pages ≤ file_pages file f.files

pub record BoundRanges (f : Flat) : Type 0 where
  pub inside : AllOf (IsInsideFile f) f.slots
  pub apart : Pairwise IsBoundApart f.slots
