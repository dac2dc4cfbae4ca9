-- Ranges of files that are bound for slots.
use Rattle.std.specs.Prelude.{◌≡◌, ℕ, ◌+◌, ◌-◌, List, true, Option, Some, None}
use Rattle.gm_file.specs.Ranges.{with_range, without_slot}
use Rattle.gm_file.specs.Views.{FileView}
use Rattle.gm_flat.specs.Effects.{dropped, slot_fits}
use Rattle.gm_flat.specs.Slots.{slot_by_id}
use Rattle.gm_flat.specs.declared.effect.Effect.{Effect}
use Rattle.gm_flat.specs.declared.effect.Effect.TheVariants.{Slot}
use Rattle.gm_flat.specs.declared.views.SlotView.{SlotView}

-- a slot of the file with this id, whose pages have the indexes from lo on and below hi, and that can be made
pub record IsSlotAt (file lo hi slot : ℕ) (s : SlotView) : Type 0 where
  pub file_is : s.file ≡ Some file
  pub lo_is : s.index ≡ lo
  pub hi_is : s.index + s.pages ≡ hi
  pub id_is : s.id ≡ slot
  pub fits : slot_fits s ≡ true

-- the effect that makes a slot
abbrev pub makes : SlotView → Effect
makes s = Slot s.id s.base s.pages s.user s.flags s.file s.index

-- where the slot of that id is dropped, no other has the id
abbrev pub HasIdAlone : ℕ → List SlotView → Type 0
HasIdAlone slot slots = slot_by_id (dropped slot slots) slot ≡ None

-- the file with a range more, in its room
abbrev pub with_bound : Option FileView → ℕ → ℕ → ℕ → Option FileView
with_bound None lo hi slot = None
with_bound (Some x) lo hi slot = Some (record x { bound = with_range (record { lo = lo; hi = hi; slot = slot }) x.bound; bind_spare = x.bind_spare - 1 })

-- the file without the ranges of a slot
abbrev pub without_bound : Option FileView → ℕ → Option FileView
without_bound None slot = None
without_bound (Some x) slot = Some (record x { bound = without_slot slot x.bound })
