-- What a fault sees of the slots and attributes of now.
use Rattle.std.specs.Prelude.{ℕ, ◌≤◌}
use Rattle.gm_base.specs.declared.numbers.TheConstants.{PAGE_LIMIT}
use Rattle.gm_flat.specs.Attribute.{attr_of}
use Rattle.gm_flat.specs.FlatState.{Flat}
use Rattle.gm_flat.specs.RightLook.{file_of, id_of}
use Rattle.gm_flat.specs.Slots.{slot_over}
use Rattle.gm_flat.specs.declared.entry.What.{What}
use Rattle.gm_flat.specs.declared.entry.What.TheVariants.{Look}
use Rattle.gm_flat.specs.declared.views.Looked.{Looked}
use Rattle.gm_laws.specs.SlotsStand.{AllOf, SlotsStand}
use Rattle.gm_laws.specs.SmallSlots.{IsSmall}

-- the slot over a page and the page's attribute, at a position
abbrev pub look_at : Flat → ℕ → ℕ → Looked
look_at f page here = record { at = here; slot = slot_over f.slots page; attr = attr_of page f.attrs }

-- the entry of a look
abbrev pub look_entry : Looked → What
look_entry z = Look z.at (id_of z.slot) z.attr (file_of z.slot)

-- what a look wants of slots
pub record CanBeSeen (user : ℕ) (f : Flat) : Type 0 where
  pub user_small : user ≤ PAGE_LIMIT
  pub stand : SlotsStand f
  pub small : AllOf (IsSmall user) f.slots
