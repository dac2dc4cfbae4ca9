-- Words on slots, for a list of them whose newest one stands first.
use Rattle.std.specs.Prelude.{ℕ, ◌+◌, ◌-◌, List, [], ◌∷◌, Bool, false, ◌&&◌, nat_eq, nat_le, nat_lt, None, Some, if◌then◌else◌}
use Rattle.std.specs.declared.option.Option.{Option}
use Rattle.gm_base.specs.Extent.{Extent}
use Rattle.gm_flat.specs.declared.views.SlotView.{SlotView}

-- whether the guest page is one of the slot's
abbrev pub lies_over : SlotView → ℕ → Bool
lies_over s page = nat_le s.base page && nat_lt page (s.base + s.pages)

-- the guest pages of the slot
abbrev pub slot_span : SlotView → Extent
slot_span s = record { lo = s.base; hi = s.base + s.pages }

-- the user page that a guest page of the slot stands for
abbrev pub user_page_of : SlotView → ℕ → ℕ
user_page_of s page = (s.user + page) - s.base

-- the index of the slot's file that a guest page of the slot stands for
abbrev pub index_of : SlotView → ℕ → ℕ
index_of s page = (s.index + page) - s.base

-- the slot over a page; of several the one added last
abbrev pub slot_over : List SlotView → ℕ → Option SlotView
slot_over [] page = None
slot_over (s ∷ slots) page = if lies_over s page then Some s else slot_over slots page

-- the slot with an id; of several the one added last
abbrev pub slot_by_id : List SlotView → ℕ → Option SlotView
slot_by_id [] id = None
slot_by_id (s ∷ slots) id = if nat_eq s.id id then Some s else slot_by_id slots id

-- whether the file is that one
abbrev pub is_file : Option ℕ → ℕ → Bool
is_file None file = false
is_file (Some n) file = nat_eq n file
