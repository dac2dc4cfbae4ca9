-- *named page*: what slot, binding and attribute name at a guest page. (mmu.c, the fault path.)
use Rattle.std.specs.Prelude.{ℕ, List, Bool, true, not, Some, None, if◌then◌else◌}
use Rattle.std.specs.declared.option.Option.{Option}
use Rattle.gm_base.specs.declared.numbers.TheConstants.{KVM_MEM_READONLY}
use Rattle.gm_base.specs.declared.values.Folio.{Folio}
use Rattle.gm_base.specs.declared.values.Kind.{Kind}
use Rattle.gm_base.specs.declared.values.Kind.TheVariants.{Private, Shared}
use Rattle.gm_flat.specs.declared.effect.Backing.{Backing}
use Rattle.gm_flat.specs.declared.effect.Backing.TheVariants.{User, Folio as InFolio}
use Rattle.gm_flat.specs.declared.views.SlotView.{SlotView}
use Rattle.gm_flat.specs.Slots.{slot_over, user_page_of, index_of}
use Rattle.gm_flat.specs.FlatState.{Flat, Triple, cached, has_flag}
use Rattle.gm_flat.specs.Attribute.{attr_of}

pub record Named : Type 0 where
  pub kind : Kind
  pub backing : Backing
  pub writable : Bool

-- of a page whose attribute is shared: the slot's user page, writable unless the slot is READONLY
abbrev pub user_named : ℕ → Option SlotView → Option Named
user_named page None = None
user_named page (Some s) = Some (record { kind = Shared; backing = User (user_page_of s page); writable = not (has_flag KVM_MEM_READONLY s.flags) })

-- of a page whose attribute is private: the folio cached at its index of the slot's file, writable
abbrev pub folio_named : Option Folio → Option Named
folio_named None = None
folio_named (Some folio) = Some (record { kind = Private; backing = InFolio folio; writable = true })

abbrev pub file_named : ℕ → List Triple → Option ℕ → Option Named
file_named index cache None = None
file_named index cache (Some file) = folio_named (cached file index cache)

abbrev pub private_named : ℕ → List Triple → Option SlotView → Option Named
private_named page cache None = None
private_named page cache (Some s) = file_named (index_of s page) cache s.file

abbrev pub named_by : ℕ → List Triple → Kind → Option SlotView → Option Named
named_by page cache Private slot = private_named page cache slot
named_by page cache Shared slot = user_named page slot

-- the slot, where it isn't marked
abbrev pub unmarked : Option SlotView → Option SlotView
unmarked None = None
unmarked (Some s) = if s.invalid then None else Some s

-- nothing is named where no slot lies or it is marked, nor where the attribute is private and the slot has no file or the
-- index no folio
abbrev pub named : Flat → ℕ → Option Named
named f page = named_by page f.cache (attr_of page f.attrs) (unmarked (slot_over f.slots page))

-- what is named with marks left aside
abbrev pub named_aside : Flat → ℕ → Option Named
named_aside f page = named_by page f.cache (attr_of page f.attrs) (slot_over f.slots page)
