-- Where an access goes, by the slot and the attribute that its fault looked up.
use Rattle.std.specs.Prelude.{◌≡◌, ℕ, ◌+◌, ◌*◌, ◌≤◌, Bool, true, not, nat_eq, bit_and, None, Some, if◌then◌else◌}
use Rattle.std.specs.declared.option.Option.{Option}
use Rattle.gm_base.specs.Aim.{Aim, address_of}
use Rattle.gm_base.specs.Values.{same_kind, permits}
use Rattle.gm_base.specs.declared.values.Kind.{Kind}
use Rattle.gm_base.specs.declared.values.Kind.TheVariants.{Private, Shared}
use Rattle.gm_base.specs.declared.numbers.TheConstants.{KVM_MEM_READONLY, KVM_MEM_GUEST_MEMFD, KVM_MEMORY_EXIT_FLAG_PRIVATE, PAGE_BYTES, PAGE_LIMIT}
use Rattle.gm_flat.specs.RightLook.{is_marked}
use Rattle.gm_flat.specs.Slots.{lies_over, user_page_of, index_of}
use Rattle.gm_flat.specs.declared.effect.Exit as exit
use Rattle.gm_flat.specs.declared.effect.Exit.TheVariants as exits
use Rattle.gm_flat.specs.declared.views.Looked.{Looked}
use Rattle.gm_flat.specs.declared.views.SlotView.{SlotView}
use Rattle.gm_fault.specs.declared.routes.Route.{Route}
use Rattle.gm_fault.specs.declared.routes.Route.TheVariants.{Exit, User, File, Again}

-- the slot lies over the page, and its guest pages, user pages and indexes are below 2^52
pub record IsSlotOver (page : ℕ) (s : SlotView) : Type 0 where
  pub over : lies_over s page ≡ true
  pub base_fits : s.base + s.pages ≤ PAGE_LIMIT
  pub user_fits : s.user + s.pages ≤ PAGE_LIMIT
  pub index_fits : s.index + s.pages ≤ PAGE_LIMIT

-- whether a slot has the flag
abbrev pub has_flag : SlotView → ℕ → Bool
has_flag s flag = not (nat_eq (bit_and s.flags flag) 0)

-- the flags of a memory fault by an access of this kind
abbrev pub fault_flags : Kind → ℕ
fault_flags Private = KVM_MEMORY_EXIT_FLAG_PRIVATE
fault_flags Shared = 0

-- the memory fault of an access: its kind, its page's address and a page's size
abbrev pub memory_fault : Aim → exit.Exit
memory_fault a = exits.Fault (fault_flags a.kind) (PAGE_BYTES * a.page) PAGE_BYTES

-- a private access whose slot has this file: the page of the file, where there is one
abbrev pub route_of_file : Option ℕ → SlotView → Aim → Route
route_of_file None s a = Exit (memory_fault a)
route_of_file (Some file) s a = File file (index_of s a.page)

-- a private access to a private page: the file of the slot over it, where there is a slot with flag 4 and the file is
-- in use; else the memory fault
abbrev pub route_of_private : Option SlotView → Aim → Route
route_of_private None a = Exit (memory_fault a)
route_of_private (Some s) a = if has_flag s KVM_MEM_GUEST_MEMFD then route_of_file s.file s a else Exit (memory_fault a)

-- a shared access to a shared page: the user page of the slot over it; MMIO where there is no slot, and for a write to
-- a read-only one
abbrev pub route_of_shared : Option SlotView → Aim → Route
route_of_shared None a = Exit (exits.Mmio (address_of a))
route_of_shared (Some s) a =
    if permits (not (has_flag s KVM_MEM_READONLY)) a.op then User (user_page_of s a.page) else Exit (exits.Mmio (address_of a))

-- an access whose kind is its page's attribute
abbrev pub route_of_kind : Kind → Option SlotView → Aim → Route
route_of_kind Private slot a = route_of_private slot a
route_of_kind Shared slot a = route_of_shared slot a

-- every access: again where the slot is marked; the memory fault where its kind isn't the attribute; and else by its
-- kind
abbrev pub route_of : Looked → Aim → Route
route_of looked a =
    if is_marked looked.slot then Again
    else if same_kind looked.attr a.kind then route_of_kind a.kind looked.slot a
    else Exit (memory_fault a)
