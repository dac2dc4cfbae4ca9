-- The calls: what each does, over the flat state at its Judge. The rows stand in the order in which they are tried.
-- (kvm_main.c, kvm_vm_ioctl_set_mem_attributes and __kvm_set_memory_region; guest_memfd.c, fallocate and bind. The order of
-- the refusals, close, populate, poke and peek are this project's own.)
use Rattle.std.specs.Prelude.{ℕ, zero, suc, ◌+◌, ◌-◌, ◌*◌, ◌/◌, ◌%◌, List, [], ◌∷◌, Bool, true, false, not, ◌&&◌, ◌||◌, length, min, max, Some, None, nat_eq, nat_le, nat_lt, if◌then◌else◌}
use Rattle.std.specs.declared.option.Option.{Option}
use Rattle.gm_base.specs.Extent.{Extent, meets}
use Rattle.gm_base.specs.Values.{same_kind}
use Rattle.gm_base.specs.declared.calls.Ioctl.{Ioctl}
use Rattle.gm_base.specs.declared.calls.Ioctl.TheVariants.{Create, Region2, Attrs, Punch, Allocate, Close, Populate, Poke, Peek}
use Rattle.gm_base.specs.declared.calls.Region.{Region}
use Rattle.gm_base.specs.declared.numbers.TheConstants.{PAGE_BYTES, WORD_BYTES, SLOT_IDS, BLOCK, KVM_MEM_READONLY, KVM_MEM_GUEST_MEMFD, KVM_MEMORY_ATTRIBUTE_PRIVATE}
use Rattle.gm_base.specs.declared.values.Setup.{Setup}
use Rattle.gm_base.specs.declared.values.Errno.{Errno}
use Rattle.gm_base.specs.declared.values.Errno.TheVariants.{BadF, Fault, Exist, Inval}
use Rattle.gm_base.specs.declared.values.Kind.{Kind}
use Rattle.gm_base.specs.declared.values.Kind.TheVariants.{Private, Shared}
use Rattle.gm_flat.specs.declared.effect.Effect.{Effect}
use Rattle.gm_flat.specs.declared.effect.Effect.TheVariants.{File, Slot, Mark, NoSlot, Move, Attr, Cut, Shut, Word}
use Rattle.gm_flat.specs.declared.views.SlotView.{SlotView}
use Rattle.gm_flat.specs.Slots.{slot_over, slot_by_id, slot_span, index_of, is_file}
use Rattle.gm_flat.specs.FlatState.{Flat, FileState, AttrCall, in_use, has_flag}
use Rattle.gm_flat.specs.Effects.{U64_LIMIT, dropped}
use Rattle.gm_flat.specs.Attribute.{attr_of}

-- pages that a call adds one after another: the file, the first index and the count; for a population also the first
-- guest page and the first user page
pub record PagePlan : Type 0 where
  pub file : ℕ
  pub index : ℕ
  pub pages : ℕ
  pub base : Option ℕ
  pub copy : Option ℕ

-- what a call does: it is refused, changes nothing and answers, answers a word of user memory, makes a change at once and
-- answers, makes its change in a bracket over spans, or adds pages
pub data Plan : Type 0 where
  Refused : (errno : Errno) → Plan
  Same : (answer : ℕ) → Plan
  Reads : (page : ℕ) → (word : ℕ) → Plan
  Short : (effect : Effect) → (answer : ℕ) → Plan
  Bracketed : (effect : Effect) → (spans : List Extent) → Plan
  Paged : (pages : PagePlan) → Plan

-- the mark of its slot with which a deletion or a move begins: faults that find it retry
abbrev pub mark_of : Effect → Option Effect
mark_of (NoSlot slot) = Some (Mark slot)
mark_of (Move slot base) = Some (Mark slot)
mark_of _ = None

-- a file's size in bytes, and offsets in a file, end below this, 2^63
abbrev pub OFFSET_LIMIT : ℕ
OFFSET_LIMIT = 9223372036854775808

abbrev pub is_paged : ℕ → Bool
is_paged n = nat_eq (n % PAGE_BYTES) 0

abbrev pub page_of : ℕ → ℕ
page_of n = n / PAGE_BYTES

-- the bytes of user memory
abbrev pub user_bytes : Setup → ℕ
user_bytes s = PAGE_BYTES * s.user

abbrev pub file_pages : ℕ → List FileState → ℕ
file_pages file [] = 0
file_pages file (f ∷ files) = if nat_eq f.number file then f.pages else file_pages file files

-- create

abbrev pub create_plan : ℕ → ℕ → Flat → Plan
create_plan size flags f =
    if nat_eq size 0 || (nat_le OFFSET_LIMIT size || not (is_paged size)) then Refused Inval
    else if not (nat_eq flags 0 || nat_eq flags BLOCK) then Refused Inval
    else Short (File (length f.files) (page_of size) (nat_eq flags BLOCK)) (length f.files)

-- region

abbrev pub wants_file : Region → Bool
wants_file r = has_flag KVM_MEM_GUEST_MEMFD r.flags

abbrev pub has_memfd : SlotView → Bool
has_memfd s = has_flag KVM_MEM_GUEST_MEMFD s.flags

abbrev pub is_readonly : ℕ → Bool
is_readonly flags = has_flag KVM_MEM_READONLY flags

-- whether `pages` pages from `base` on meet a slot
abbrev pub meets_slot : ℕ → ℕ → List SlotView → Bool
meets_slot base pages [] = false
meets_slot base pages (s ∷ slots) = meets (record { lo = base; hi = base + pages }) (slot_span s) || meets_slot base pages slots

-- the indexes of a slot in its file
abbrev pub bound_range : SlotView → Extent
bound_range s = record { lo = s.index; hi = s.index + s.pages }

-- whether a range of a file meets one that is bound
abbrev pub meets_bound : ℕ → ℕ → ℕ → List SlotView → Bool
meets_bound file index pages [] = false
meets_bound file index pages (s ∷ slots) = (is_file s.file file && meets (record { lo = index; hi = index + pages }) (bound_range s)) || meets_bound file index pages slots

abbrev pub new_slot : Region → Bool → Effect
new_slot r true = Slot r.slot (page_of r.gpa) (page_of r.size) (page_of r.user) r.flags (Some r.fd) (page_of r.offset)
new_slot r false = Slot r.slot (page_of r.gpa) (page_of r.size) (page_of r.user) r.flags None 0

-- the rows for a slot that doesn't exist, of a size that isn't 0
abbrev pub make_plan : Region → Flat → Plan
make_plan r f =
    if meets_slot (page_of r.gpa) (page_of r.size) f.slots then Refused Exist
    else if wants_file r && not (in_use r.fd f.files) then Refused BadF
    else if wants_file r && nat_lt (PAGE_BYTES * file_pages r.fd f.files) (r.offset + r.size) then Refused Inval
    else if wants_file r && meets_bound r.fd (page_of r.offset) (page_of r.size) f.slots then Refused Inval
    else Short (new_slot r (wants_file r)) 0

abbrev pub same_truth : Bool → Bool → Bool
same_truth true b = b
same_truth false b = not b

-- whether USER, the count of pages or READONLY differs
abbrev pub differs : Region → SlotView → Bool
differs r s = not (nat_eq s.user (page_of r.user)) || (not (nat_eq s.pages (page_of r.size)) || not (same_truth (is_readonly s.flags) (is_readonly r.flags)))

-- the rows for a slot that exists
abbrev pub old_plan : Region → Flat → SlotView → Plan
old_plan r f s =
    if nat_eq r.size 0 then Bracketed (NoSlot r.slot) (slot_span s ∷ [])
    else if has_memfd s || wants_file r then Refused Inval
    else if differs r s then Refused Inval
    else if nat_eq s.base (page_of r.gpa) then Same 0
    else if meets_slot (page_of r.gpa) (page_of r.size) (dropped r.slot f.slots) then Refused Exist
    else Bracketed (Move r.slot (page_of r.gpa)) (slot_span s ∷ [])

abbrev pub slot_plan : Region → Flat → Option SlotView → Plan
slot_plan r f None = if nat_eq r.size 0 then Refused Inval else make_plan r f
slot_plan r f (Some s) = old_plan r f s

abbrev pub region_plan : Setup → Region → Flat → Plan
region_plan setup r f =
    if not (nat_eq r.flags 0 || (nat_eq r.flags KVM_MEM_READONLY || nat_eq r.flags KVM_MEM_GUEST_MEMFD)) then Refused Inval
    else if not (is_paged r.size && (is_paged r.gpa && is_paged r.user)) || (wants_file r && not (is_paged r.offset)) then Refused Inval
    else if nat_le U64_LIMIT (r.gpa + r.size) || (wants_file r && nat_le U64_LIMIT (r.offset + r.size)) then Refused Inval
    else if nat_lt (user_bytes setup) (r.user + r.size) then Refused Inval
    else if nat_le SLOT_IDS r.slot then Refused Inval
    else slot_plan r f (slot_by_id f.slots r.slot)

-- attrs

abbrev pub kind_of : ℕ → Kind
kind_of attributes = if nat_eq attributes KVM_MEMORY_ATTRIBUTE_PRIVATE then Private else Shared

-- whether `n` pages from one on have the kind
abbrev pub all_have : Kind → ℕ → ℕ → List AttrCall → Bool
all_have kind page zero calls = true
all_have kind page (suc n) calls = same_kind (attr_of (page + n) calls) kind && all_have kind page n calls

abbrev pub attrs_plan : ℕ → ℕ → ℕ → ℕ → Flat → Plan
attrs_plan address size attributes flags f =
    if not (nat_eq flags 0) || not (nat_eq attributes 0 || nat_eq attributes KVM_MEMORY_ATTRIBUTE_PRIVATE) then Refused Inval
    else if nat_eq size 0 || nat_le U64_LIMIT (address + size) then Refused Inval
    else if not (is_paged address && is_paged size) then Refused Inval
    else if all_have (kind_of attributes) (page_of address) (page_of size) f.attrs then Same 0
    else Bracketed (Attr (record { lo = page_of address; hi = page_of (address + size) }) (kind_of attributes)) (record { lo = page_of address; hi = page_of (address + size) } ∷ [])

-- punch, allocate and close

abbrev pub bad_range : ℕ → ℕ → Bool
bad_range offset length = nat_eq length 0 || (not (is_paged offset && is_paged length) || nat_le OFFSET_LIMIT (offset + length))

-- the slots of a file, in order of index
abbrev pub put_by_index : SlotView → List SlotView → List SlotView
put_by_index s [] = s ∷ []
put_by_index s (t ∷ slots) = if nat_le s.index t.index then s ∷ t ∷ slots else t ∷ put_by_index s slots

abbrev pub slots_of_file : ℕ → List SlotView → List SlotView
slots_of_file file [] = []
slots_of_file file (s ∷ slots) = if is_file s.file file then put_by_index s (slots_of_file file slots) else slots_of_file file slots

-- the guest pages of those pages of a slot whose indexes are from lo on and below hi
abbrev pub part_span : ℕ → ℕ → SlotView → Extent
part_span lo hi s = record { lo = s.base + (max lo s.index - s.index); hi = s.base + (min hi (s.index + s.pages) - s.index) }

abbrev pub part_spans : ℕ → ℕ → List SlotView → List Extent
part_spans lo hi [] = []
part_spans lo hi (s ∷ slots) = if meets (bound_range s) (record { lo = lo; hi = hi }) then part_span lo hi s ∷ part_spans lo hi slots else part_spans lo hi slots

abbrev pub whole_spans : List SlotView → List Extent
whole_spans [] = []
whole_spans (s ∷ slots) = slot_span s ∷ whole_spans slots

abbrev pub punch_plan : ℕ → ℕ → ℕ → Flat → Plan
punch_plan fd offset length f =
    if bad_range offset length then Refused Inval
    else if not (in_use fd f.files) then Refused BadF
    else Bracketed (Cut fd (page_of offset) (page_of (offset + length))) (part_spans (page_of offset) (page_of (offset + length)) (slots_of_file fd f.slots))

abbrev pub allocate_plan : ℕ → ℕ → ℕ → Flat → Plan
allocate_plan fd offset length f =
    if bad_range offset length then Refused Inval
    else if not (in_use fd f.files) then Refused BadF
    else if nat_lt (PAGE_BYTES * file_pages fd f.files) (offset + length) then Refused Inval
    else Paged (record { file = fd; index = page_of offset; pages = page_of length; base = None; copy = None })

abbrev pub close_plan : ℕ → Flat → Plan
close_plan fd f = if in_use fd f.files then Bracketed (Shut fd) (whole_spans (slots_of_file fd f.slots)) else Refused BadF

-- populate

-- the count of pages, cut at the slot's end
abbrev pub cut_at_end : ℕ → ℕ → SlotView → ℕ
cut_at_end page pages s = min pages ((s.base + s.pages) - page)

abbrev pub file_populate : Setup → ℕ → ℕ → ℕ → SlotView → Option ℕ → Plan
file_populate setup page pages user s None = Refused Fault
file_populate setup page pages user s (Some file) =
    if nat_lt (user_bytes setup) (user + PAGE_BYTES * cut_at_end page pages s) then Refused Inval
    else Paged (record { file = file; index = index_of s page; pages = cut_at_end page pages s; base = Some page; copy = Some (page_of user) })

abbrev pub slot_populate : Setup → ℕ → ℕ → ℕ → Option SlotView → Plan
slot_populate setup page pages user None = Refused Inval
slot_populate setup page pages user (Some s) = if has_memfd s then file_populate setup page pages user s s.file else Refused Inval

abbrev pub populate_plan : Setup → ℕ → ℕ → ℕ → Flat → Plan
populate_plan setup gpa pages user f =
    if not (is_paged gpa && is_paged user) || nat_eq pages 0 then Refused Inval
    else slot_populate setup (page_of gpa) pages user (slot_over f.slots (page_of gpa))

-- poke and peek

abbrev pub bad_word : Setup → ℕ → Bool
bad_word setup address = not (nat_eq (address % WORD_BYTES) 0) || nat_lt (user_bytes setup) (address + WORD_BYTES)

abbrev pub word_in : ℕ → ℕ
word_in address = (address % PAGE_BYTES) / WORD_BYTES

abbrev pub plan : Setup → Ioctl → Flat → Plan
plan setup (Create size flags) f = create_plan size flags f
plan setup (Region2 r) f = region_plan setup r f
plan setup (Attrs address size attributes flags) f = attrs_plan address size attributes flags f
plan setup (Punch fd offset length) f = punch_plan fd offset length f
plan setup (Allocate fd offset length) f = allocate_plan fd offset length f
plan setup (Close fd) f = close_plan fd f
plan setup (Populate gpa pages user) f = populate_plan setup gpa pages user f
plan setup (Poke address value) f = if bad_word setup address then Refused Inval else Short (Word (page_of address) (word_in address) value) 0
plan setup (Peek address) f = if bad_word setup address then Refused Inval else Reads (page_of address) (word_in address)
