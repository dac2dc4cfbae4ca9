-- The rows of the calls' tables that look at the arguments and the count of user pages alone, and that stand before every
-- row that needs the state. The rows stand in the order in which they are tried.
use Rattle.std.specs.Prelude.{ℕ, ◌+◌, ◌*◌, ◌%◌, List, [], ◌∷◌, Bool, true, false, not, ◌&&◌, ◌||◌, Some, None, nat_eq, nat_le, nat_lt, if◌then◌else◌}
use Rattle.std.specs.declared.option.Option.{Option}
use Rattle.gm_base.specs.declared.calls.Ioctl.{Ioctl}
use Rattle.gm_base.specs.declared.calls.Ioctl.TheVariants.{Create, Region2, Attrs, Punch, Allocate, Close, Populate, Poke, Peek}
use Rattle.gm_base.specs.declared.calls.Region.{Region}
use Rattle.gm_base.specs.declared.numbers.TheConstants.{PAGE_BYTES, WORD_BYTES, SLOT_IDS, BLOCK, KVM_MEM_READONLY, KVM_MEM_GUEST_MEMFD, KVM_MEMORY_ATTRIBUTE_PRIVATE}
use Rattle.gm_base.specs.declared.values.Errno.{Errno}
use Rattle.gm_base.specs.declared.values.Errno.TheVariants.{Inval}
use Rattle.gm_flat.specs.Calls.{OFFSET_LIMIT, bad_range, is_paged, wants_file}
use Rattle.gm_flat.specs.Effects.{U64_LIMIT}

-- whether so many bytes from an address on end past user memory of so many pages
abbrev pub past_user : ℕ → ℕ → ℕ → Bool
past_user user address bytes = nat_lt (PAGE_BYTES * user) (address + bytes)

-- create: the size, then the flags
abbrev pub create_rows : ℕ → ℕ → List Bool
create_rows size flags =
    (nat_eq size 0 || (nat_le OFFSET_LIMIT size || not (is_paged size)))
    ∷ not (nat_eq flags 0 || nat_eq flags BLOCK)
    ∷ []

-- region: the flags, whole pages, the ends below 2^64, the end in user memory, the slot's id
abbrev pub region_rows : ℕ → Region → List Bool
region_rows user r =
    not (nat_eq r.flags 0 || (nat_eq r.flags KVM_MEM_READONLY || nat_eq r.flags KVM_MEM_GUEST_MEMFD))
    ∷ (not (is_paged r.size && (is_paged r.gpa && is_paged r.user)) || (wants_file r && not (is_paged r.offset)))
    ∷ (nat_le U64_LIMIT (r.gpa + r.size) || (wants_file r && nat_le U64_LIMIT (r.offset + r.size)))
    ∷ past_user user r.user r.size
    ∷ nat_le SLOT_IDS r.slot
    ∷ []

-- attrs: the flags and attributes, then the end, then whole pages
abbrev pub attrs_rows : ℕ → ℕ → ℕ → ℕ → List Bool
attrs_rows address size attributes flags =
    (not (nat_eq flags 0) || not (nat_eq attributes 0 || nat_eq attributes KVM_MEMORY_ATTRIBUTE_PRIVATE))
    ∷ (nat_eq size 0 || nat_le U64_LIMIT (address + size))
    ∷ not (is_paged address && is_paged size)
    ∷ []

-- punch and allocate: the range
abbrev pub range_rows : ℕ → ℕ → List Bool
range_rows offset length = bad_range offset length ∷ []

-- populate: whole pages, and at least one
abbrev pub populate_rows : ℕ → ℕ → ℕ → List Bool
populate_rows gpa pages user = (not (is_paged gpa && is_paged user) || nat_eq pages 0) ∷ []

-- poke and peek: a whole word in user memory
abbrev pub word_rows : ℕ → ℕ → List Bool
word_rows user address = (not (nat_eq (address % WORD_BYTES) 0) || past_user user address WORD_BYTES) ∷ []

-- the tests of a call's rows, in order
abbrev pub argument_rows : ℕ → Ioctl → List Bool
argument_rows user (Create size flags) = create_rows size flags
argument_rows user (Region2 r) = region_rows user r
argument_rows user (Attrs address size attributes flags) = attrs_rows address size attributes flags
argument_rows user (Punch fd offset length) = range_rows offset length
argument_rows user (Allocate fd offset length) = range_rows offset length
argument_rows user (Close fd) = []
argument_rows user (Populate gpa pages from) = populate_rows gpa pages from
argument_rows user (Poke address value) = word_rows user address
argument_rows user (Peek address) = word_rows user address

-- the answer of the first row that holds, where one does: each of these rows answers Inval
abbrev pub first_refusal : List Bool → Option Errno
first_refusal [] = None
first_refusal (holds ∷ rows) = if holds then Some Inval else first_refusal rows

abbrev pub argument_refusal : ℕ → Ioctl → Option Errno
argument_refusal user call = first_refusal (argument_rows user call)

abbrev pub has_none : Option Errno → Bool
has_none None = true
has_none (Some e) = false

-- whether none of the rows holds
abbrev pub passes : ℕ → Ioctl → Bool
passes user call = has_none (argument_refusal user call)
