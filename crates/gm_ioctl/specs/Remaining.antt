-- What is left of each call's table once the rows of the arguments have passed.
use Rattle.std.specs.Prelude.{ℕ, ◌+◌, ◌*◌, ◌∷◌, [], not, length, None, nat_eq, nat_lt, if◌then◌else◌}
use Rattle.gm_base.specs.declared.calls.Ioctl.{Ioctl}
use Rattle.gm_base.specs.declared.calls.Ioctl.TheVariants.{Create, Region2, Attrs, Punch, Allocate, Close, Populate, Poke, Peek}
use Rattle.gm_base.specs.declared.numbers.TheConstants.{PAGE_BYTES, BLOCK}
use Rattle.gm_base.specs.declared.values.Setup.{Setup}
use Rattle.gm_base.specs.declared.values.Errno.TheVariants.{BadF, Inval}
use Rattle.gm_flat.specs.declared.effect.Effect.TheVariants.{File, Attr, Cut, Word}
use Rattle.gm_flat.specs.Calls.{Plan, Refused, Same, Reads, Short, Bracketed, Paged, page_of, file_pages, slot_plan, kind_of, all_have, part_spans, slots_of_file, close_plan, slot_populate, word_in}
use Rattle.gm_flat.specs.FlatState.{Flat, in_use}
use Rattle.gm_flat.specs.Slots.{slot_by_id, slot_over}

-- the file that is made
abbrev pub new_file : ℕ → ℕ → Flat → Plan
new_file size flags f = Short (File (length f.files) (page_of size) (nat_eq flags BLOCK)) (length f.files)

-- attrs: nothing where every page has the kind, else the change in its bracket
abbrev pub set_kind : ℕ → ℕ → ℕ → Flat → Plan
set_kind address size attributes f =
    if all_have (kind_of attributes) (page_of address) (page_of size) f.attrs then Same 0
    else Bracketed (Attr (record { lo = page_of address; hi = page_of (address + size) }) (kind_of attributes)) (record { lo = page_of address; hi = page_of (address + size) } ∷ [])

-- punch: a file in use, then the cut in its bracket
abbrev pub cut_range : ℕ → ℕ → ℕ → Flat → Plan
cut_range fd offset length f =
    if not (in_use fd f.files) then Refused BadF
    else Bracketed (Cut fd (page_of offset) (page_of (offset + length))) (part_spans (page_of offset) (page_of (offset + length)) (slots_of_file fd f.slots))

-- allocate: a file in use, the range in it, then its pages
abbrev pub add_range : ℕ → ℕ → ℕ → Flat → Plan
add_range fd offset length f =
    if not (in_use fd f.files) then Refused BadF
    else if nat_lt (PAGE_BYTES * file_pages fd f.files) (offset + length) then Refused Inval
    else Paged (record { file = fd; index = page_of offset; pages = page_of length; base = None; copy = None })

-- the rows that need the state
abbrev pub state_plan : Setup → Ioctl → Flat → Plan
state_plan setup (Create size flags) f = new_file size flags f
state_plan setup (Region2 r) f = slot_plan r f (slot_by_id f.slots r.slot)
state_plan setup (Attrs address size attributes flags) f = set_kind address size attributes f
state_plan setup (Punch fd offset length) f = cut_range fd offset length f
state_plan setup (Allocate fd offset length) f = add_range fd offset length f
state_plan setup (Close fd) f = close_plan fd f
state_plan setup (Populate gpa pages user) f = slot_populate setup (page_of gpa) pages user (slot_over f.slots (page_of gpa))
state_plan setup (Poke address value) f = Short (Word (page_of address) (word_in address) value) 0
state_plan setup (Peek address) f = Reads (page_of address) (word_in address)
