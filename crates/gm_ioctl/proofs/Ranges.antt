-- The numbers of calls whose arguments pass.
use Rattle.std.proofs.Common.{◌≡◌, ◌⊎◌, ℕ, ◌+◌, ◌*◌, ◌%◌, ◌<◌, ◌≤◌, List, [], ◌∷◌, Bool, true, false, not, ◌&&◌, ◌||◌, eqb, ltb, leb, None, refl, arith}
use Rattle.std.proofs.lemmas.Bool.Decides.{nat_tests}
use Rattle.gm_base.specs.declared.calls.Ioctl.{Ioctl}
use Rattle.gm_base.specs.declared.calls.Ioctl.TheVariants.{Create, Region2, Attrs, Punch, Allocate, Close, Populate, Poke, Peek}
use Rattle.gm_flat.specs.Calls.{OFFSET_LIMIT, wants_file}
use Rattle.gm_flat.specs.Effects.{U64_LIMIT}
use Rattle.gm_base.specs.declared.numbers.TheConstants.{PAGE_BYTES, WORD_BYTES, SLOT_IDS, BLOCK, KVM_MEM_READONLY, KVM_MEM_GUEST_MEMFD, KVM_MEMORY_ATTRIBUTE_PRIVATE}
use Rattle.gm_ioctl.specs.Arguments.{argument_refusal, first_refusal, create_rows, region_rows, attrs_rows, range_rows, populate_rows, word_rows}
use Rattle.gm_ioctl.specs.InRange.{InRange}

-- each row's test is false
abbrev AllFail : List Bool → Type 0
AllFail [] = Unit {0}
AllFail (b ∷ rows) = (b ≡ false) × AllFail rows

all_fail : (rows : List Bool) → first_refusal rows ≡ None → AllFail rows
all_fail [] h = tt
all_fail (true ∷ rows) h = absurd cc
all_fail (false ∷ rows) h = (refl, all_fail rows h)

file_range : (size flags page block limit : ℕ) → (eqb size 0 || (leb limit size || not (eqb (size % page) 0))) ≡ false → not (eqb flags 0 || eqb flags block) ≡ false → (0 < size) × (size % page ≡ 0) × (size < limit) × ((flags ≡ 0) ⊎ (flags ≡ block))
file_range size flags page block limit a b = grind (arith, nat_tests)

region_flags : (flags a b : ℕ) → not (eqb flags 0 || (eqb flags a || eqb flags b)) ≡ false → (flags ≡ 0) ⊎ ((flags ≡ a) ⊎ (flags ≡ b))
region_flags flags a b h = grind (arith, nat_tests)

region_pages : (size gpa user offset page : ℕ) (w : Bool) → (not (eqb (size % page) 0 && (eqb (gpa % page) 0 && eqb (user % page) 0)) || (w && not (eqb (offset % page) 0))) ≡ false → (size % page ≡ 0) × (gpa % page ≡ 0) × (user % page ≡ 0) × (w ≡ true → offset % page ≡ 0)
region_pages size gpa user offset page true h = grind (arith, nat_tests)
region_pages size gpa user offset page false h = grind (arith, nat_tests)

region_ends : (size gpa offset limit : ℕ) (w : Bool) → (leb limit (gpa + size) || (w && leb limit (offset + size))) ≡ false → (gpa + size < limit) × (w ≡ true → offset + size < limit)
region_ends size gpa offset limit true h = grind (arith, nat_tests)
region_ends size gpa offset limit false h = grind (arith, nat_tests)

at_most : (a b : ℕ) → ltb a b ≡ false → b ≤ a
at_most a b h = grind (arith, nat_tests)

below : (a b : ℕ) → leb a b ≡ false → b < a
below a b h = grind (arith, nat_tests)

attrs_words : (attributes flags private : ℕ) → (not (eqb flags 0) || not (eqb attributes 0 || eqb attributes private)) ≡ false → (flags ≡ 0) × ((attributes ≡ 0) ⊎ (attributes ≡ private))
attrs_words attributes flags private h = grind (arith, nat_tests)

some_below : (n m limit : ℕ) → (eqb n 0 || leb limit m) ≡ false → (0 < n) × (m < limit)
some_below n m limit h = grind (arith, nat_tests)

both_paged : (a b page : ℕ) → not (eqb (a % page) 0 && eqb (b % page) 0) ≡ false → (a % page ≡ 0) × (b % page ≡ 0)
both_paged a b page h = grind (arith, nat_tests)

offsets_range : (offset length page limit : ℕ) → (eqb length 0 || (not (eqb (offset % page) 0 && eqb (length % page) 0) || leb limit (offset + length))) ≡ false → (0 < length) × (offset % page ≡ 0) × (length % page ≡ 0) × (offset + length < limit)
offsets_range offset length page limit h = grind (arith, nat_tests)

population_range : (gpa pages from page : ℕ) → (not (eqb (gpa % page) 0 && eqb (from % page) 0) || eqb pages 0) ≡ false → (0 < pages) × (gpa % page ≡ 0) × (from % page ≡ 0)
population_range gpa pages from page h = grind (arith, nat_tests)

word_range : (address word end bytes : ℕ) → (not (eqb (address % word) 0) || ltb end bytes) ≡ false → (address % word ≡ 0) × (bytes ≤ end)
word_range address word end bytes h = grind (arith, nat_tests)

pub passed_in_range : (user : ℕ) (call : Ioctl) → argument_refusal user call ≡ None → InRange user call
passed_in_range user (Create size flags) h =
    let rows = all_fail (create_rows size flags) h in
    let r = file_range size flags PAGE_BYTES BLOCK OFFSET_LIMIT rows.0 rows.1.0 in
    record { some = r.0; paged = r.1; below = r.2; known_flags = r.3 }
passed_in_range user (Region2 r) h =
    let rows = all_fail (region_rows user r) h in
    let pages = region_pages r.size r.gpa r.user r.offset PAGE_BYTES (wants_file r) rows.1.0 in
    let ends = region_ends r.size r.gpa r.offset U64_LIMIT (wants_file r) rows.1.1.0 in
    record {
      flags = region_flags r.flags KVM_MEM_READONLY KVM_MEM_GUEST_MEMFD rows.0;
      size = pages.0;
      gpa = pages.1;
      user_address = pages.2;
      guest_end = ends.0;
      user_end = at_most (PAGE_BYTES * user) (r.user + r.size) rows.1.1.1.0;
      slot = below SLOT_IDS r.slot rows.1.1.1.1.0;
      offset = pages.3;
      offset_end = ends.1;
    }
passed_in_range user (Attrs address size attributes flags) h =
    let rows = all_fail (attrs_rows address size attributes flags) h in
    let words = attrs_words attributes flags KVM_MEMORY_ATTRIBUTE_PRIVATE rows.0 in
    let some = some_below size (address + size) U64_LIMIT rows.1.0 in
    let pages = both_paged address size PAGE_BYTES rows.1.1.0 in
    record { no_flag = words.0; known_attributes = words.1; some = some.0; paged_address = pages.0; paged_size = pages.1; end = some.1 }
passed_in_range user (Punch fd offset length) h =
    let r = offsets_range offset length PAGE_BYTES OFFSET_LIMIT (all_fail (range_rows offset length) h).0 in
    record { some = r.0; paged_offset = r.1; paged_length = r.2; end = r.3 }
passed_in_range user (Allocate fd offset length) h =
    let r = offsets_range offset length PAGE_BYTES OFFSET_LIMIT (all_fail (range_rows offset length) h).0 in
    record { some = r.0; paged_offset = r.1; paged_length = r.2; end = r.3 }
passed_in_range user (Close fd) h = tt
passed_in_range user (Populate gpa pages from) h =
    let r = population_range gpa pages from PAGE_BYTES (all_fail (populate_rows gpa pages from) h).0 in
    record { some = r.0; paged_gpa = r.1; paged_from = r.2 }
passed_in_range user (Poke address value) h =
    let r = word_range address WORD_BYTES (PAGE_BYTES * user) (address + WORD_BYTES) (all_fail (word_rows user address) h).0 in
    record { whole_words = r.0; end = r.1 }
passed_in_range user (Peek address) h =
    let r = word_range address WORD_BYTES (PAGE_BYTES * user) (address + WORD_BYTES) (all_fail (word_rows user address) h).0 in
    record { whole_words = r.0; end = r.1 }
