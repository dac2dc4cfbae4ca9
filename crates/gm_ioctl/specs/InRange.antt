-- What the numbers of a call are where its arguments have passed.
use Rattle.std.specs.Prelude.{◌≡◌, ◌⊎◌, ℕ, ◌+◌, ◌*◌, ◌%◌, ◌<◌, ◌≤◌, true}
use Rattle.gm_base.specs.declared.calls.Ioctl.{Ioctl}
use Rattle.gm_base.specs.declared.calls.Ioctl.TheVariants.{Create, Region2, Attrs, Punch, Allocate, Close, Populate, Poke, Peek}
use Rattle.gm_base.specs.declared.calls.Region.{Region}
use Rattle.gm_base.specs.declared.numbers.TheConstants.{PAGE_BYTES, WORD_BYTES, SLOT_IDS, BLOCK, KVM_MEM_READONLY, KVM_MEM_GUEST_MEMFD, KVM_MEMORY_ATTRIBUTE_PRIVATE}
use Rattle.gm_flat.specs.Calls.{OFFSET_LIMIT, wants_file}
use Rattle.gm_flat.specs.Effects.{U64_LIMIT}

-- whole pages, at least one, below 2^63 bytes
pub record FileInRange (size flags : ℕ) : Type 0 where
  pub some : 0 < size
  pub paged : size % PAGE_BYTES ≡ 0
  pub below : size < OFFSET_LIMIT
  pub known_flags : (flags ≡ 0) ⊎ (flags ≡ BLOCK)

-- whole pages that end below 2^64 and in user memory; the offset is looked at only with a file
pub record RegionInRange (user : ℕ) (r : Region) : Type 0 where
  pub flags : (r.flags ≡ 0) ⊎ ((r.flags ≡ KVM_MEM_READONLY) ⊎ (r.flags ≡ KVM_MEM_GUEST_MEMFD))
  pub size : r.size % PAGE_BYTES ≡ 0
  pub gpa : r.gpa % PAGE_BYTES ≡ 0
  pub user_address : r.user % PAGE_BYTES ≡ 0
  pub guest_end : r.gpa + r.size < U64_LIMIT
  pub user_end : r.user + r.size ≤ PAGE_BYTES * user
  pub slot : r.slot < SLOT_IDS
  pub offset : wants_file r ≡ true → r.offset % PAGE_BYTES ≡ 0
  pub offset_end : wants_file r ≡ true → r.offset + r.size < U64_LIMIT

-- whole pages, at least one, that end below 2^64
pub record AttrsInRange (address size attributes flags : ℕ) : Type 0 where
  pub no_flag : flags ≡ 0
  pub known_attributes : (attributes ≡ 0) ⊎ (attributes ≡ KVM_MEMORY_ATTRIBUTE_PRIVATE)
  pub some : 0 < size
  pub paged_address : address % PAGE_BYTES ≡ 0
  pub paged_size : size % PAGE_BYTES ≡ 0
  pub end : address + size < U64_LIMIT

-- whole pages of a file, at least one, that end below 2^63
pub record OffsetsInRange (offset length : ℕ) : Type 0 where
  pub some : 0 < length
  pub paged_offset : offset % PAGE_BYTES ≡ 0
  pub paged_length : length % PAGE_BYTES ≡ 0
  pub end : offset + length < OFFSET_LIMIT

-- whole pages, at least one
pub record PopulationInRange (gpa pages from : ℕ) : Type 0 where
  pub some : 0 < pages
  pub paged_gpa : gpa % PAGE_BYTES ≡ 0
  pub paged_from : from % PAGE_BYTES ≡ 0

-- a whole word of user memory
pub record WordInRange (user address : ℕ) : Type 0 where
  pub whole_words : address % WORD_BYTES ≡ 0
  pub end : address + WORD_BYTES ≤ PAGE_BYTES * user

-- the numbers of a call are in range
abbrev pub InRange : ℕ → Ioctl → Type 0
InRange user (Create size flags) = FileInRange size flags
InRange user (Region2 r) = RegionInRange user r
InRange user (Attrs address size attributes flags) = AttrsInRange address size attributes flags
InRange user (Punch fd offset length) = OffsetsInRange offset length
InRange user (Allocate fd offset length) = OffsetsInRange offset length
InRange user (Close fd) = Unit {0}
InRange user (Populate gpa pages from) = PopulationInRange gpa pages from
InRange user (Poke address value) = WordInRange user address
InRange user (Peek address) = WordInRange user address
