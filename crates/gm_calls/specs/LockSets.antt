-- The locks that a call needs.
use Rattle.std.specs.Prelude.{◌≡◌, ℕ, List, Bool, ◌||◌, Option, Some, None, if◌then◌else◌}
use Rattle.gm_base.specs.declared.calls.Ioctl.{Ioctl}
use Rattle.gm_base.specs.declared.calls.Ioctl.TheVariants.{Create, Region2, Attrs, Punch, Allocate, Close, Populate, Poke, Peek}
use Rattle.gm_flat.specs.Calls.{page_of, wants_file}
use Rattle.gm_flat.specs.FlatState.{Flat}
use Rattle.gm_flat.specs.Locks.{Lock, SlotsLock, FileLock, takes}
use Rattle.gm_flat.specs.RightLook.{file_of}
use Rattle.gm_flat.specs.Slots.{is_file, slot_by_id, slot_over}
use Rattle.gm_flat.specs.declared.views.SlotView.{SlotView}
use Rattle.gm_calls.specs.declared.lock_set.LockSet.{LockSet}

-- whether a lock is in a set
abbrev pub has_lock : Lock → LockSet → Bool
has_lock SlotsLock set = set.slots
has_lock (FileLock file) set = is_file set.first file || is_file set.second file

-- the set has exactly the locks that the call needs over a state
abbrev pub HasItsLocks : LockSet → Ioctl → Flat → Type 0
HasItsLocks set ioctl f = (lock : Lock) → has_lock lock set ≡ takes lock ioctl f

-- the file that a call names, or for a population that of the slot over its address
abbrev pub first_file : Ioctl → List SlotView → Option ℕ
first_file (Region2 r) slots = if wants_file r then Some r.fd else None
first_file (Punch fd offset length) slots = Some fd
first_file (Allocate fd offset length) slots = Some fd
first_file (Close fd) slots = Some fd
first_file (Populate gpa pages user) slots = file_of (slot_over slots (page_of gpa))
first_file (Create size flags) slots = None
first_file (Attrs address size attributes flags) slots = None
first_file (Poke address value) slots = None
first_file (Peek address) slots = None

-- the file of the slot that a region is about
abbrev pub second_file : Ioctl → List SlotView → Option ℕ
second_file (Region2 r) slots = file_of (slot_by_id slots r.slot)
second_file (Create size flags) slots = None
second_file (Attrs address size attributes flags) slots = None
second_file (Punch fd offset length) slots = None
second_file (Allocate fd offset length) slots = None
second_file (Close fd) slots = None
second_file (Populate gpa pages user) slots = None
second_file (Poke address value) slots = None
second_file (Peek address) slots = None
