-- The locks of the calls. (Documentation/virt/kvm/locking.rst; that each lock is held by one call alone, and that a call
-- takes all its locks at its first turn, is this project's own.)
use Rattle.std.specs.Prelude.{◌≡◌, ℕ, List, Bool, true, false, ◌&&◌, ◌||◌, Some, nat_eq}
use Rattle.gm_base.specs.declared.calls.Ioctl.{Ioctl}
use Rattle.gm_base.specs.declared.calls.Ioctl.TheVariants.{Create, Region2, Attrs, Punch, Allocate, Close, Populate, Poke, Peek}
use Rattle.gm_flat.specs.declared.entry.Entry.{Entry}
use Rattle.gm_flat.specs.Slots.{slot_over, slot_by_id, is_file}
use Rattle.gm_flat.specs.Histories.{Call, call}
use Rattle.gm_flat.specs.FlatState.{Flat, in_use}
use Rattle.gm_flat.specs.Replay.{flat, flat_at}
use Rattle.gm_flat.specs.RightLook.{file_of}
use Rattle.gm_flat.specs.Calls.{wants_file, page_of}

-- one lock for the slots and the attributes, and one for each file
pub data Lock : Type 0 where
  SlotsLock : Lock
  FileLock : (file : ℕ) → Lock

abbrev pub takes_slots : Ioctl → Bool
takes_slots (Region2 r) = true
takes_slots (Attrs address size attributes flags) = true
takes_slots (Close fd) = true
takes_slots (Populate gpa pages user) = true
takes_slots (Create size flags) = false
takes_slots (Punch fd offset length) = false
takes_slots (Allocate fd offset length) = false
takes_slots (Poke address value) = false
takes_slots (Peek address) = false

-- whether the call names the file, or the slot that it names does
abbrev pub takes_file : ℕ → Ioctl → Flat → Bool
takes_file file (Region2 r) f = (wants_file r && nat_eq r.fd file) || is_file (file_of (slot_by_id f.slots r.slot)) file
takes_file file (Punch fd offset length) f = nat_eq fd file
takes_file file (Allocate fd offset length) f = nat_eq fd file
takes_file file (Close fd) f = nat_eq fd file
takes_file file (Populate gpa pages user) f = is_file (file_of (slot_over f.slots (page_of gpa))) file
takes_file file (Create size flags) f = false
takes_file file (Attrs address size attributes flags) f = false
takes_file file (Poke address value) f = false
takes_file file (Peek address) f = false

-- whether the call needs the lock over that state; a number that names no file in use has none
abbrev pub takes : Lock → Ioctl → Flat → Bool
takes SlotsLock ioctl f = takes_slots ioctl
takes (FileLock file) ioctl f = takes_file file ioctl f && in_use file f.files

-- a call in progress holds the locks that it needed at its Judge
abbrev pub Holds : ℕ → Lock → List Entry → Type 0
Holds c lock past = (x : Call) × (call c past ≡ Some x) × (takes lock x.ioctl (flat_at x.judged past) ≡ true)

-- a lock that the call needs now is held by another caller's call
pub record WaitsForLock (c : ℕ) (ioctl : Ioctl) (past : List Entry) : Type 0 where
  pub lock : Lock
  pub holder : ℕ
  pub another : holder ≡ c → ⊥
  pub holds : Holds holder lock past
  pub needed : takes lock ioctl (flat past) ≡ true
