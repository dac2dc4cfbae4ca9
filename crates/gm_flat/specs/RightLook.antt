-- *right look*: a sample and a look are true of the state at their `at`, and an exit is the one of its route.
-- (mmu.c, the fault path; api.rst, KVM_EXIT_MEMORY_FAULT; that an exit for want of a frame carries no reason is this
-- project's own.)
use Rattle.std.specs.Prelude.{◌≡◌, ℕ, ◌*◌, ◌≤◌, ◌<◌, List, Bool, true, false, not, length, Some, None, if◌then◌else◌}
use Rattle.std.specs.declared.option.Option.{Option}
use Rattle.gm_base.specs.Aim.{Aim, address_of}
use Rattle.gm_base.specs.Values.{same_kind, permits}
use Rattle.gm_base.specs.declared.numbers.TheConstants.{PAGE_BYTES, KVM_MEM_READONLY, KVM_MEMORY_EXIT_FLAG_PRIVATE}
use Rattle.gm_base.specs.declared.values.Setup.{Setup}
use Rattle.gm_base.specs.declared.values.Kind.{Kind}
use Rattle.gm_base.specs.declared.values.Kind.TheVariants.{Private, Shared}
use Rattle.gm_base.specs.declared.values.Actor.{Actor}
use Rattle.gm_base.specs.declared.values.Actor.TheVariants.{Vcpu, Caller}
use Rattle.gm_flat.specs.declared.effect.Exit.{Exit}
use Rattle.gm_flat.specs.declared.effect.Exit.TheVariants.{Fault as MemoryFault, Mmio, NoFrame}
use Rattle.gm_flat.specs.declared.entry.Entry.{Entry}
use Rattle.gm_flat.specs.declared.entry.What.{What}
use Rattle.gm_flat.specs.declared.entry.What.TheVariants.{Sample, Look, Left}
use Rattle.gm_flat.specs.declared.views.SlotView.{SlotView}
use Rattle.gm_flat.specs.Slots.{slot_over}
use Rattle.gm_flat.specs.Histories.{Seen, Fault, NoFault, Faulting, fault}
use Rattle.gm_flat.specs.FlatState.{Flat, FolioState, in_use, cached, is_free, has_flag}
use Rattle.gm_flat.specs.Attribute.{attr_of}
use Rattle.gm_flat.specs.Replay.{flat, flat_at, looked_slot, index_in}

-- the route table, over the slot and the attribute that were looked up. That a marked slot stands first is this project's
-- own.
pub data Route : Type 0 where
  ToAgain : Route
  ToFault : Route
  ToMmio : Route
  ToFile : Route
  ToUser : Route

abbrev pub file_route : Option ℕ → Route
file_route None = ToFault
file_route (Some file) = ToFile

abbrev pub private_route : Option SlotView → Route
private_route None = ToFault
private_route (Some s) = file_route s.file

abbrev pub shared_route : Aim → Option SlotView → Route
shared_route a None = ToMmio
shared_route a (Some s) = if permits (not (has_flag KVM_MEM_READONLY s.flags)) a.op then ToUser else ToMmio

abbrev pub route_by : Kind → Aim → Option SlotView → Route
route_by Private a slot = private_route slot
route_by Shared a slot = shared_route a slot

abbrev pub is_marked : Option SlotView → Bool
is_marked None = false
is_marked (Some s) = s.invalid

abbrev pub route : Aim → Kind → Option SlotView → Route
route a attr slot = if is_marked slot then ToAgain else if same_kind a.kind attr then route_by a.kind a slot else ToFault

-- a fault's route
abbrev pub route_seen : Aim → Seen → List Entry → Route
route_seen a seen past = route a seen.attr (looked_slot seen past)

-- the id and the file of the slot over a page
abbrev pub id_of : Option SlotView → Option ℕ
id_of None = None
id_of (Some s) = Some s.id

abbrev pub file_of : Option SlotView → Option ℕ
file_of None = None
file_of (Some s) = s.file

pub record SampleIsRight (at missed here : ℕ) : Type 0 where
  pub after_miss : missed ≤ at
  pub so_far : at ≤ here

pub record LookIsRight (at : ℕ) (slot : Option ℕ) (attr : Kind) (file : Option ℕ) (page sample : ℕ) (past : List Entry) : Type 0 where
  pub after_sample : sample ≤ at
  pub so_far : at ≤ length past
  pub right_slot : slot ≡ id_of (slot_over (flat_at at past).slots page)
  pub right_file : file ≡ file_of (slot_over (flat_at at past).slots page)
  pub right_attr : attr ≡ attr_of page (flat_at at past).attrs

-- every frame is that of a live folio
abbrev pub IsFull : ℕ → List FolioState → Type 0
IsFull frames folios = (frame : ℕ) → frame < frames → is_free frame folios ≡ false

-- the index isn't cached in a file that is in use
abbrev pub NotCached : Option ℕ → Option ℕ → Flat → Type 0
NotCached (Some file) (Some index) f = (in_use file f.files ≡ true) × (cached file index f.cache ≡ None)
NotCached _ index f = ⊥

abbrev pub exit_flags : Kind → ℕ
exit_flags Private = KVM_MEMORY_EXIT_FLAG_PRIVATE
exit_flags Shared = 0

pub record FaultIsRight (flags gpa size : ℕ) (a : Aim) (to : Route) : Type 0 where
  pub right_route : to ≡ ToFault
  pub right_flags : flags ≡ exit_flags a.kind
  pub right_gpa : gpa ≡ PAGE_BYTES * a.page
  pub right_size : size ≡ PAGE_BYTES

pub record MmioIsRight (gpa : ℕ) (a : Aim) (to : Route) : Type 0 where
  pub right_route : to ≡ ToMmio
  pub right_gpa : gpa ≡ address_of a

pub record NoFrameIsRight (frames : ℕ) (a : Aim) (seen : Seen) (past : List Entry) : Type 0 where
  pub right_route : route_seen a seen past ≡ ToFile
  pub not_cached : NotCached seen.file (index_in a.page (looked_slot seen past)) (flat past)
  pub full : IsFull frames (flat past).folios

abbrev pub ExitIsRight : ℕ → Exit → Aim → Seen → List Entry → Type 0
ExitIsRight frames (MemoryFault flags gpa size) a seen past = FaultIsRight flags gpa size a (route_seen a seen past)
ExitIsRight frames (Mmio gpa) a seen past = MmioIsRight gpa a (route_seen a seen past)
ExitIsRight frames NoFrame a seen past = NoFrameIsRight frames a seen past

abbrev pub RightSample : ℕ → List Entry → Fault → Type 0
RightSample at past (Faulting a missed sample look got) = SampleIsRight at missed (length past)
RightSample at past NoFault = ⊥

abbrev pub RightSeen : ℕ → Option ℕ → Kind → Option ℕ → List Entry → Fault → Type 0
RightSeen at slot attr file past (Faulting a missed (Some sample) look got) = LookIsRight at slot attr file a.page sample past
RightSeen at slot attr file past _ = ⊥

abbrev pub RightExit : ℕ → Exit → List Entry → Fault → Type 0
RightExit frames why past (Faulting a missed sample (Some seen) got) = ExitIsRight frames why a seen past
RightExit frames why past _ = ⊥

abbrev pub RightLook : Setup → What → Actor → List Entry → Type 0
RightLook s (Sample at) (Vcpu v) past = RightSample at past (fault v past)
RightLook s (Sample at) (Caller c) past = ⊥
RightLook s (Look at slot attr file) (Vcpu v) past = RightSeen at slot attr file past (fault v past)
RightLook s (Look at slot attr file) (Caller c) past = ⊥
RightLook s (Left why) (Vcpu v) past = RightExit s.frames why past (fault v past)
RightLook s (Left why) (Caller c) past = ⊥
RightLook s _ actor past = Unit {0}
