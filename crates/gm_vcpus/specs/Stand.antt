-- How the vCPUs stand for a history.
use Rattle.std.specs.Prelude.{◌≡◌, ℕ, ◌+◌, ◌<◌, ◌≤◌, List, Bool, true, false, length, Option, Some, None, IfSome, slice_index_or}
use Rattle.gm_base.specs.Aim.{Aim}
use Rattle.gm_base.specs.declared.values.Actor.{Actor}
use Rattle.gm_base.specs.declared.values.Actor.TheVariants.{Vcpu as OfVcpu}
use Rattle.gm_base.specs.declared.values.Setup.{Setup}
use Rattle.gm_fault.specs.Routes.{IsSlotOver}
use Rattle.gm_fault.specs.declared.ticket.Ticket.{Ticket}
use Rattle.gm_flat.specs.Calls.{has_memfd}
use Rattle.gm_flat.specs.Histories.{Seen, Gotten, Fault, NoFault, Faulting, fault, gone, done}
use Rattle.gm_flat.specs.Replay.{looked_slot}
use Rattle.gm_flat.specs.RightLook.{file_of}
use Rattle.gm_flat.specs.Slots.{is_file}
use Rattle.gm_flat.specs.declared.effect.Backing.{Backing}
use Rattle.gm_flat.specs.declared.entry.Entry.{Entry}
use Rattle.gm_flat.specs.declared.entry.What.{What}
use Rattle.gm_flat.specs.declared.entry.What.TheVariants.{Miss, Sample, Look, Get, Install, Retry, Touch, Left, Answer, Gone}
use Rattle.gm_flat.specs.declared.views.Looked.{Looked}
use Rattle.gm_flat.specs.declared.views.Sampled.{Sampled}
use Rattle.gm_flat.specs.declared.views.SlotView.{SlotView}
use Rattle.gm_laws.specs.Counting.{ends_at}
use Rattle.gm_vcpus.specs.declared.vcpu.Vcpu.{Vcpu}

-- whether an entry moves a vCPU: those of its fault, of the commands that it ends, and its last one. (An Answer ends a
-- command of whoever wrote it; no right history has one of a vCPU.)
abbrev pub moves_vcpus : What → Actor → Bool
moves_vcpus (Miss access) (OfVcpu v) = true
moves_vcpus (Sample at) (OfVcpu v) = true
moves_vcpus (Look at slot attr file) (OfVcpu v) = true
moves_vcpus (Get backing fresh) (OfVcpu v) = true
moves_vcpus (Install page level) (OfVcpu v) = true
moves_vcpus Retry (OfVcpu v) = true
moves_vcpus (Touch access backing level value fill) (OfVcpu v) = true
moves_vcpus (Left why) (OfVcpu v) = true
moves_vcpus (Answer reply) (OfVcpu v) = true
moves_vcpus Gone (OfVcpu v) = true
moves_vcpus w a = false

-- a sample: its position, since the miss, and how many brackets had ended there
pub record SampleIs (x : Sampled) (at missed : ℕ) (past : List Entry) : Type 0 where
  pub at_is : x.at ≡ at
  pub after_miss : missed ≤ at
  pub so_far : at ≤ length past
  pub seq_is : x.seq ≡ ends_at at past

-- the slot lies over the page, its user pages are ones of the machine, and it has a file only with the flag for it
pub record IsSightOf (user page : ℕ) (s : SlotView) : Type 0 where
  pub over_page : IsSlotOver page s
  pub users : s.user + s.pages ≤ user
  pub flagged : (file : ℕ) → is_file s.file file ≡ true → has_memfd s ≡ true

-- a look: its position, since the sample, and the slot, its file and the attribute that it found there
pub record LookIs (user page sample : ℕ) (x : Looked) (l : Seen) (past : List Entry) : Type 0 where
  pub at_is : x.at ≡ l.at
  pub after_sample : sample ≤ l.at
  pub before_place : l.at ≤ l.place
  pub so_far : l.place < length past
  pub slot_is : looked_slot l past ≡ x.slot
  pub attr_is : l.attr ≡ x.attr
  pub file_is : l.file ≡ file_of x.slot
  pub sight : IfSome x.slot (IsSightOf user page)

-- how far the fault is
abbrev pub StageIs : ℕ → ℕ → ℕ → Option Sampled → Option Looked → Option Backing → Option ℕ → Option Seen → Option Gotten → List Entry → Type 0
StageIs user page missed None None None None None None past = Unit {0}
StageIs user page missed (Some x) None None (Some s) None None past = SampleIs x s missed past
StageIs user page missed (Some x) (Some y) None (Some s) (Some l) None past = SampleIs x s missed past × LookIs user page s y l past
StageIs user page missed (Some x) (Some y) (Some b) (Some s) (Some l) (Some g) past = SampleIs x s missed past × LookIs user page s y l past × (g.backing ≡ b)
StageIs user page missed x y b s l g past = ⊥

-- a ticket is a fault of the history: its access and how far it is
pub record TicketIs (user : ℕ) (k : Ticket) (a : Aim) (missed : ℕ) (s : Option ℕ) (l : Option Seen) (g : Option Gotten) (past : List Entry) : Type 0 where
  pub access_is : k.access ≡ a
  pub so_far : missed ≤ length past
  pub stage_is : StageIs user a.page missed k.sampled k.looked k.backing s l g past

-- a vCPU has a ticket exactly where the history has a fault of it in flight
abbrev pub FaultIs : ℕ → Option Ticket → Fault → List Entry → Type 0
FaultIs user None NoFault past = Unit {0}
FaultIs user None (Faulting a missed s l g) past = ⊥
FaultIs user (Some k) NoFault past = ⊥
FaultIs user (Some k) (Faulting a missed s l g) past = TicketIs user k a missed s l g past

-- while a fault is in flight, this is the position after its miss
abbrev pub MissedIs : ℕ → Fault → Type 0
MissedIs n NoFault = Unit {0}
MissedIs n (Faulting a missed s l g) = n ≡ missed

-- a vCPU: its commands that are ended, its fault, where that missed, and whether it is gone
pub record VcpuIs (s : Setup) (x : Vcpu) (v : ℕ) (past : List Entry) : Type 0 where
  pub ended_is : x.ended ≡ done (OfVcpu v) past
  pub fault_is : FaultIs s.user x.fault (fault v past) past
  pub missed_is : MissedIs x.missed (fault v past)
  pub gone_is : x.gone ≡ gone (OfVcpu v) past

-- as many as the setup has, each as the history tells; beyond them no fault is in flight
pub record VcpusStand (s : Setup) (vs : List Vcpu) (past : List Entry) : Type 0 where
  pub count_is : length vs ≡ s.vcpus
  pub each : (v : ℕ) (d : Vcpu) → v < s.vcpus → VcpuIs s (slice_index_or vs v d) v past
  pub none_beyond : (v : ℕ) → s.vcpus ≤ v → fault v past ≡ NoFault
