-- What a caller's turn waits for.
use Rattle.std.specs.Prelude.{◌≡◌, ℕ, ◌<◌, ◌≤◌, List, true, Option, None, Some}
use Rattle.gm_base.specs.Scripts.{Orders}
use Rattle.gm_base.specs.declared.calls.Ioctl.{Ioctl}
use Rattle.gm_base.specs.declared.script.Command.TheVariants.{Call as CallCommand}
use Rattle.gm_base.specs.declared.values.Actor.TheVariants.{Caller}
use Rattle.gm_flat.specs.Histories.{Bracket, bracket, call}
use Rattle.gm_flat.specs.Locks.{Holds, Lock, takes}
use Rattle.gm_flat.specs.Mappings.{flushed, inside}
use Rattle.gm_flat.specs.Replay.{flat}
use Rattle.gm_flat.specs.RightOrder.{WaitsToAck, next_command}
use Rattle.gm_flat.specs.declared.entry.Entry.{Entry}

-- another caller's call in progress holds a lock that the call needs now
pub record HoldsNeeded (c holder : ℕ) (ioctl : Ioctl) (past : List Entry) : Type 0 where
  pub another : holder ≡ c → ⊥
  pub lock : Lock
  pub holds : Holds holder lock past
  pub needed : takes lock ioctl (flat past) ≡ true

-- the caller's next call needs a lock that this caller holds, the least that holds one
pub record WaitsOnCaller (o : Orders) (c holder : ℕ) (past : List Entry) : Type 0 where
  pub none_in_progress : call c past ≡ None
  pub ioctl : Ioctl
  pub command : next_command o (Caller c) past ≡ Some (CallCommand ioctl)
  pub holds : HoldsNeeded c holder ioctl past
  pub least : (other : ℕ) → other < holder → HoldsNeeded c other ioctl past → ⊥

-- the vCPU is inside, and hasn't flushed since the bracket began
abbrev pub IsUnflushed : Option Bracket → ℕ → List Entry → Type 0
IsUnflushed None v past = ⊥
IsUnflushed (Some b) v past = (inside v past ≡ true) × (flushed v past ≤ b.begun)

-- the caller's bracket waits for this vCPU, the least that is inside and hasn't flushed since it began
pub record WaitsOnVcpu (c v : ℕ) (past : List Entry) : Type 0 where
  pub waits : WaitsToAck (bracket c past) past
  pub unflushed : IsUnflushed (bracket c past) v past
  pub least : (u : ℕ) → u < v → IsUnflushed (bracket c past) u past → ⊥
