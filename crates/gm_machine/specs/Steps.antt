-- What a step of a machine does, as contracts see it.
use Rattle.std.specs.Prelude.{◌≡◌, ℕ, ◌+◌, Bool, true, false, List, length}
use Rattle.gm_base.specs.Scripts.{Orders}
use Rattle.gm_base.specs.declared.values.Actor.{Actor}
use Rattle.gm_base.specs.declared.values.Actor.TheVariants.{Vcpu, Caller}
use Rattle.gm_flat.specs.Histories.{gone}
use Rattle.gm_flat.specs.Mappings.{pending}
use Rattle.gm_flat.specs.RightHistory.{Right}
use Rattle.gm_flat.specs.RightOrder.{IsBlocked}
use Rattle.gm_flat.specs.declared.entry.Entry.{Entry}
use Rattle.gm_machine.specs.Flags.{Flags, no_flags}
use Rattle.gm_turns.specs.Ready.{TookTurn}
use Rattle.gm_turns.specs.Waiting.{WaitsOn}
use Rattle.gm_turns.specs.declared.outcome.Blocker.{Blocker}
use Rattle.gm_turns.specs.declared.outcome.How.{How}
use Rattle.gm_turns.specs.declared.outcome.How.TheVariants.{Next, Kick}
use Rattle.gm_turns.specs.declared.outcome.Outcome.{Outcome}
use Rattle.gm_turns.specs.declared.outcome.Outcome.TheVariants.{Moved, Done, Nothing, Waits}

-- what contracts see of a machine: its setup and each actor's commands, its history with the newest entry first, its
-- turns, and which actors have room
pub record Seen : Type 0 where
  pub orders : Orders
  pub past : List Entry
  pub turns : ℕ
  pub room : Flags

abbrev pub IsVcpu : Actor → Type 0
IsVcpu (Vcpu v) = Unit {0}
IsVcpu (Caller c) = ⊥

-- the turn of the tables came and nothing else, the history is right, the turn is counted, and the room is used up
pub record Moves (old new : Seen) (actor : Actor) (kick : Bool) : Type 0 where
  pub orders : new.orders ≡ old.orders
  pub turn : TookTurn old.orders (old.turns + 1) actor kick old.past new.past
  pub right : Right new.orders new.past
  pub turns : new.turns ≡ old.turns + 1
  pub room : new.room ≡ no_flags (length old.room.vcpus) (length old.room.callers)

-- of an actor that hasn't written `gone` and waits for nobody
pub record Goes (old new : Seen) (actor : Actor) : Type 0 where
  pub present : gone actor old.past ≡ false
  pub unblocked : IsBlocked old.orders actor old.past → ⊥
  pub moves : Moves old new actor false

-- nothing was done, since the actor has written `gone`
pub record Rests (old new : Seen) (actor : Actor) : Type 0 where
  pub same : new ≡ old
  pub absent : gone actor old.past ≡ true

-- a kick of a vCPU with a flush pending
pub record Kicks (old new : Seen) (v : ℕ) : Type 0 where
  pub was_pending : pending v old.past ≡ true
  pub moves : Moves old new (Vcpu v) true

-- nothing was done, since no flush of the vCPU is pending
pub record Spares (old new : Seen) (v : ℕ) : Type 0 where
  pub same : new ≡ old
  pub none_pending : pending v old.past ≡ false

abbrev pub KickMoves : Seen → Seen → Actor → Type 0
KickMoves old new (Vcpu v) = Kicks old new v
KickMoves old new (Caller c) = ⊥

abbrev pub KickSpares : Seen → Seen → Actor → Type 0
KickSpares old new (Vcpu v) = Spares old new v
KickSpares old new (Caller c) = ⊥

-- nothing was done, since the actor waits
pub record Stalls (old new : Seen) (actor : Actor) (blocker : Blocker) : Type 0 where
  pub same : new ≡ old
  pub present : gone actor old.past ≡ false
  pub waits : WaitsOn old.orders actor blocker old.past

-- by the outcome
abbrev pub StepsTo : Seen → Seen → Actor → How → Outcome → Type 0
StepsTo old new actor Next Moved = Goes old new actor
StepsTo old new actor Next Done = Rests old new actor
StepsTo old new actor Kick Moved = KickMoves old new actor
StepsTo old new actor Kick Nothing = KickSpares old new actor
StepsTo old new actor Next Nothing = ⊥
StepsTo old new actor Next (Waits blocker) = Stalls old new actor blocker
StepsTo old new actor Kick Done = ⊥
StepsTo old new actor Kick (Waits blocker) = ⊥
