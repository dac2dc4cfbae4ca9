-- What a turn of an actor comes to, and a kick, and what a core with more room is.
use Rattle.std.specs.Prelude.{◌≡◌, ℕ, Bool, true, false}
use Rattle.gm_base.specs.declared.values.Actor.{Actor}
use Rattle.gm_base.specs.declared.values.Actor.TheVariants.{Vcpu}
use Rattle.gm_flat.specs.Histories.{gone}
use Rattle.gm_flat.specs.Mappings.{pending}
use Rattle.gm_flat.specs.RightOrder.{IsBlocked}
use Rattle.gm_turns.specs.Ready.{Settled, Turned}
use Rattle.gm_turns.specs.Room.{IsRoomyFor, orders_of}
use Rattle.gm_turns.specs.Waiting.{WaitsOn}
use Rattle.gm_turns.specs.declared.outcome.Blocker.{Blocker}
use Rattle.gm_turns.specs.declared.outcome.Outcome.{Outcome}
use Rattle.gm_turns.specs.declared.outcome.Outcome.TheVariants.{Moved, Done, Nothing, Waits}
use Rattle.gm_turns.specs.declared.parts.Core.{Core}

-- nothing was done, since the actor has written `gone`
pub record Rested (old new : Core) (actor : Actor) : Type 0 where
  pub same : new ≡ old
  pub absent : gone actor old.log.past ≡ true

-- nothing was done, since the actor waits
pub record Waited (old new : Core) (actor : Actor) (blocker : Blocker) : Type 0 where
  pub same : new ≡ old
  pub present : gone actor old.log.past ≡ false
  pub waits : WaitsOn (orders_of old) actor blocker old.log.past

-- a turn of an actor that hadn't written `gone`, and that waits for nobody
pub record Taken (old new : Core) (actor : Actor) : Type 0 where
  pub present : gone actor old.log.past ≡ false
  pub unblocked : IsBlocked (orders_of old) actor old.log.past → ⊥
  pub turned : Turned old new actor false

abbrev pub TurnsTo : Core → Core → Actor → Outcome → Type 0
TurnsTo old new actor Moved = Taken old new actor
TurnsTo old new actor Done = Rested old new actor
TurnsTo old new actor (Waits blocker) = Waited old new actor blocker
TurnsTo old new actor Nothing = ⊥

-- a kick of a vCPU with a flush pending
pub record Kicked (old new : Core) (v : ℕ) : Type 0 where
  pub was_pending : pending v old.log.past ≡ true
  pub turned : Turned old new (Vcpu v) true

-- nothing was done, since no flush of the vCPU is pending
pub record Unkicked (old new : Core) (v : ℕ) : Type 0 where
  pub same : new ≡ old
  pub none_pending : pending v old.log.past ≡ false

abbrev pub KicksTo : Core → Core → ℕ → Bool → Type 0
KicksTo old new v true = Kicked old new v
KicksTo old new v false = Unkicked old new v

-- some groups may have more room, and nothing else changed
pub record IsRoomier (old new : Core) : Type 0 where
  pub orders : orders_of new ≡ orders_of old
  pub past : new.log.past ≡ old.log.past
  pub turns : new.turns ≡ old.turns
  pub settled : Settled old → Settled new
  pub kept : (a : Actor) → IsRoomyFor old a → IsRoomyFor new a
