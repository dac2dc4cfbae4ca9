-- What may go on where an actor waits.
use Rattle.std.specs.Prelude.{◌≡◌, ℕ, ◌<◌, true, IsSome, Some, None}
use Rattle.std.specs.declared.option.Option.{Option}
use Rattle.gm_base.specs.declared.values.Actor.TheVariants.{Vcpu, Caller}
use Rattle.gm_flat.specs.Histories.{call}
use Rattle.gm_flat.specs.Mappings.{pending}
use Rattle.gm_machine.specs.Steps.{Seen, StepsTo}
use Rattle.gm_turns.specs.declared.outcome.Blocker.{Blocker}
use Rattle.gm_turns.specs.declared.outcome.Blocker.TheVariants.{Lock, Inside}
use Rattle.gm_turns.specs.declared.outcome.How.TheVariants.{Next, Kick}
use Rattle.gm_turns.specs.declared.outcome.Outcome.{Outcome}
use Rattle.gm_turns.specs.declared.outcome.Outcome.TheVariants.{Moved, Waits}

-- the blocker that an outcome tells
abbrev pub blocker_in : Outcome → Option Blocker
blocker_in (Waits blocker) = Some blocker
blocker_in outcome = None

-- a caller whose call is in progress, and of which no turn waits for a lock
pub record HolderGoesOn (m : Seen) (c : ℕ) : Type 0 where
  pub is_caller : c < m.orders.setup.callers
  pub in_progress : IsSome (call c m.past)
  pub no_lock : (new : Seen) (holder : ℕ) → StepsTo m new (Caller c) Next (Waits (Lock holder)) → ⊥

-- a vCPU with a flush pending, so that a kick of it moves
pub record FlushGoesOn (m : Seen) (v : ℕ) : Type 0 where
  pub is_vcpu : v < m.orders.setup.vcpus
  pub is_pending : pending v m.past ≡ true
  pub kick_moves : (new : Seen) (outcome : Outcome) → StepsTo m new (Vcpu v) Kick outcome → outcome ≡ Moved

-- whom an actor waits for can go on
abbrev pub BlockerGoesOn : Seen → Blocker → Type 0
BlockerGoesOn m (Lock c) = HolderGoesOn m c
BlockerGoesOn m (Inside v) = FlushGoesOn m v
