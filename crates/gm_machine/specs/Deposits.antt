-- What the deposit of a sighting does, as contracts see it.
use Rattle.std.specs.Prelude.{◌≡◌, ℕ, ◌+◌, length}
use Rattle.gm_base.specs.declared.values.Actor.TheVariants.{Vcpu}
use Rattle.gm_flat.specs.RightHistory.{Right}
use Rattle.gm_flat.specs.declared.views.Sighting.{Sighting}
use Rattle.gm_laws.specs.Turns.{IsTurn, onto}
use Rattle.gm_machine.specs.Flags.{no_flags}
use Rattle.gm_machine.specs.Steps.{Seen}
use Rattle.gm_turns.specs.Depositing.{sighting_entries}

-- a sample and a look of these values came in one turn, and nothing else; the history is right, the turn is counted, the
-- room is used up
pub record Deposits (old new : Seen) (v : ℕ) (s : Sighting) : Type 0 where
  pub orders : new.orders ≡ old.orders
  pub past : new.past ≡ onto (old.turns + 1) (Vcpu v) (sighting_entries s) old.past
  pub by_tables : IsTurn old.orders (old.turns + 1) (Vcpu v) (sighting_entries s) old.past
  pub right : Right new.orders new.past
  pub turns : new.turns ≡ old.turns + 1
  pub room : new.room ≡ no_flags (length old.room.vcpus) (length old.room.callers)
