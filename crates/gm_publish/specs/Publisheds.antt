-- What contracts see of a machine whose views are published.
use Rattle.std.specs.Prelude.{ℕ, List}
use Rattle.gm_base.specs.Scripts.{Orders}
use Rattle.gm_base.specs.declared.values.Actor.{Actor}
use Rattle.gm_flat.specs.declared.entry.Entry.{Entry}
use Rattle.gm_flat.specs.declared.views.Sighting.{Sighting}
use Rattle.gm_machine.specs.Deposits.{Deposits}
use Rattle.gm_machine.specs.Flags.{Flags}
use Rattle.gm_machine.specs.Steps.{Seen, StepsTo}
use Rattle.gm_turns.specs.declared.outcome.How.{How}
use Rattle.gm_turns.specs.declared.outcome.Outcome.{Outcome}
use Rattle.gm_views.specs.declared.sights.Sight.{Sight}

-- its setup and each actor's commands, its history with the newest entry first, its turns, and the views after the opening,
-- the oldest first
pub record PublishedSeen : Type 0 where
  pub orders : Orders
  pub past : List Entry
  pub turns : ℕ
  pub published : List Sight

-- as the machine's contracts see it, whoever has room
abbrev pub seen_by : PublishedSeen → Flags → Seen
seen_by p room = record { orders = p.orders; past = p.past; turns = p.turns; room = room }

-- a step of the machine, whoever has room before and after it
pub record StepsAs (old new : PublishedSeen) (actor : Actor) (how : How) (outcome : Outcome) : Type 0 where
  pub before : Flags
  pub after : Flags
  pub steps : StepsTo (seen_by old before) (seen_by new after) actor how outcome

-- a deposit of a sighting, likewise
pub record DepositsAs (old new : PublishedSeen) (v : ℕ) (sight : Sighting) : Type 0 where
  pub before : Flags
  pub after : Flags
  pub deposits : Deposits (seen_by old before) (seen_by new after) v sight
