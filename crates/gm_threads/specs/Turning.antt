-- What one hold of the lock does to the machine.
use Rattle.std.specs.Prelude.{◌≡◌, ℕ, List, ◌⊎◌, IsSome}
use Rattle.gm_base.specs.declared.values.Actor.{Actor}
use Rattle.gm_base.specs.declared.values.Actor.TheVariants.{Caller, Vcpu}
use Rattle.gm_flat.specs.Histories.{fault}
use Rattle.gm_flat.specs.declared.entry.Entry.{Entry}
use Rattle.gm_flat.specs.declared.views.Sighting.{Sighting}
use Rattle.gm_publish.specs.Publisheds.{DepositsAs, PublishedSeen, StepsAs}
use Rattle.gm_turns.specs.declared.outcome.How.TheVariants.{Kick, Next}
use Rattle.gm_turns.specs.declared.outcome.Outcome.{Outcome}
use Rattle.gm_turns.specs.declared.outcome.Outcome.TheVariants.{Moved}
use Rattle.gm_vcpus.specs.Asks.{asked_in}

-- the vCPU's fault has only missed
abbrev pub IsAsked : ℕ → List Entry → Type 0
IsAsked v past = IsSome (asked_in (fault v past))

-- a sample and a look of some sighting came in one turn of the vCPU, and nothing else
pub record Hands (old new : PublishedSeen) (v : ℕ) (outcome : Outcome) : Type 0 where
  pub moved : outcome ≡ Moved
  pub sighting : Sighting
  pub deposits : DepositsAs old new v sighting

-- one turn: the caller's next one; of a vCPU a kick, its next turn, or a sample and a look that it hands in
abbrev pub TakesOne : PublishedSeen → PublishedSeen → Actor → Outcome → Type 0
TakesOne old new (Caller c) outcome = StepsAs old new (Caller c) Next outcome
TakesOne old new (Vcpu v) outcome = StepsAs old new (Vcpu v) Kick outcome ⊎ (StepsAs old new (Vcpu v) Next outcome ⊎ Hands old new v outcome)
