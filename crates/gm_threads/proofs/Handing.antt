-- A sample and a look that are handed in, whether the sighting was true or not.
use Rattle.std.proofs.Common.{◌≡◌, ◌⊎◌, ℕ, Err, IfOk, Ok, ap, inl, inr}
use Rattle.std.specs.Prelude.{OnErr, OnOk}
use Rattle.std.specs.declared.result.Result.{Result}
use Rattle.gm_flat.specs.declared.views.Sighting.{Sighting}
use Rattle.gm_publish.specs.Publisheds.{DepositsAs, PublishedSeen}
use Rattle.gm_threads.proofs.Deciding.{is_true}
use Rattle.gm_threads.specs.Turning.{Hands}
use Rattle.gm_turns.specs.Depositing.{IsTrueSight}
use Rattle.gm_turns.specs.declared.outcome.Outcome.{Outcome}
use Rattle.gm_turns.specs.declared.outcome.Outcome.TheVariants.{Moved}

hands : (old new : PublishedSeen) (v : ℕ) (s other : Sighting) (outcome : Outcome) → outcome ≡ Moved → (IsTrueSight v s old.past → DepositsAs old new v s) → ((IsTrueSight v s old.past → ⊥) → DepositsAs old new v other) → Hands old new v outcome
hands old new v s other outcome moved kept otherwise = by (is_true v s old.past)
  where
    by : IsTrueSight v s old.past ⊎ (IsTrueSight v s old.past → ⊥) → Hands old new v outcome
    by (inl h) = record { moved = moved; sighting = s; deposits = kept h }
    by (inr n) = record { moved = moved; sighting = other; deposits = otherwise n }

pub handed : {E : Type 0} (old new : PublishedSeen) (v : ℕ) (s other : Sighting) (r : Result Outcome E) → IfOk r (λ o. o ≡ Moved) → OnOk r (IsTrueSight v s old.past → DepositsAs old new v s) → OnOk r ((IsTrueSight v s old.past → ⊥) → DepositsAs old new v other) → IfOk r (λ o. Hands old new v o)
handed old new v s other (Ok o) moved kept otherwise = hands old new v s other o moved kept otherwise
handed old new v s other (Err e) moved kept otherwise = tt

pub handed_same : {E : Type 0} (old new : PublishedSeen) (v : ℕ) (r : Result Outcome E) → IfOk r (λ o. Hands old new v o) → OnErr r (new ≡ old) → new.orders ≡ old.orders
handed_same old new v (Ok o) h err = h.deposits.deposits.orders
handed_same old new v (Err e) h err = ap (λ (p : PublishedSeen). p.orders) err
