-- What is told of an actor's next turn before it is taken.
use Rattle.std.specs.Prelude.{◌≡◌, ℕ, List, true, false, None, ◌⊎◌}
use Rattle.std.specs.declared.option.Option.{Option}
use Rattle.gm_base.specs.Scripts.{Orders}
use Rattle.gm_base.specs.declared.values.Actor.{Actor}
use Rattle.gm_flat.specs.Histories.{gone}
use Rattle.gm_flat.specs.RightOrder.{IsBlocked}
use Rattle.gm_flat.specs.declared.entry.Entry.{Entry}
use Rattle.gm_turns.specs.Ahead.{ahead_in}
use Rattle.gm_turns.specs.Ready.{TookTurn}
use Rattle.gm_turns.specs.declared.outcome.Ahead.{Ahead}

-- what the turn of this number will have changed of what is shown, whichever it is by the tables; nothing where the actor
-- has written `gone` or waits
pub record Foretells (o : Orders) (actor : Actor) (turn : ℕ) (before : List Entry) (told : Option Ahead) : Type 0 where
  pub moves : (past : List Entry) → gone actor before ≡ false → (IsBlocked o actor before → ⊥) → TookTurn o turn actor false before past → told ≡ ahead_in turn past
  pub stays : (gone actor before ≡ true) ⊎ IsBlocked o actor before → told ≡ None
