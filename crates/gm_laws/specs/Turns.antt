-- A whole turn by the tables: what it adds to a history that follows them.
use Rattle.std.specs.Prelude.{◌≡◌, ℕ, ◌<◌, ◌≤◌, List, [], ◌∷◌, true}
use Rattle.gm_base.specs.Scripts.{Orders, IsOf}
use Rattle.gm_base.specs.declared.values.Actor.{Actor}
use Rattle.gm_flat.specs.declared.entry.Entry.{Entry}
use Rattle.gm_flat.specs.declared.entry.What.{What}
use Rattle.gm_flat.specs.RightOrder.{is_row}
use Rattle.gm_laws.specs.May.{May}
use Rattle.gm_laws.specs.Ruled.{AllFreed}

-- the history after a turn's entries
abbrev pub onto : ℕ → Actor → List What → List Entry → List Entry
onto turn actor [] past = past
onto turn actor (w ∷ ws) past = onto turn actor ws (record { turn = turn; actor = actor; what = w } ∷ past)

-- each of them may come, one after another
abbrev pub EachMay : Orders → ℕ → Actor → List What → List Entry → Type 0
EachMay o turn actor [] past = Unit {0}
EachMay o turn actor (w ∷ ws) past = May o w actor past × EachMay o turn actor ws (record { turn = turn; actor = actor; what = w } ∷ past)

-- the turn's number is greater than those before, and not 0
abbrev pub IsNewTurn : ℕ → List Entry → Type 0
IsNewTurn turn [] = 1 ≤ turn
IsNewTurn turn (d ∷ past) = d.turn < turn

pub record IsTurn (o : Orders) (turn : ℕ) (actor : Actor) (ws : List What) (past : List Entry) : Type 0 where
  pub actor_is : IsOf o.setup actor
  pub new : IsNewTurn turn past
  pub row : is_row o.setup actor ws past ≡ true
  pub each_may : EachMay o turn actor ws past
  -- where it takes pages from a cache or ends a hold: nothing is left over
  pub freed : AllFreed (onto turn actor ws past)
