-- Turn numbers that go from 1 to the count of turns.
use Rattle.std.specs.Prelude.{◌≡◌, ℕ, List, [], ◌∷◌}
use Rattle.gm_flat.specs.Plays.{IsCounted}
use Rattle.gm_flat.specs.RightHistory.{Each}
use Rattle.gm_flat.specs.declared.entry.Entry.{Entry}

-- the newest entry is of turn n; where there is none, n is 0
abbrev pub EndsAt : ℕ → List Entry → Type 0
EndsAt n [] = n ≡ 0
EndsAt n (e ∷ past) = e.turn ≡ n

-- turn numbers are 1 to n with none left out
pub record CountedTo (n : ℕ) (past : List Entry) : Type 0 where
  pub ends : EndsAt n past
  pub each : Each IsCounted past
