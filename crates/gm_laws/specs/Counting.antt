-- Begins and Ends, counted: how many stand in a history, and how many before a position.
use Rattle.std.specs.Prelude.{ℕ, suc, List, [], ◌∷◌, length, nat_le, if◌then◌else◌}
use Rattle.gm_flat.specs.declared.entry.Entry.{Entry}
use Rattle.gm_flat.specs.declared.entry.What.{What}
use Rattle.gm_flat.specs.declared.entry.What.TheVariants.{Begin, End}

abbrev pub asked_step : What → ℕ → ℕ
asked_step (Begin spans) n = suc n
asked_step _ n = n

-- the number of Begins, and of those before position i
abbrev pub asked : List Entry → ℕ
asked [] = 0
asked (e ∷ past) = asked_step e.what (asked past)

abbrev pub asked_at : ℕ → List Entry → ℕ
asked_at i [] = 0
asked_at i (e ∷ past) = if nat_le i (length past) then asked_at i past else asked (e ∷ past)

abbrev pub ends_step : What → ℕ → ℕ
ends_step End n = suc n
ends_step _ n = n

-- the number of Ends, and of those before position i
abbrev pub ends : List Entry → ℕ
ends [] = 0
ends (e ∷ past) = ends_step e.what (ends past)

abbrev pub ends_at : ℕ → List Entry → ℕ
ends_at i [] = 0
ends_at i (e ∷ past) = if nat_le i (length past) then ends_at i past else ends (e ∷ past)
