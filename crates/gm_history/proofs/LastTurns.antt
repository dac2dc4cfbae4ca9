-- The turn of the last entry.
use Rattle.std.proofs.Common.{◌≡◌, ℕ, List, [], ◌∷◌, ◌++◌, refl}
use Rattle.gm_flat.specs.declared.entry.Entry.{Entry}
use Rattle.gm_history.specs.TextForm.{turn_of_last, last_turn}

pub turn_push : (turn : ℕ) (es fs : List Entry) → turn_of_last turn (es ++ fs) ≡ turn_of_last (turn_of_last turn es) fs
turn_push turn [] fs = refl
turn_push turn (e ∷ es) fs = turn_push e.turn es fs

pub last_push : (es : List Entry) (e : Entry) → last_turn (es ++ e ∷ []) ≡ e.turn
last_push es e = turn_push 0 es (e ∷ [])
