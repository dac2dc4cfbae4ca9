-- Words on where entries stand in a history.
use Rattle.std.specs.Prelude.{◌≡◌, ℕ, ◌<◌, List, [], ◌∷◌, Bool, true, false, ◌⊎◌, length}
use Rattle.gm_flat.specs.declared.entry.Entry.{Entry}

-- an entry stands in the history right after a past; its position is the length of that
abbrev pub Stands : Entry → List Entry → List Entry → Type 0
Stands e past [] = ⊥
Stands e past (d ∷ history) = ((d ≡ e) × (history ≡ past)) ⊎ Stands e past history

-- no entry passes the test
abbrev pub HasNone : (Entry → Bool) → List Entry → Type 0
HasNone test history = (e : Entry) (past : List Entry) → Stands e past history → test e ≡ false

-- none that stands after a position passes it
abbrev pub NoneAfter : ℕ → (Entry → Bool) → List Entry → Type 0
NoneAfter n test history = (e : Entry) (past : List Entry) → Stands e past history → n < length past → test e ≡ false

-- the last entry that passes it
pub record IsLast (test : Entry → Bool) (e : Entry) (past history : List Entry) : Type 0 where
  pub stands : Stands e past history
  pub passes : test e ≡ true
  pub last : NoneAfter (length past) test history
