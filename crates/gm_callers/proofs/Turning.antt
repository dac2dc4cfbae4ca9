-- A turn of one entry, two or three, by the tables.
use Rattle.std.proofs.Common.{◌≡◌, ℕ, List, [], ◌∷◌, true, false, refl}
use Rattle.gm_base.specs.Scripts.{IsOf, Orders}
use Rattle.gm_base.specs.declared.values.Actor.{Actor}
use Rattle.gm_flat.specs.RightOrder.{is_row}
use Rattle.gm_flat.specs.declared.entry.Entry.{Entry}
use Rattle.gm_flat.specs.declared.entry.What.{What}
use Rattle.gm_laws.proofs.Kit.{by}
use Rattle.gm_laws.proofs.TurnsKeep.{new_turn, quiet_freed, turn_ruled}
use Rattle.gm_laws.specs.May.{May}
use Rattle.gm_laws.specs.Ruled.{Ruled, loosens}
use Rattle.gm_laws.specs.Turns.{IsNewTurn, onto}
use Rattle.gm_callers.proofs.Lists.{self}

-- a history to which an actor may add a turn
pub record TakesTurn (o : Orders) (t : ℕ) (a : Actor) (past : List Entry) : Type 0 where
  pub actor_is : IsOf o.setup a
  pub new : IsNewTurn t past
  pub ruled : Ruled o past

pub one_entry : (o : Orders) (t : ℕ) (a : Actor) (w : What) (past : List Entry) → TakesTurn o t a past → is_row o.setup a (w ∷ []) past ≡ true → loosens w ≡ false → May o w a past → Ruled o (onto t a (w ∷ []) past)
one_entry o t a w past r row l may =
    let n = new_turn t a w past r.new in
    turn_ruled o t a (w ∷ []) past
    (record { actor_is = r.actor_is; new = r.new; row = row; each_may = (may, tt); freed = quiet_freed (onto t a (w ∷ []) past) (rw (l, n) refl) })
    r.ruled

pub two_entries : (o : Orders) (t : ℕ) (a : Actor) (w v : What) (past : List Entry) → TakesTurn o t a past → is_row o.setup a (w ∷ v ∷ []) past ≡ true → loosens w ≡ false → loosens v ≡ false → May o w a past → May o v a (by t a w ∷ past) → Ruled o (onto t a (w ∷ v ∷ []) past)
two_entries o t a w v past r row l m may then =
    let n = new_turn t a w past r.new in
    turn_ruled o t a (w ∷ v ∷ []) past
    (record { actor_is = r.actor_is; new = r.new; row = row; each_may = (may, (then, tt)); freed = quiet_freed (onto t a (w ∷ v ∷ []) past) (rw (l, m, n, self t) refl) })
    r.ruled

-- what each entry of a turn of three owes
pub record EachOfThree (o : Orders) (t : ℕ) (a : Actor) (w v u : What) (past : List Entry) : Type 0 where
  pub first : May o w a past
  pub second : May o v a (by t a w ∷ past)
  pub third : May o u a (by t a v ∷ by t a w ∷ past)
  pub first_quiet : loosens w ≡ false
  pub second_quiet : loosens v ≡ false
  pub third_quiet : loosens u ≡ false

pub three_entries : (o : Orders) (t : ℕ) (a : Actor) (w v u : What) (past : List Entry) → TakesTurn o t a past → is_row o.setup a (w ∷ v ∷ u ∷ []) past ≡ true → EachOfThree o t a w v u past → Ruled o (onto t a (w ∷ v ∷ u ∷ []) past)
three_entries o t a w v u past r row m =
    let n = new_turn t a w past r.new in
    turn_ruled o t a (w ∷ v ∷ u ∷ []) past
    (record { actor_is = r.actor_is; new = r.new; row = row; each_may = (m.first, (m.second, (m.third, tt))); freed = quiet_freed (onto t a (w ∷ v ∷ u ∷ []) past) (rw (m.first_quiet, m.second_quiet, m.third_quiet, n, self t) refl) })
    r.ruled
