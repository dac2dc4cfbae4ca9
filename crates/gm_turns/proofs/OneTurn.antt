-- A turn by the tables, and what it does to a core.
use Rattle.std.proofs.Common.{◌≡◌, ℕ, ◌+◌, ◌<◌, List, [], ◌∷◌, Bool, true, false, arith, subst, sym, refl}
use Rattle.gm_base.specs.Scripts.{Orders}
use Rattle.gm_base.specs.declared.values.Actor.{Actor}
use Rattle.gm_callers.proofs.Turning.{EachOfThree}
use Rattle.gm_flat.specs.Plays.{is_kick}
use Rattle.gm_flat.specs.RightOrder.{is_row}
use Rattle.gm_flat.specs.declared.entry.Entry.{Entry}
use Rattle.gm_flat.specs.declared.entry.What.{What}
use Rattle.gm_laws.proofs.Kit.{by}
use Rattle.gm_laws.proofs.TurnsKeep.{new_turn, quiet_freed, turn_ruled}
use Rattle.gm_laws.specs.May.{May}
use Rattle.gm_laws.specs.Ruled.{AllFreed, Ruled, loosens}
use Rattle.gm_laws.specs.Turns.{EachMay, IsNewTurn, IsTurn, onto}
use Rattle.gm_mapping.proofs.Lists.{self}
use Rattle.gm_turns.specs.Ready.{CoreStands, IsHereAlone, IsReady, Turned}
use Rattle.gm_turns.specs.Room.{orders_of}
use Rattle.gm_turns.specs.declared.parts.Core.{Core}

-- what a core is after a turn, apart from its entries
pub record After (k n : Core) (a : Actor) (ws : List What) : Type 0 where
  pub stands : CoreStands n
  pub past_is : n.log.past ≡ onto (k.turns + 1) a ws k.log.past
  pub orders : orders_of n ≡ orders_of k
  pub turns : n.turns ≡ k.turns

-- what a turn owes to the tables
pub record Owed (k : Core) (a : Actor) (ws : List What) (kick : Bool) : Type 0 where
  pub each_may : EachMay (orders_of k) (k.turns + 1) a ws k.log.past
  pub row : is_row k.setup a ws k.log.past ≡ true
  pub kick_is : is_kick ws ≡ kick
  pub freed : AllFreed (onto (k.turns + 1) a ws k.log.past)
  pub here : IsHereAlone ws k.log.past
  pub next : IsNewTurn (k.turns + 2) (onto (k.turns + 1) a ws k.log.past)

pub turn_by : (k n : Core) (a : Actor) (ws : List What) (kick : Bool) → IsReady k a → After k n a ws → Owed k a ws kick → Turned k n a kick
turn_by k n a ws kick r x o =
    let turn : IsTurn (orders_of k) (k.turns + 1) a ws k.log.past = record { actor_is = r.actor_is; new = r.settled.new_turn; row = o.row; each_may = o.each_may; freed = o.freed } in
    record {
      stands = x.stands;
      ruled = subst (λ (y : Orders). Ruled y n.log.past) (sym x.orders) (subst (Ruled (orders_of k)) (sym x.past_is) (turn_ruled (orders_of k) (k.turns + 1) a ws k.log.past turn r.settled.ruled));
      orders = x.orders;
      turns = x.turns;
      next = subst (IsNewTurn (k.turns + 2)) (sym x.past_is) o.next;
      took = record { entries = ws; past_is = x.past_is; by_tables = turn; kick_is = o.kick_is; here = o.here };
    }

next_new : (n : ℕ) → n + 1 < n + 2
next_new n = omega arith

-- one entry
pub one_entry : (k n : Core) (a : Actor) (w : What) (kick : Bool) → IsReady k a → After k n a (w ∷ []) → May (orders_of k) w a k.log.past → is_row k.setup a (w ∷ []) k.log.past ≡ true → is_kick (w ∷ []) ≡ kick → loosens w ≡ false → IsHereAlone (w ∷ []) k.log.past → Turned k n a kick
one_entry k n a w kick r x may row kick_is l here =
    let f = new_turn (k.turns + 1) a w k.log.past r.settled.new_turn in
    turn_by k n a (w ∷ []) kick r x (record {
      each_may = (may, tt);
      row = row;
      kick_is = kick_is;
      freed = quiet_freed (by (k.turns + 1) a w ∷ k.log.past) (rw (l, f) refl);
      here = here;
      next = next_new k.turns;
    })

-- two entries
pub two_entries : (k n : Core) (a : Actor) (w v : What) → IsReady k a → After k n a (w ∷ v ∷ []) → May (orders_of k) w a k.log.past × May (orders_of k) v a (by (k.turns + 1) a w ∷ k.log.past) → is_row k.setup a (w ∷ v ∷ []) k.log.past ≡ true → is_kick (w ∷ v ∷ []) ≡ false → (loosens w ≡ false) × (loosens v ≡ false) → IsHereAlone (w ∷ v ∷ []) k.log.past → Turned k n a false
two_entries k n a w v r x may row kick_is l here =
    let f = new_turn (k.turns + 1) a w k.log.past r.settled.new_turn in
    turn_by k n a (w ∷ v ∷ []) false r x (record {
      each_may = (may.0, (may.1, tt));
      row = row;
      kick_is = kick_is;
      freed = quiet_freed (by (k.turns + 1) a v ∷ by (k.turns + 1) a w ∷ k.log.past) (rw (l.0, l.1, f, self (k.turns + 1)) refl);
      here = here;
      next = next_new k.turns;
    })

-- three entries
pub three_entries : (k n : Core) (a : Actor) (w v u : What) → IsReady k a → After k n a (w ∷ v ∷ u ∷ []) → May (orders_of k) w a k.log.past × May (orders_of k) v a (by (k.turns + 1) a w ∷ k.log.past) × May (orders_of k) u a (by (k.turns + 1) a v ∷ by (k.turns + 1) a w ∷ k.log.past) → is_row k.setup a (w ∷ v ∷ u ∷ []) k.log.past ≡ true → is_kick (w ∷ v ∷ u ∷ []) ≡ false → (loosens w ≡ false) × (loosens v ≡ false) × (loosens u ≡ false) → IsHereAlone (w ∷ v ∷ u ∷ []) k.log.past → Turned k n a false
three_entries k n a w v u r x may row kick_is l here =
    let f = new_turn (k.turns + 1) a w k.log.past r.settled.new_turn in
    turn_by k n a (w ∷ v ∷ u ∷ []) false r x (record {
      each_may = (may.0, (may.1, (may.2, tt)));
      row = row;
      kick_is = kick_is;
      freed = quiet_freed (by (k.turns + 1) a u ∷ by (k.turns + 1) a v ∷ by (k.turns + 1) a w ∷ k.log.past) (rw (l.0, l.1, l.2, f, self (k.turns + 1)) refl);
      here = here;
      next = next_new k.turns;
    })
