-- *plays* and *full*: how a history stands to a list of turns, and when it has all that its script asks for.
-- (This project's own.)
use Rattle.std.specs.Prelude.{◌≡◌, ℕ, zero, suc, ◌≤◌, ◌↔◌, List, [], ◌∷◌, ◌++◌, Bool, true, false, ◌⊎◌, length, Some, None, nat_eq, nat_lt, if◌then◌else◌}
use Rattle.std.specs.declared.option.Option.{Option}
use Rattle.gm_base.specs.Scripts.{Orders, IsOf}
use Rattle.gm_base.specs.declared.script.Turn.{Turn}
use Rattle.gm_base.specs.declared.script.Turn.TheVariants.{Next, Kick}
use Rattle.gm_base.specs.declared.values.Actor.{Actor}
use Rattle.gm_base.specs.declared.values.Actor.TheVariants.{Vcpu}
use Rattle.gm_flat.specs.declared.entry.Entry.{Entry}
use Rattle.gm_flat.specs.declared.entry.What.{What}
use Rattle.gm_flat.specs.declared.entry.What.TheVariants.{Flush, Sample, Look}
use Rattle.gm_flat.specs.Histories.{gone, same_turn}
use Rattle.gm_flat.specs.Mappings.{pending}
use Rattle.gm_flat.specs.RightHistory.{Each}
use Rattle.gm_flat.specs.RightOrder.{IsBlocked}

-- the entries with a turn number, in their order, and the history before them
abbrev pub turn_entries : ℕ → List Entry → List What
turn_entries k [] = []
turn_entries k (e ∷ past) = if nat_eq e.turn k then turn_entries k past ++ e.what ∷ [] else turn_entries k past

abbrev pub before_number : ℕ → List Entry → List Entry
before_number k [] = []
before_number k (e ∷ past) = if nat_lt e.turn k then e ∷ past else before_number k past

abbrev pub turn_at : List Turn → ℕ → Option Turn
turn_at [] n = None
turn_at (t ∷ turns) zero = Some t
turn_at (t ∷ turns) (suc n) = turn_at turns n

abbrev pub actor_of : Turn → Actor
actor_of (Next actor) = actor
actor_of (Kick v) = Vcpu v

-- a kick is one Flush
abbrev pub is_kick : List What → Bool
is_kick (Flush ∷ []) = true
is_kick _ = false

-- a turn that isn't a kick has no entry exactly where its actor has written Gone or is blocked; a kick exactly where no
-- flush is pending
abbrev pub IsPlayed : Orders → Turn → List What → List Entry → Type 0
IsPlayed o (Next a) ws before = (is_kick ws ≡ false) × ((ws ≡ []) ↔ ((gone a before ≡ true) ⊎ IsBlocked o a before))
IsPlayed o (Kick v) ws before = ((ws ≡ []) ⊎ (is_kick ws ≡ true)) × ((ws ≡ []) ↔ (pending v before ≡ false))

-- turn numbers never fall
abbrev pub NoFall : Entry → List Entry → Type 0
NoFall e [] = Unit {0}
NoFall e (d ∷ past) = d.turn ≤ e.turn

-- each Sample and each Look has its own position as `at`, and a Look is a turn of its own; so is a Sample, by the rows
abbrev pub IsHere : What → Bool → List Entry → Type 0
IsHere (Sample at) shared past = at ≡ length past
IsHere (Look at slot attr file) shared past = (at ≡ length past) × (shared ≡ false)
IsHere _ shared past = Unit {0}

-- an entry of turn k is of the actor of the turn
abbrev pub IsOfTurn : ℕ → Actor → Entry → List Entry → Type 0
IsOfTurn k a e past = e.turn ≡ k → e.actor ≡ a

pub record PlaysTurn (o : Orders) (k : ℕ) (t : Turn) (past : List Entry) : Type 0 where
  pub of_actor : Each (IsOfTurn k (actor_of t)) past
  pub played : IsPlayed o t (turn_entries k past) (before_number k past)

-- turns are numbered from 1
pub record Plays (o : Orders) (turns : List Turn) (past : List Entry) : Type 0 where
  pub no_fall : Each NoFall past
  pub in_range : Each (λ e p. (1 ≤ e.turn) × (e.turn ≤ length turns)) past
  pub each_turn : (k : ℕ) (t : Turn) → turn_at turns k ≡ Some t → PlaysTurn o (suc k) t past
  pub here : Each (λ e p. IsHere e.what (same_turn e p) p) past

-- turn numbers are 1, 2 and so on, with none left out
abbrev pub IsCounted : Entry → List Entry → Type 0
IsCounted e [] = e.turn ≡ 1
IsCounted e (d ∷ past) = (e.turn ≡ d.turn) ⊎ (e.turn ≡ suc d.turn)

pub record Full (o : Orders) (past : List Entry) : Type 0 where
  pub all_gone : (a : Actor) → IsOf o.setup a → gone a past ≡ true
  pub counted : Each IsCounted past
