-- A history that follows the tables: each entry may come where it stands, the entries of each turn are a row, and a turn
-- that takes pages from a cache or ends a hold frees what nothing uses any more.
use Rattle.std.specs.Prelude.{◌≡◌, ℕ, List, [], ◌∷◌, Bool, true, false, ◌&&◌, ◌||◌, ◌⊎◌}
use Rattle.gm_base.specs.Scripts.{Orders, IsOf}
use Rattle.gm_flat.specs.declared.effect.Effect.{Effect}
use Rattle.gm_flat.specs.declared.effect.Effect.TheVariants.{Cut, Shut}
use Rattle.gm_flat.specs.declared.entry.Entry.{Entry}
use Rattle.gm_flat.specs.declared.entry.What.{What}
use Rattle.gm_flat.specs.declared.entry.What.TheVariants.{Retry, Change}
use Rattle.gm_flat.specs.Histories.{same_turn, before_turn}
use Rattle.gm_flat.specs.FlatState.{is_live}
use Rattle.gm_flat.specs.Replay.{flat}
use Rattle.gm_flat.specs.RightLives.{IsCached, IsHeld}
use Rattle.gm_flat.specs.RightOrder.{IsTogether, IsWhole}
use Rattle.gm_laws.specs.May.{May}

-- whether the entry takes pages from a cache, or ends a hold without a leaf
abbrev pub cuts : Effect → Bool
cuts (Cut file lo hi) = true
cuts (Shut file) = true
cuts _ = false

abbrev pub loosens : What → Bool
loosens (Change effect) = cuts effect
loosens Retry = true
loosens _ = false

-- whether an entry of the newest turn does
abbrev pub loosened : List Entry → Bool
loosened [] = false
loosened (e ∷ past) = loosens e.what || (same_turn e past && loosened past)

abbrev pub IsUsed : ℕ → List Entry → Type 0
IsUsed serial past = IsCached serial (flat past) ⊎ IsHeld serial past

-- a folio that was cached or held before such a turn is so after it, or is freed
abbrev pub AllFreed : List Entry → Type 0
AllFreed past = loosened past ≡ true → (serial : ℕ) → IsUsed serial (before_turn past) → IsUsed serial past ⊎ (is_live serial (flat past).folios ≡ false)

pub record FollowsRules (o : Orders) (e : Entry) (past : List Entry) : Type 0 where
  pub actor_is : IsOf o.setup e.actor
  pub together : IsTogether e past
  pub row : same_turn e past ≡ false → IsWhole o.setup past
  pub freed : same_turn e past ≡ false → AllFreed past
  pub begins_turn : loosens e.what ≡ true → same_turn e past ≡ false
  pub may : May o e.what e.actor past

-- for each entry
abbrev pub Follows : Orders → List Entry → Type 0
Follows o [] = Unit {0}
Follows o (e ∷ past) = FollowsRules o e past × Follows o past

-- and the last turn is whole
pub record Ruled (o : Orders) (past : List Entry) : Type 0 where
  pub follows : Follows o past
  pub row : IsWhole o.setup past
  pub freed : AllFreed past
