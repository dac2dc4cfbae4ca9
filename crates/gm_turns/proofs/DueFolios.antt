-- Folios that a turn frees.
use Rattle.std.proofs.Common.{◌≡◌, ℕ, ◌+◌, ◌<◌, ◌≤◌, List, [], ◌∷◌, Some, ◌⊎◌}
use Rattle.gm_base.specs.declared.values.Folio.{Folio}
use Rattle.gm_flat.specs.FlatState.{Triple}
use Rattle.gm_flat.specs.Replay.{flat}
use Rattle.gm_flat.specs.RightLives.{IsCached, IsHeld, frame_of, index_of_folio}
use Rattle.gm_flat.specs.declared.entry.Entry.{Entry}
use Rattle.gm_laws.specs.Ruled.{IsUsed}
use Rattle.gm_store.specs.Frees.{HasSerial}
use Rattle.gm_turns.specs.declared.frees.Run.{Run}

-- a folio that was cached at the index before the turn, that is live, and that nothing uses any more
pub record IsDue (cache : List Triple) (past : List Entry) (index serial frame : ℕ) : Type 0 where
  pub at : index_of_folio serial cache ≡ Some index
  pub live : frame_of serial (flat past).folios ≡ Some frame
  pub not_cached : IsCached serial (flat past) → ⊥
  pub not_held : IsHeld serial past → ⊥

-- each is due, in order of index, the first at lo or after it
abbrev pub AllDue : List Triple → List Entry → ℕ → List (ℕ × Folio) → Type 0
AllDue cache past lo [] = Unit {0}
AllDue cache past lo (p ∷ ps) = (lo ≤ p.0) × IsDue cache past p.0 p.1.serial p.1.frame × AllDue cache past (p.0 + 1) ps

pub record RunDue (cache : List Triple) (past : List Entry) (r : Run) : Type 0 where
  pub some : 0 < r.pages
  pub each : (k : ℕ) → k < r.pages → IsDue cache past (r.index + k) (r.folio.serial + k) (r.folio.frame + k)

-- what was used before a change is used after it, or is one of the folios
abbrev pub IsCovered : List Entry → List Entry → List (ℕ × Folio) → Type 0
IsCovered before after ps = (s : ℕ) → IsUsed s before → IsUsed s after ⊎ HasSerial s ps
