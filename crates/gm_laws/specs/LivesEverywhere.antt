-- Of folios at every position, also inside a turn: one that is cached or held is live, and two live ones have different
-- frames.
use Rattle.std.specs.Prelude.{◌≡◌, ℕ, List, true, ◌⊎◌, Some}
use Rattle.gm_flat.specs.declared.entry.Entry.{Entry}
use Rattle.gm_flat.specs.FlatState.{is_live}
use Rattle.gm_flat.specs.Replay.{flat}
use Rattle.gm_flat.specs.RightLives.{IsCached, IsHeld, frame_of}

pub record LivesEverywhere (past : List Entry) : Type 0 where
  pub used_is_live : (serial : ℕ) → IsCached serial (flat past) ⊎ IsHeld serial past → is_live serial (flat past).folios ≡ true
  pub frames_differ : (s t frame : ℕ) → frame_of s (flat past).folios ≡ Some frame → frame_of t (flat past).folios ≡ Some frame → s ≡ t
