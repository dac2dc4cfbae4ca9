-- A pool after folios leave their cache one after another.
use Rattle.std.specs.Prelude.{◌≡◌, ◌≢◌, ℕ, List, [], ◌∷◌, Bool, true, false, Option, Some, None, if◌then◌else◌}
use Rattle.gm_base.specs.declared.values.Folio.{Folio}
use Rattle.gm_pool.specs.Pools.{Frames, IsLive, is_idle, uncached, use_of, with_use}
use Rattle.gm_pool.specs.declared.uses.Use.{Use}

-- a use after its folio left the cache: none where nothing holds the folio
abbrev pub use_left : Option Use → Option Use
use_left None = None
use_left (Some u) = if is_idle (uncached u) then None else Some (uncached u)

-- whether nothing holds it
abbrev pub is_unheld : Option Use → Bool
is_unheld None = false
is_unheld (Some u) = is_idle (uncached u)

abbrev pub left_one : Folio → Frames → Frames
left_one folio pool = with_use pool folio.frame (use_left (use_of pool folio.frame))

abbrev pub left_by : List (ℕ × Folio) → Frames → Frames
left_by [] pool = pool
left_by (p ∷ ps) pool = left_by ps (left_one p.1 pool)

-- those that nothing holds
abbrev pub unheld : List (ℕ × Folio) → Frames → List (ℕ × Folio)
unheld [] pool = []
unheld (p ∷ ps) pool = if is_unheld (use_of pool p.1.frame) then p ∷ unheld ps (left_one p.1 pool) else unheld ps (left_one p.1 pool)

-- none of the folios has the frame
abbrev pub NoneIn : ℕ → List (ℕ × Folio) → Type 0
NoneIn frame [] = Unit {0}
NoneIn frame (p ∷ ps) = (frame ≢ p.1.frame) × NoneIn frame ps

-- each is live and cached, and they have different frames
abbrev pub AllLive : Frames → List (ℕ × Folio) → Type 0
AllLive pool [] = Unit {0}
AllLive pool (p ∷ ps) = IsLive pool p.1 (λ usage. usage.cached ≡ true) × NoneIn p.1.frame ps × AllLive pool ps
