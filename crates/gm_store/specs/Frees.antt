-- Folios that are freed.
use Rattle.std.specs.Prelude.{◌≡◌, ℕ, ◌+◌, ◌<◌, ◌≤◌, List, [], ◌∷◌, Bool, true, false, not, ◌&&◌, ◌⊎◌, Some, nat_eq}
use Rattle.gm_base.specs.declared.values.Folio.{Folio}
use Rattle.gm_flat.specs.Effects.{free_one}
use Rattle.gm_flat.specs.FlatState.{FolioState, Triple}
use Rattle.gm_flat.specs.RightLives.{IsCached, frame_of, index_of_folio}
use Rattle.gm_store.specs.Stored.{StoreStands, Stored, has_triple, held_less}
use Rattle.gm_store.specs.Views.{StoreView}

-- after a folio is freed
abbrev pub freed_one : ℕ → Stored → Stored
freed_one serial k = record k { flat = record k.flat { folios = free_one serial k.flat.folios } }

-- whether a folio that is held is neither held nor cached after one hold less
abbrev pub is_last_hold : ℕ → Stored → Bool
is_last_hold serial k = nat_eq (k.holds serial) 1 && not (has_triple serial k.flat.cache)

-- after one hold less of a folio, and after it is freed where it is
abbrev pub hold_dropped : Bool → ℕ → Stored → Stored
hold_dropped true serial k = freed_one serial (held_less serial k)
hold_dropped false serial k = held_less serial k

-- after folios are freed one after another
abbrev pub free_pairs : List (ℕ × Folio) → List FolioState → List FolioState
free_pairs [] xs = xs
free_pairs (p ∷ ps) xs = free_pairs ps (free_one p.1.serial xs)

abbrev pub with_frees : List (ℕ × Folio) → Stored → Stored
with_frees ps k = record k { flat = record k.flat { folios = free_pairs ps k.flat.folios } }

-- one of the folios has the serial
abbrev pub HasSerial : ℕ → List (ℕ × Folio) → Type 0
HasSerial serial [] = ⊥
HasSerial serial (p ∷ ps) = (p.1.serial ≡ serial) ⊎ HasSerial serial ps

-- a folio that was cached at the index before, and after it is live, in no cache and not held
pub record IsDue (cache : List Triple) (after : Stored) (index serial frame : ℕ) : Type 0 where
  pub at : index_of_folio serial cache ≡ Some index
  pub live : frame_of serial after.flat.folios ≡ Some frame
  pub not_cached : IsCached serial after.flat → ⊥
  pub not_held : after.holds serial ≡ 0

-- each is due, in order of index, the first at lo or after it
abbrev pub AllDue : List Triple → Stored → ℕ → List (ℕ × Folio) → Type 0
AllDue cache after lo [] = Unit {0}
AllDue cache after lo (p ∷ ps) = (lo ≤ p.0) × IsDue cache after p.0 p.1.serial p.1.frame × AllDue cache after (p.0 + 1) ps

-- what folios are to be freed after an effect that takes folios out of the cache: each is due; what was cached before is
-- cached after, held, or one of them; and the store stands for the state in which they are freed
pub record FreesDue (frames : ℕ) (before after : Stored) (pairs : List (ℕ × Folio)) (st : StoreView) : Type 0 where
  pub due : AllDue before.flat.cache after 0 pairs
  pub covered : (serial : ℕ) → IsCached serial before.flat → IsCached serial after.flat ⊎ ((0 < after.holds serial) ⊎ HasSerial serial pairs)
  pub stands : StoreStands frames st (with_frees pairs after)
