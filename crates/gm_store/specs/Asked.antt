-- What is asked of a store.
use Rattle.std.specs.Prelude.{◌≡◌, ℕ, ◌+◌, ◌%◌, ◌<◌, ◌≤◌, Option, Some, None}
use Rattle.gm_base.specs.declared.numbers.TheConstants.{BLOCK_PAGES}
use Rattle.gm_base.specs.declared.values.Folio.{Folio}
use Rattle.gm_flat.specs.FlatState.{Flat, cached}

-- the first index from lo on and below hi at which nothing of the file is cached
pub record IsFirstFree (file lo hi : ℕ) (f : Flat) (index : ℕ) : Type 0 where
  pub from : lo ≤ index
  pub below : index < hi
  pub open_here : cached file index f.cache ≡ None
  pub none_before : (j : ℕ) → lo ≤ j → j < index → (cached file j f.cache ≡ None) → ⊥

-- something of the file is cached at each index from lo on and below hi
abbrev pub AllCachedIn : ℕ → ℕ → ℕ → Flat → Type 0
AllCachedIn file lo hi f = (index : ℕ) → lo ≤ index → index < hi → (cached file index f.cache ≡ None) → ⊥

-- there is a folio, and it has this frame
abbrev pub HasFrame : ℕ → Option Folio → Type 0
HasFrame frame None = ⊥
HasFrame frame (Some folio) = folio.frame ≡ frame

-- the pages of the file from an index on are a block: each is cached, and their frames follow one another from this one
-- on, which is a multiple of 512
pub record IsBlockFrom (file index frame : ℕ) (f : Flat) : Type 0 where
  pub aligned : frame % BLOCK_PAGES ≡ 0
  pub follow : (k : ℕ) → k < BLOCK_PAGES → HasFrame (frame + k) (cached file (index + k) f.cache)
