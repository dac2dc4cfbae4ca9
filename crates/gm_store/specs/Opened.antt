-- Blocks of a file that have nothing cached.
use Rattle.std.specs.Prelude.{◌≡◌, ℕ, ◌+◌, ◌<◌, ◌≤◌, Option, Some, None, true}
use Rattle.gm_base.specs.declared.numbers.TheConstants.{BLOCK_PAGES}
use Rattle.gm_file.specs.Views.{FileView}
use Rattle.gm_store.specs.Views.{cached_in, pages_in}

abbrev pub IsBlockFile : Option FileView → Type 0
IsBlockFile None = ⊥
IsBlockFile (Some x) = x.block ≡ true

-- the file is a BLOCK file, the pages of the block from this index on lie inside it, and none of them is cached
pub record IsOpenBlock (x : Option FileView) (first : ℕ) : Type 0 where
  pub block : IsBlockFile x
  pub inside : first + BLOCK_PAGES ≤ pages_in x
  pub open_here : (j : ℕ) → j < BLOCK_PAGES → cached_in (first + j) x ≡ None
