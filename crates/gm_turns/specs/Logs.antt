-- What is seen of a log.
use Rattle.std.specs.Prelude.{ℕ, List}
use Rattle.gm_flat.specs.declared.entry.Entry.{Entry}

-- entries with the newest first, and how many more can be appended without memory
pub record LogView : Type 0 where
  pub past : List Entry
  pub spare : ℕ
