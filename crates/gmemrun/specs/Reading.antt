-- What is read of a source in one call: `old` is what was left before it, and `new` what is left after it, where told.
use Rattle.std.specs.Prelude.{◌≡◌, ℕ, ◌+◌, ◌<◌, ◌≤◌, List, length}
use Rattle.std.specs.declared.option.Option.{Option}
use Rattle.std.specs.Io.KnownBytes.{Consumes, IsAtEnd}

-- all was taken, to the end, and no more than may be
pub record ReadAll (most : ℕ) (old new : Option (List ℕ)) (bytes : List ℕ) : Type 0 where
  pub taken : Consumes old new bytes
  pub end : IsAtEnd new
  pub within : length bytes ≤ most

-- no more was taken than may be, to the end or not
pub record TookWithin (most : ℕ) (old new : Option (List ℕ)) (bytes : List ℕ) : Type 0 where
  pub taken : Consumes old new bytes
  pub within : length bytes ≤ most

-- exactly one byte more was taken than may be
pub record TookOneTooMany (most : ℕ) (old new : Option (List ℕ)) (bytes : List ℕ) : Type 0 where
  pub taken : Consumes old new bytes
  pub beyond : length bytes ≡ most + 1

-- at least one byte more was taken than may be
pub record TookTooMuch (most : ℕ) (old new : Option (List ℕ)) : Type 0 where
  pub bytes : List ℕ
  pub taken : Consumes old new bytes
  pub beyond : most < length bytes
