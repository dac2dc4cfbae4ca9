-- What migrating a text of version 1 comes to.
use Rattle.std.specs.Prelude.{◌≡◌, ℕ, List}
use Rattle.std.specs.declared.option.Option.{Option}
use Rattle.gm_io.specs.Causes.{Rose}
use Rattle.gm_io.specs.Held.{Gains, GainsFront}
use Rattle.gm_history.specs.declared.error.MigrateError.{MigrateError}
use Rattle.gm_history.specs.declared.error.MigrateError.TheVariants.{BadText, Failed, NoMemory}
use Rattle.gm_history.specs.declared.version.Version.TheVariants.{One}
use Rattle.gm_history.specs.Refusals.{IsRefused}
use Rattle.gm_history.specs.TextForm.{IsBroughtUp}

-- the text was put that the bytes are brought up to
pub record PutsUp (bytes : List ℕ) (old new : Option (List ℕ)) : Type 0 where
  pub text : List ℕ
  pub up : IsBroughtUp bytes text
  pub put : Gains old new text

-- a front of it was put, where the sink tells what it holds never the whole
pub record PutsFront (bytes : List ℕ) (old new : Option (List ℕ)) : Type 0 where
  pub text : List ℕ
  pub up : IsBroughtUp bytes text
  pub put : GainsFront old new text

-- why it stopped: the bytes aren't of form 1, and this is their bad line; the sink failed, whose count of faults rose; or memory
-- was wanted. But for the sink's failure nothing was put.
abbrev pub StoppedAs : List ℕ → Option (List ℕ) → Option (List ℕ) → ℕ → ℕ → MigrateError → Type 0
StoppedAs bytes old new before now (BadText line) = IsRefused One bytes line × (new ≡ old)
StoppedAs bytes old new before now Failed = PutsFront bytes old new × Rose before now
StoppedAs bytes old new before now NoMemory = new ≡ old
