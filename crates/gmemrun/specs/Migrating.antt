-- What a run that brings a history of version 1 up to version 2 does.
use Rattle.std.specs.Prelude.{◌≡◌, ◌<◌, ◌≤◌, ◌⊎◌, ℕ, List, length}
use Rattle.gm_history.specs.Refusals.{IsRefused}
use Rattle.gm_history.specs.TextForm.{IsBroughtUp, IsFormOne}
use Rattle.gm_history.specs.declared.limits.TheConstants.{MOST_HISTORY_BYTES}
use Rattle.gm_history.specs.declared.version.Version.TheVariants.{One}
use Rattle.gmemrun.specs.Refusal.{bad_history_text}
use Rattle.gmemrun.specs.declared.status.Status.{Status}
use Rattle.gmemrun.specs.declared.status.Status.TheVariants.{Ok, BadScript, Usage, ReadFault, WriteFault, NoMemory, TooLong, BadHistory}

-- the bytes aren't of form 1, and this is the line with their bad line
pub record HistoryRefused (bytes text : List ℕ) : Type 0 where
  pub line : ℕ
  pub refused : IsRefused One bytes line
  pub is_text : text ≡ bad_history_text line

-- the text that is due with a status. No other status has one.
abbrev pub MigrateDue : List ℕ → Status → List ℕ → Type 0
MigrateDue bytes Ok text = IsBroughtUp bytes text
MigrateDue bytes BadHistory text = HistoryRefused bytes text
MigrateDue bytes BadScript text = ⊥
MigrateDue bytes Usage text = ⊥
MigrateDue bytes ReadFault text = ⊥
MigrateDue bytes WriteFault text = ⊥
MigrateDue bytes NoMemory text = ⊥
MigrateDue bytes TooLong text = ⊥

-- how a run ends where neither end failed
pub record MigrateEndsAs (bytes : List ℕ) (status : Status) : Type 0 where
  pub form : IsFormOne bytes → (status ≡ Ok) ⊎ (status ≡ NoMemory)
  pub none : (IsFormOne bytes → ⊥) → (status ≡ BadHistory) ⊎ (status ≡ NoMemory)

-- the same, by the bytes that the source had
pub record MigrateEndsBy (bytes : List ℕ) (status : Status) : Type 0 where
  pub within : length bytes ≤ MOST_HISTORY_BYTES → MigrateEndsAs bytes status
  pub beyond : MOST_HISTORY_BYTES < length bytes → (status ≡ TooLong) ⊎ (status ≡ NoMemory)
