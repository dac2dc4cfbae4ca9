-- How bytes that are no history's text are refused.
use Rattle.std.specs.Prelude.{◌≡◌, ℕ, List}
use Rattle.gm_history.specs.declared.error.HistoryError.{HistoryError}
use Rattle.gm_history.specs.declared.error.HistoryError.TheVariants.{BadText, NoMemory}
use Rattle.gm_history.specs.declared.version.Version.{Version}
use Rattle.gm_history.specs.declared.version.Version.TheVariants.{Two}
use Rattle.gm_history.specs.Reading.{Verdict, Bad}
use Rattle.gm_history.specs.TextForm.{IsForm, IsBadLine}

-- what was judged is this bad line
abbrev pub JudgedBad : Verdict → HistoryError → Type 0
JudgedBad verdict (BadText line) = verdict ≡ Bad line
JudgedBad verdict NoMemory = Unit {0}

-- the bytes are the text of no history in this version, and this is their bad line
abbrev pub IsRefused : Version → List ℕ → ℕ → Type 0
IsRefused version bytes line = (IsForm version bytes → ⊥) × IsBadLine (IsForm version) bytes line

-- the same, or memory may be wanted at any bytes
abbrev pub RefusedIn : Version → List ℕ → HistoryError → Type 0
RefusedIn version bytes (BadText line) = IsRefused version bytes line
RefusedIn version bytes NoMemory = Unit {0}

abbrev pub RefusedAs : List ℕ → HistoryError → Type 0
RefusedAs = RefusedIn Two
