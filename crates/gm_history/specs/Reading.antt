-- What the lines of bytes tell, line after line.
use Rattle.std.specs.Prelude.{ℕ, ◌+◌, Bool, true, false, ◌&&◌, nat_eq, nat_le, List, [], ◌∷◌, ◌++◌, length, Some, None, codes, if◌then◌else◌}
use Rattle.std.specs.declared.option.Option.{Option}
use Rattle.gm_base.specs.declared.values.Setup.{Setup}
use Rattle.gm_flat.specs.declared.entry.Entry.{Entry}
use Rattle.gm_history.specs.Cuts.{strip, split_at}
use Rattle.gm_history.specs.declared.version.Version.{Version}
use Rattle.gm_history.specs.declared.version.Version.TheVariants.{One, Two}
use Rattle.gm_history.specs.Given.{given}
use Rattle.gm_history.specs.Lines.{Counts, entry_in, setup_of, counts_of}
use Rattle.gm_history.specs.TextForm.{Told, last_turn}

-- a history, or the bad line's number
pub data Verdict : Type 0 where
  Good : (told : Told) → Verdict
  Bad : (line : ℕ) → Verdict

-- the last line, with what stands after it
abbrev pub told_at : Setup → List Entry → ℕ → List (List ℕ) → Verdict
told_at s es turns ([] ∷ []) = Good (record { setup = s; entries = es; turns = turns })
told_at s es turns lines = Bad (length es + 4)

-- the counts of a last line are right
abbrev pub are_right : List Entry → Counts → Bool
are_right es c = nat_eq c.entries (length es) && nat_le (last_turn es) c.turns

abbrev pub last_line : Setup → List Entry → Option Counts → List (List ℕ) → Verdict
last_line s es None lines = Bad (length es + 3)
last_line s es (Some c) lines = if are_right es c then told_at s es c.turns lines else Bad (length es + 3)

abbrev pub entry_or : Option Entry → (Entry → Verdict) → Verdict → Verdict
entry_or None next other = other
entry_or (Some e) next other = next e

-- a line is bad where no byte 10 ends it
abbrev pub if_more : ℕ → List (List ℕ) → Verdict → Verdict
if_more number [] verdict = Bad number
if_more number (line ∷ lines) verdict = verdict

-- the lines after those of these entries
abbrev pub told_on : Version → Setup → List (List ℕ) → List Entry → Verdict
told_on version s [] es = Bad (length es + 3)
told_on version s (line ∷ lines) es = if_more (length es + 3) lines (entry_or (entry_in version (given es) line) (λ e. told_on version s lines (es ++ e ∷ [])) (last_line s es (counts_of line) lines))

abbrev pub setup_or : Version → Option Setup → List (List ℕ) → Verdict
setup_or version None lines = Bad 2
setup_or version (Some s) lines = told_on version s lines []

-- the lines after the first
abbrev pub machine_on : Version → List (List ℕ) → Verdict
machine_on version [] = Bad 2
machine_on version (line ∷ lines) = if_more 2 lines (setup_or version (setup_of line) lines)

abbrev pub is_nothing : Option (List ℕ) → Bool
is_nothing None = false
is_nothing (Some []) = true
is_nothing (Some (b ∷ rest)) = false

-- the first line
abbrev pub header : Version → List ℕ
header One = codes "gmem-history 1"
header Two = codes "gmem-history 2"

unfoldable pub is_header : Version → List ℕ → Bool
is_header version line = is_nothing (strip (header version) line)

abbrev pub lines_on : Version → List (List ℕ) → Verdict
lines_on version [] = Bad 1
lines_on version (line ∷ lines) = if_more 1 lines (if is_header version line then machine_on version lines else Bad 1)

unfoldable pub verdict_of : Version → List ℕ → Verdict
verdict_of version bytes = lines_on version (split_at 10 bytes)
