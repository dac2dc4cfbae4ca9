-- What a run of a script's turns does.
use Rattle.std.specs.Prelude.{◌≡◌, ◌<◌, ◌≤◌, ℕ, List, length, reverse, ◌⊎◌}
use Rattle.gm_base.specs.Scripts.{Schedule}
use Rattle.gm_flat.specs.declared.entry.Entry.{Entry}
use Rattle.gm_flat.specs.InTypes.{AreInTypes, roomless_entries}
use Rattle.gm_flat.specs.Plays.{Plays as PlaysAll}
use Rattle.gm_flat.specs.RightHistory.{Right}
use Rattle.gm_base.specs.declared.numbers.TheConstants.{MOST_SCRIPT_BYTES}
use Rattle.gm_script.specs.Grammar.{Verdict, script_of, Good, Bad}
use Rattle.gm_script.specs.declared.error.Cause.{Cause}
use Rattle.gm_text.specs.Text.{history_text}
use Rattle.gmemrun.specs.Refusal.{refusal_text}
use Rattle.gmemrun.specs.declared.status.Status.{Status}
use Rattle.gmemrun.specs.declared.status.Status.TheVariants.{Ok, BadScript, Usage, ReadFault, WriteFault, NoMemory, TooLong, BadHistory}

-- the bytes form a script, and this is the text of a history, oldest entry first, that is right and plays its turns.
-- It is the only one: each history that is right and plays these turns differs from it in nothing but the spare room of
-- its spans, which no text shows. Its numbers are within the types of entries, as one text of one history asks.
pub record Ran (bytes text : List ℕ) : Type 0 where
  pub script : Schedule
  pub history : List Entry
  pub is_script : script_of bytes ≡ Good script
  pub right : Right script.orders (reverse history)
  pub turns : PlaysAll script.orders script.turns (reverse history)
  pub only : (other : List Entry) → Right script.orders other → PlaysAll script.orders script.turns other → roomless_entries other ≡ roomless_entries (reverse history)
  pub in_types : AreInTypes history
  pub is_text : text ≡ history_text script.orders.setup history (length script.turns)

-- the bytes form no script, and this is the line with the first bad line and its first cause
pub record Refused (bytes text : List ℕ) : Type 0 where
  pub line : ℕ
  pub cause : Cause
  pub no_script : script_of bytes ≡ Bad line cause
  pub is_text : text ≡ refusal_text line cause

-- the text that is due with a status. No other status has one.
abbrev pub StepsDue : List ℕ → Status → List ℕ → Type 0
StepsDue bytes Ok text = Ran bytes text
StepsDue bytes BadScript text = Refused bytes text
StepsDue bytes Usage text = ⊥
StepsDue bytes ReadFault text = ⊥
StepsDue bytes WriteFault text = ⊥
StepsDue bytes NoMemory text = ⊥
StepsDue bytes TooLong text = ⊥
StepsDue bytes BadHistory text = ⊥

-- how a run ends where neither end failed
abbrev pub EndsAs : Verdict → Status → Type 0
EndsAs (Good script) status = (status ≡ Ok) ⊎ (status ≡ NoMemory)
EndsAs (Bad line cause) status = (status ≡ BadScript) ⊎ (status ≡ NoMemory)

-- the same, by the bytes that the source had
pub record EndsBy (bytes : List ℕ) (status : Status) : Type 0 where
  pub within : length bytes ≤ MOST_SCRIPT_BYTES → EndsAs (script_of bytes) status
  pub beyond : MOST_SCRIPT_BYTES < length bytes → (status ≡ TooLong) ⊎ (status ≡ NoMemory)
