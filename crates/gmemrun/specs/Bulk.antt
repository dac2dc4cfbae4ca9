-- What a run of the script of a number does.
use Rattle.std.specs.Prelude.{◌≡◌, ℕ, List, length, reverse}
use Rattle.gm_base.specs.Scripts.{Schedule}
use Rattle.gm_flat.specs.declared.entry.Entry.{Entry}
use Rattle.gm_flat.specs.InTypes.{roomless_entries}
use Rattle.gm_flat.specs.Plays.{Plays as PlaysAll}
use Rattle.gm_flat.specs.RightHistory.{Right}
use Rattle.gm_script.specs.Grammar.{script_of, Good}
use Rattle.gm_summary.specs.Summary.{summary_text}
use Rattle.gmemrun.specs.declared.status.Status.{Status}
use Rattle.gmemrun.specs.declared.status.Status.TheVariants.{Ok, BadScript, Usage, ReadFault, WriteFault, NoMemory, TooLong, BadHistory}

-- the bytes form a script, and this is the line, with the number, of a history, oldest entry first, that is right and
-- plays its turns. It is the only one: each history that is right and plays these turns differs from it in nothing but
-- the spare room of its spans, which no total counts.
pub record Summed (number : ℕ) (bytes text : List ℕ) : Type 0 where
  pub script : Schedule
  pub history : List Entry
  pub is_script : script_of bytes ≡ Good script
  pub right : Right script.orders (reverse history)
  pub turns : PlaysAll script.orders script.turns (reverse history)
  pub only : (other : List Entry) → Right script.orders other → PlaysAll script.orders script.turns other → roomless_entries other ≡ roomless_entries (reverse history)
  pub is_text : text ≡ summary_text number (length script.turns) history

-- the text that is due with a status, by the number and the bytes of its script. No other status has one.
abbrev pub BulkDue : ℕ → List ℕ → Status → List ℕ → Type 0
BulkDue number bytes Ok text = Summed number bytes text
BulkDue number bytes BadScript text = ⊥
BulkDue number bytes Usage text = ⊥
BulkDue number bytes ReadFault text = ⊥
BulkDue number bytes WriteFault text = ⊥
BulkDue number bytes NoMemory text = ⊥
BulkDue number bytes TooLong text = ⊥
BulkDue number bytes BadHistory text = ⊥
