-- What a run of a script's actors, each in a thread of its own, does.
use Rattle.std.specs.Prelude.{◌≡◌, ℕ, List, reverse}
use Rattle.gm_base.specs.Scripts.{Schedule}
use Rattle.gm_flat.specs.declared.entry.Entry.{Entry}
use Rattle.gm_flat.specs.InTypes.{AreInTypes}
use Rattle.gm_flat.specs.Plays.{Full}
use Rattle.gm_flat.specs.RightHistory.{Right}
use Rattle.gm_publish.specs.Counts.{CountedTo}
use Rattle.gm_script.specs.Grammar.{script_of, Good}
use Rattle.gm_text.specs.Text.{history_text}
use Rattle.gmemrun.specs.Running.{Refused}
use Rattle.gmemrun.specs.declared.status.Status.{Status}
use Rattle.gmemrun.specs.declared.status.Status.TheVariants.{Ok, BadScript, Usage, ReadFault, WriteFault, NoMemory, TooLong, BadHistory}

-- the bytes form a script, and this is the text of a history, oldest entry first, that is right and full for the script's
-- commands: each is ended, and each actor is gone. Its turns are numbered from 1 with none left out, and its numbers are
-- within the types of entries.
pub record RanWhole (bytes text : List ℕ) : Type 0 where
  pub script : Schedule
  pub history : List Entry
  pub is_script : script_of bytes ≡ Good script
  pub right : Right script.orders (reverse history)
  pub full : Full script.orders (reverse history)
  pub turns : ℕ
  pub counted : CountedTo turns (reverse history)
  pub in_types : AreInTypes history
  pub is_text : text ≡ history_text script.orders.setup history turns

-- the text that is due with a status. No other status has one.
abbrev pub ThreadsDue : List ℕ → Status → List ℕ → Type 0
ThreadsDue bytes Ok text = RanWhole bytes text
ThreadsDue bytes BadScript text = Refused bytes text
ThreadsDue bytes Usage text = ⊥
ThreadsDue bytes ReadFault text = ⊥
ThreadsDue bytes WriteFault text = ⊥
ThreadsDue bytes NoMemory text = ⊥
ThreadsDue bytes TooLong text = ⊥
ThreadsDue bytes BadHistory text = ⊥
