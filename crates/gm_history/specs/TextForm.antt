-- *form 1* and *form 2*: which bytes are the text of a history, in a version, and which line of other bytes is the bad one.
-- *up*: what bytes of form 1 are brought up to. (This project's own.)
use Rattle.std.specs.Prelude.{◌≡◌, ℕ, ◌<◌, ◌≤◌, Bool, true, false, nat_lt, List, [], ◌∷◌, ◌++◌, length, take}
use Rattle.gm_base.specs.declared.values.Setup.{Setup}
use Rattle.gm_flat.specs.declared.entry.Entry.{Entry}
use Rattle.gm_flat.specs.InTypes.{roomless_entries}
use Rattle.gm_flat.specs.Plain.{IsPlain}
use Rattle.gm_text.specs.Text.{history_text}
use Rattle.gm_text.specs.TextOne.{history_text_one}
use Rattle.gm_history.specs.declared.given.Run.{Run}
use Rattle.gm_history.specs.declared.version.Version.{Version}
use Rattle.gm_history.specs.declared.version.Version.TheVariants.{One, Two}
use Rattle.gm_history.specs.Cuts.{split_at}
use Rattle.gm_history.specs.Given.{AreOld}
use Rattle.gm_history.specs.Ranges.{AreRanged, IsU64, IsWithin}

-- a setup, the entries of a history, oldest first, and the count of its turns
pub record Told : Type 0 where
  pub setup : Setup
  pub entries : List Entry
  pub turns : ℕ

abbrev pub turn_of_last : ℕ → List Entry → ℕ
turn_of_last turn [] = turn
turn_of_last turn (e ∷ es) = turn_of_last e.turn es

-- the turn of the last entry, 0 where there is none
abbrev pub last_turn : List Entry → ℕ
last_turn es = turn_of_last 0 es

-- a history that can be told: the setup is within the limits, each entry is plain and has its numbers within the ranges
-- of their types, and the count of turns isn't below the last entry's turn
pub record IsTellable (h : Told) : Type 0 where
  pub setup : IsWithin h.setup
  pub plain : IsPlain h.entries
  pub ranged : AreRanged h.entries
  pub turns : IsU64 h.turns
  pub count : IsU64 (length h.entries)
  pub late : last_turn h.entries ≤ h.turns

-- a version can say these entries after lines that gave these runs; version 2 any
abbrev pub AreSaid : Version → List Run → List Entry → Type 0
AreSaid One runs es = AreOld runs es
AreSaid Two runs es = Unit {0}

abbrev pub text_in : Version → Told → List ℕ
text_in One h = history_text_one h.setup h.entries h.turns
text_in Two h = history_text h.setup h.entries h.turns

-- the bytes are the text of this history in a version, which can say it
pub record TellsIn (version : Version) (bytes : List ℕ) (h : Told) : Type 0 where
  pub tellable : IsTellable h
  pub said : AreSaid version [] h.entries
  pub text : bytes ≡ text_in version h

abbrev pub Tells : List ℕ → Told → Type 0
Tells = TellsIn Two

abbrev pub text_of_told : Told → List ℕ
text_of_told = text_in Two

-- a history without the spare room of its spans
abbrev pub roomless_told : Told → Told
roomless_told h = record { setup = h.setup; entries = roomless_entries h.entries; turns = h.turns }

-- the bytes are of form 1, or of form 2
abbrev pub IsForm : Version → List ℕ → Type 0
IsForm version bytes = (h : Told) × TellsIn version bytes h

abbrev pub IsFormOne : List ℕ → Type 0
IsFormOne = IsForm One

abbrev pub IsFormTwo : List ℕ → Type 0
IsFormTwo = IsForm Two

-- the bytes are of form 1, and the text is that of their history in version 2: it has the first line of version 2, and the
-- frame in each touch of a folio
pub record IsBroughtUp (bytes text : List ℕ) : Type 0 where
  pub history : Told
  pub tells : TellsIn One bytes history
  pub text_is : text ≡ text_in Two history

-- lines one after another, each with its byte 10
abbrev pub lines_text : List (List ℕ) → List ℕ
lines_text [] = []
lines_text (line ∷ lines) = line ++ (10 ∷ lines_text lines)

abbrev pub Starts : Bool → (List ℕ → Type 0) → List ℕ → List ℕ → Type 0
Starts true Form front bytes = (rest : List ℕ) × Form (front ++ rest)
Starts false Form front bytes = Form bytes

-- the first lines, so many of them, begin a text of the form. Where the bytes end within these lines, they begin no
-- other text than themselves.
abbrev pub Opens : (List ℕ → Type 0) → ℕ → List ℕ → Type 0
Opens Form count bytes = Starts (nat_lt count (length (split_at 10 bytes))) Form (lines_text (take count (split_at 10 bytes))) bytes

-- the bad line of bytes that aren't of the form, from 1: the least such that the lines up to it begin no text of the
-- form
pub record IsBadLine (Form : List ℕ → Type 0) (bytes : List ℕ) (line : ℕ) : Type 0 where
  pub bad : Opens Form line bytes → ⊥
  pub least : (count : ℕ) → count < line → Opens Form count bytes
