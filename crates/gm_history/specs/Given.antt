-- Which frames the lines of version 1 give to serials, and what that version can say. (This project's own.)
use Rattle.std.specs.Prelude.{◌≡◌, ℕ, ◌+◌, ◌-◌, ◌%◌, ◌≤◌, Bool, ◌&&◌, nat_eq, nat_le, nat_lt, List, [], ◌∷◌, Some, None, if◌then◌else◌}
use Rattle.std.specs.declared.option.Option.{Option}
use Rattle.gm_base.specs.declared.numbers.TheConstants.{BLOCK_PAGES}
use Rattle.gm_base.specs.declared.values.Folio.{Folio}
use Rattle.gm_flat.specs.Effects.{U32_LIMIT, U64_LIMIT}
use Rattle.gm_flat.specs.declared.effect.Backing.TheVariants.{Folio as InFolio}
use Rattle.gm_flat.specs.declared.effect.Effect.TheVariants.{Mark}
use Rattle.gm_flat.specs.declared.entry.Entry.{Entry}
use Rattle.gm_flat.specs.declared.entry.What.{What}
use Rattle.gm_flat.specs.declared.entry.What.TheVariants.{Get, Touch, Change, Page}
use Rattle.gm_history.specs.declared.given.Giving.{Giving}
use Rattle.gm_history.specs.declared.given.Giving.TheVariants.{NoSerial, Serials, Refused}
use Rattle.gm_history.specs.declared.given.Run.{Run}

-- so many serials from one on, with the frames from one on in the same order
abbrev pub run : ℕ → ℕ → ℕ → Run
run serial frame pages = record { serial = serial; frame = frame; pages = pages }

-- no serial is 2^64 or more, and no frame 2^32 or more
abbrev pub is_in_range : Run → Bool
is_in_range r = nat_le (r.serial + r.pages) U64_LIMIT && nat_le (r.frame + r.pages) U32_LIMIT

abbrev pub giving_run : Run → Giving
giving_run r = if is_in_range r then Serials r else Refused

-- a block of 512 serials, in which this one stands where its frame stands in a block of frames
abbrev pub giving_block : Folio → Giving
giving_block folio =
    if nat_le (folio.frame % BLOCK_PAGES) folio.serial
    then giving_run (run (folio.serial - folio.frame % BLOCK_PAGES) (folio.frame - folio.frame % BLOCK_PAGES) BLOCK_PAGES)
    else Refused

abbrev pub giving_got : Folio → ℕ → Giving
giving_got folio fresh = if nat_eq fresh BLOCK_PAGES then giving_block folio else giving_run (run folio.serial folio.frame 1)

-- what an entry's line gives, as both versions write it. Version 1 has no such line of a mark, nor of a touch of a folio, and
-- none that would give a serial or a frame beyond its type.
abbrev pub giving_of : What → Giving
giving_of (Get (InFolio folio) fresh) = giving_got folio fresh
giving_of (Page index folio pages) = giving_run (run folio.serial folio.frame pages)
giving_of (Touch access (InFolio folio) level value fill) = Refused
giving_of (Change (Mark slot)) = Refused
giving_of _ = NoSerial

abbrev pub GivesInRange : Giving → Type 0
GivesInRange (Serials r) = (r.serial + r.pages ≤ U64_LIMIT) × (r.frame + r.pages ≤ U32_LIMIT)
GivesInRange _ = Unit {0}

-- runs that were given, the latest first
abbrev pub after_giving : Giving → List Run → List Run
after_giving (Serials r) runs = r ∷ runs
after_giving _ runs = runs

abbrev pub given_after : List Run → List Entry → List Run
given_after runs [] = runs
given_after runs (e ∷ es) = given_after (after_giving (giving_of e.what) runs) es

-- the runs that entries give, which stand oldest first
abbrev pub given : List Entry → List Run
given es = given_after [] es

-- whether a run gives a serial its frame
abbrev pub gives : Run → ℕ → Bool
gives r serial = nat_le r.serial serial && nat_lt serial (r.serial + r.pages)

-- the frame of a serial: where several runs gave it, that of the latest
abbrev pub frame_given : List Run → ℕ → Option ℕ
frame_given [] serial = None
frame_given (r ∷ runs) serial = if gives r serial then Some (r.frame + (serial - r.serial)) else frame_given runs serial

abbrev pub HasLine : Giving → Type 0
HasLine Refused = ⊥
HasLine _ = Unit {0}

-- version 1 can say it after lines that gave these runs: of a touch of a folio, where its frame is the one that was given last
-- to its serial
abbrev pub IsOld : List Run → What → Type 0
IsOld runs (Touch access (InFolio folio) level value fill) = frame_given runs folio.serial ≡ Some folio.frame
IsOld runs w = HasLine (giving_of w)

-- each entry of a list, which stand oldest first
abbrev pub AreOld : List Run → List Entry → Type 0
AreOld runs [] = Unit {0}
AreOld runs (e ∷ es) = IsOld runs e.what × AreOld (after_giving (giving_of e.what) runs) es

-- no entry is a mark
abbrev pub IsNoMark : What → Type 0
IsNoMark (Change (Mark slot)) = ⊥
IsNoMark _ = Unit {0}

abbrev pub AreUnmarked : List Entry → Type 0
AreUnmarked [] = Unit {0}
AreUnmarked (e ∷ es) = IsNoMark e.what × AreUnmarked es
