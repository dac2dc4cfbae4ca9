-- Frames of serials by their starts: from a start on each serial has the next frame, or none has one, up to the next start.
use Rattle.std.specs.Prelude.{◌≡◌, ℕ, ◌+◌, ◌-◌, ◌^◌, ◌<◌, ◌≤◌, List, Some, None}
use Rattle.std.specs.BTreeMap.{BTreeMap, get}
use Rattle.std.specs.Ordering.{nat_cmp}
use Rattle.std.specs.declared.option.Option.{Option}
use Rattle.gm_history.specs.declared.frames.Frames.{Frames}
use Rattle.gm_history.specs.declared.given.Run.{Run}
use Rattle.gm_history.specs.declared.version.Version.{Version}
use Rattle.gm_history.specs.declared.version.Version.TheVariants.{One, Two}
use Rattle.gm_history.specs.Given.{frame_given}

-- the frame so many serials after a start
abbrev pub frame_from : Option ℕ → ℕ → Option ℕ
frame_from None ahead = None
frame_from (Some frame) ahead = Some (frame + ahead)

-- no start from one serial to another
abbrev pub NoStart : (ℕ → Option (Option ℕ)) → ℕ → ℕ → Type 0
NoStart starts lo last = (serial : ℕ) → lo ≤ serial → serial ≤ last → starts serial ≡ None

-- this is the last start up to a serial
pub record IsLastStart (starts : ℕ → Option (Option ℕ)) (serial start : ℕ) (frame : Option ℕ) : Type 0 where
  pub start_is : starts start ≡ Some frame
  pub up_to : start ≤ serial
  pub no_later : NoStart starts (start + 1) serial

-- each serial has by the starts the frame that these runs give it
pub record TellsFrames (starts : ℕ → Option (Option ℕ)) (runs : List Run) : Type 0 where
  pub no_start : (serial : ℕ) → serial < 2 ^ 64 → NoStart starts 0 serial → frame_given runs serial ≡ None
  pub by_start : (serial start : ℕ) (frame : Option ℕ) → serial < 2 ^ 64 → IsLastStart starts serial start frame → frame_given runs serial ≡ frame_from frame (serial - start)
  pub small : (serial frame : ℕ) → frame_given runs serial ≡ Some frame → frame < 2 ^ 32

-- the starts f without those of a run; the serial after the run starts with the frame that the runs before gave it
pub record IsCleared (f g : ℕ → Option (Option ℕ)) (runs : List Run) (r : Run) : Type 0 where
  pub gone : NoStart g r.serial (r.serial + (r.pages - 1))
  pub next : r.serial + r.pages < 2 ^ 64 → g (r.serial + r.pages) ≡ Some (frame_given runs (r.serial + r.pages))
  pub before : (serial : ℕ) → serial < r.serial → g serial ≡ f serial
  pub after : (serial : ℕ) → r.serial + r.pages < serial → g serial ≡ f serial

-- the starts of a map
abbrev pub starts_of : BTreeMap ℕ (Option ℕ) → ℕ → Option (Option ℕ)
starts_of map = get nat_cmp map

-- what a reader knows of the frames: those of version 1, whose touches don't tell them
abbrev pub Knows : Version → Frames → List Run → Type 0
Knows One frames runs = TellsFrames (starts_of frames.starts) runs
Knows Two frames runs = Unit {0}
