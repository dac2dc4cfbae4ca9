-- A touch has what is named at its own position with marks left aside, also while a conversion runs, and by a fill newer
-- than every change on its page.
use Rattle.std.specs.Prelude.{◌≡◌, ℕ, ◌≤◌, List, [], ◌∷◌, None}
use Rattle.gm_base.specs.declared.values.Actor.{Actor}
use Rattle.gm_flat.specs.declared.entry.Entry.{Entry}
use Rattle.gm_flat.specs.declared.entry.What.{What}
use Rattle.gm_flat.specs.declared.entry.What.TheVariants.{Touch, Change}
use Rattle.gm_flat.specs.declared.effect.Effect.{Effect}
use Rattle.gm_flat.specs.declared.effect.Effect.TheVariants.{File, Slot, Word}
use Rattle.gm_flat.specs.Histories.{bracket}
use Rattle.gm_flat.specs.NamedPage.{named, named_aside}
use Rattle.gm_flat.specs.Replay.{flat}
use Rattle.gm_flat.specs.Window.{changed}
use Rattle.gm_flat.specs.RightTouch.{CanUse}

abbrev pub TouchesNow : What → Actor → List Entry → Type 0
TouchesNow (Touch a backing level value fill) actor past = CanUse a backing (named_aside (flat past) a.page) × (changed a.page past ≤ fill)
TouchesNow _ actor past = Unit {0}

-- *quiet touches*: where no call stands between its Begin and its End, a touch has what is named. A call that has its End has
-- its Answer in the same turn.
abbrev pub NoneOpen : List Entry → Type 0
NoneOpen past = (c : ℕ) → bracket c past ≡ None

abbrev pub QuietTouches : What → Actor → List Entry → Type 0
QuietTouches (Touch a backing level value fill) actor past = NoneOpen past → CanUse a backing (named (flat past) a.page)
QuietTouches _ actor past = Unit {0}

-- *quiet names*: so has each touch of a history whose changes only make files and slots and write words
abbrev pub IsQuietEffect : Effect → Type 0
IsQuietEffect (File file pages block) = Unit {0}
IsQuietEffect (Slot slot base pages user flags file index) = Unit {0}
IsQuietEffect (Word page word value) = Unit {0}
IsQuietEffect _ = ⊥

abbrev pub IsQuietWhat : What → Type 0
IsQuietWhat (Change effect) = IsQuietEffect effect
IsQuietWhat _ = Unit {0}

abbrev pub IsQuiet : List Entry → Type 0
IsQuiet [] = Unit {0}
IsQuiet (e ∷ past) = IsQuietWhat e.what × IsQuiet past

abbrev pub QuietNames : What → Actor → List Entry → Type 0
QuietNames (Touch a backing level value fill) actor past = IsQuiet past → CanUse a backing (named (flat past) a.page)
QuietNames _ actor past = Unit {0}
