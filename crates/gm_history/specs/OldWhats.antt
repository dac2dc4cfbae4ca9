-- What entries of version 1 say, read from the end of their lines.
use Rattle.std.specs.Prelude.{ℕ, List, [], ◌∷◌, Some, None, codes}
use Rattle.std.specs.declared.option.Option.{Option}
use Rattle.gm_base.specs.Aim.{Aim}
use Rattle.gm_flat.specs.declared.effect.Backing.TheVariants.{Folio as InFolio}
use Rattle.gm_flat.specs.declared.entry.What.{What}
use Rattle.gm_history.specs.declared.given.Giving.{Giving}
use Rattle.gm_history.specs.declared.given.Giving.TheVariants.{Refused}
use Rattle.gm_history.specs.declared.given.Run.{Run}
use Rattle.gm_history.specs.declared.version.Version.{Version}
use Rattle.gm_history.specs.declared.version.Version.TheVariants.{One, Two}
use Rattle.gm_history.specs.Cuts.{strip}
use Rattle.gm_history.specs.Fields.{U64}
use Rattle.gm_history.specs.Given.{frame_given, giving_of}
use Rattle.gm_history.specs.Numerals.{with_got, with_rest}
use Rattle.gm_history.specs.Patterns.{Say, parse}
use Rattle.gm_history.specs.Whats.{access_at, folio, touch_on, what_of}

-- a touch of a folio, whose serial was given a frame
abbrev pub touch_by : Aim → ℕ → Option ℕ → List ℕ → Option What
touch_by access serial None rest = None
touch_by access serial (Some frame) rest = touch_on access (InFolio (folio serial frame)) rest

abbrev pub old_touch_on : List Run → Aim → List ℕ → Option What
old_touch_on runs access bytes = parse (Say (codes " serial=") U64 ∷ []) bytes (λ h rest. touch_by access h.0 (frame_given runs h.0) rest)

unfoldable pub old_touch_of : List Run → List ℕ → Option What
old_touch_of runs line = with_rest (strip (codes "touch ") line) (λ a. with_got (access_at a) (λ access b. old_touch_on runs access b))

-- what a line of both versions says
abbrev pub if_kept : Giving → What → Option What
if_kept Refused w = None
if_kept _ w = Some w

abbrev pub old_by : Option What → Option What → Option What
old_by (Some w) touch = if_kept (giving_of w) w
old_by None touch = touch

unfoldable pub old_what_of : List Run → List ℕ → Option What
old_what_of runs line = old_by (what_of line) (old_touch_of runs line)

abbrev pub what_in : Version → List Run → List ℕ → Option What
what_in One runs line = old_what_of runs line
what_in Two runs line = what_of line
