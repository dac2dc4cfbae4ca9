-- The `machine` line.
use Rattle.std.specs.Prelude.{ℕ, Bool, true, false, not, ◌&&◌, nat_eq, nat_le, List, length, drop, Some, None, Result, Ok, Err, codes, if◌then◌else◌}
use Rattle.std.specs.declared.option.Option.{Option}
use Rattle.gm_base.specs.declared.values.Setup.{Setup}
use Rattle.gm_base.specs.declared.numbers.TheConstants.{MOST_FRAMES, MOST_USER_PAGES, MOST_VCPUS, MOST_CALLERS}
use Rattle.gm_script.specs.declared.error.Cause.{Cause}
use Rattle.gm_script.specs.declared.error.Cause.TheVariants.{Machine, Word, Number, Limit}
use Rattle.gm_script.specs.declared.setup.Counts.{Counts}
use Rattle.gm_script.specs.Split.{same_bytes, begins_with}
use Rattle.gm_script.specs.Lines.{word_at}
use Rattle.gm_script.specs.Numbers.{number_of}

-- the six words of `machine` with their names
unfoldable pub is_machine : List (List ℕ) → Bool
is_machine words =
    nat_eq (length words) 6 && same_bytes (word_at words 0) (codes "machine") && begins_with (codes "frames=") (word_at words 1) && begins_with (codes "user=") (word_at words 2) && begins_with (codes "vcpus=") (word_at words 3) && begins_with (codes "callers=") (word_at words 4) && begins_with (codes "huge=") (word_at words 5)

-- huge=on or huge=off
unfoldable pub huge_of : List ℕ → Option Bool
huge_of word =
    if same_bytes word (codes "huge=on") then Some true
    else if same_bytes word (codes "huge=off") then Some false
    else None

abbrev pub counts_with : Option ℕ → Option ℕ → Option ℕ → Option ℕ → Option Counts
counts_with (Some f) (Some u) (Some v) (Some c) = Some (record { frames = f; user = u; vcpus = v; callers = c })
counts_with (Some f) (Some u) (Some v) None = None
counts_with (Some f) (Some u) None c = None
counts_with (Some f) None v c = None
counts_with None u v c = None

-- the numbers after frames=, user=, vcpus= and callers=
unfoldable pub counts_of : List (List ℕ) → Option Counts
counts_of words =
    counts_with (number_of (drop 7 (word_at words 1))) (number_of (drop 5 (word_at words 2))) (number_of (drop 6 (word_at words 3))) (number_of (drop 8 (word_at words 4)))

-- the limits of a machine
unfoldable pub is_within : Counts → Bool
is_within n = nat_le n.frames MOST_FRAMES && nat_le n.user MOST_USER_PAGES && not (nat_eq n.vcpus 0) && nat_le n.vcpus MOST_VCPUS && nat_le n.callers MOST_CALLERS

-- the setup with these numbers
abbrev pub setup_by : Bool → Counts → Setup
setup_by huge n = record { frames = n.frames; user = n.user; vcpus = n.vcpus; callers = n.callers; huge = huge }

abbrev pub counted_setup : Bool → Option Counts → Result Setup Cause
counted_setup huge None = Err Number
counted_setup huge (Some n) = if not (is_within n) then Err Limit else Ok (setup_by huge n)

abbrev pub huge_setup : List (List ℕ) → Option Bool → Result Setup Cause
huge_setup words None = Err Word
huge_setup words (Some huge) = counted_setup huge (counts_of words)

-- the setup that the first line that isn't skipped tells, or its first cause in the table's order
unfoldable pub setup_of : List (List ℕ) → Result Setup Cause
setup_of words = if not (is_machine words) then Err Machine else huge_setup words (huge_of (word_at words 5))
