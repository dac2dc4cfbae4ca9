-- The `machine` line, the entries' lines and the last line of a history.
use Rattle.std.specs.Prelude.{ℕ, Bool, not, ◌&&◌, nat_eq, nat_le, List, [], ◌∷◌, Some, None, codes, if◌then◌else◌}
use Rattle.std.specs.declared.option.Option.{Option}
use Rattle.gm_base.specs.declared.numbers.TheConstants.{MOST_FRAMES, MOST_USER_PAGES, MOST_VCPUS, MOST_CALLERS}
use Rattle.gm_base.specs.declared.values.Actor.{Actor}
use Rattle.gm_base.specs.declared.values.Setup.{Setup}
use Rattle.gm_flat.specs.declared.entry.Entry.{Entry}
use Rattle.gm_flat.specs.declared.entry.What.{What}
use Rattle.gm_history.specs.Fields.{U64, U32, Huge, OfActor, Nothing}
use Rattle.gm_history.specs.Patterns.{Piece, Say, Holes, parse, whole}
use Rattle.gm_history.specs.OldWhats.{what_in}
use Rattle.gm_history.specs.declared.given.Run.{Run}
use Rattle.gm_history.specs.declared.version.Version.{Version}

abbrev pub head_pieces : List Piece
head_pieces = Say [] U64 ∷ Say (codes " ") OfActor ∷ Say (codes " ") Nothing ∷ []

abbrev pub entry_by : ℕ → Actor → Option What → Option Entry
entry_by turn actor None = None
entry_by turn actor (Some what) = Some (record { turn = turn; actor = actor; what = what })

-- the entry of a line in a version, after lines that gave these runs
unfoldable pub entry_in : Version → List Run → List ℕ → Option Entry
entry_in version runs line = parse head_pieces line (λ h rest. entry_by h.0 h.1.0 (what_in version runs rest))

abbrev pub machine_pieces : List Piece
machine_pieces = Say (codes "machine frames=") U32 ∷ Say (codes " user=") U32 ∷ Say (codes " vcpus=") U32 ∷ Say (codes " callers=") U32 ∷ Say (codes " huge=") Huge ∷ []

abbrev pub setup_by : Holes machine_pieces → Setup
setup_by h = record { frames = h.0; user = h.1.0; vcpus = h.1.1.0; callers = h.1.1.1.0; huge = h.1.1.1.1.0 }

-- the limits of a machine
unfoldable pub is_within : Setup → Bool
is_within s = nat_le s.frames MOST_FRAMES && nat_le s.user MOST_USER_PAGES && not (nat_eq s.vcpus 0) && nat_le s.vcpus MOST_VCPUS && nat_le s.callers MOST_CALLERS

abbrev pub if_within : Option Setup → Option Setup
if_within None = None
if_within (Some s) = if is_within s then Some s else None

unfoldable pub machine_of : List ℕ → Option Setup
machine_of line = whole machine_pieces setup_by line

-- the setup of the `machine` line
unfoldable pub setup_of : List ℕ → Option Setup
setup_of line = if_within (machine_of line)

-- the counts of the last line
pub record Counts : Type 0 where
  pub turns : ℕ
  pub entries : ℕ

abbrev pub end_pieces : List Piece
end_pieces = Say (codes "end turns=") U64 ∷ Say (codes " entries=") U64 ∷ []

unfoldable pub counts_of : List ℕ → Option Counts
counts_of line = whole end_pieces (λ h. record { turns = h.0; entries = h.1.0 }) line
