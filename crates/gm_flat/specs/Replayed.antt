-- What a plain replay keeps of the entries that it was told.
use Rattle.std.specs.Prelude.{◌≡◌, ℕ, ◌+◌, ◌≤◌, List, [], ◌∷◌, true, Some, None, nat_le, nat_lt, if◌then◌else◌}
use Rattle.std.specs.declared.option.Option.{Option}
use Rattle.gm_base.specs.declared.values.Folio.{Folio}
use Rattle.gm_base.specs.declared.values.Setup.{Setup}
use Rattle.gm_flat.specs.declared.effect.Backing.TheVariants.{Folio as InFolio}
use Rattle.gm_flat.specs.declared.effect.Effect.{Effect}
use Rattle.gm_flat.specs.declared.entry.Entry.{Entry}
use Rattle.gm_flat.specs.declared.entry.What.{What}
use Rattle.gm_flat.specs.declared.entry.What.TheVariants.{Miss, Look, Install, Retry, Left, Judge, Change, Answer}
use Rattle.gm_flat.specs.declared.flat_past.Glance.{Glance}
use Rattle.gm_flat.specs.declared.flat_past.Glimpse.{Glimpse}
use Rattle.gm_flat.specs.declared.flat_past.Judged.{Judged}
use Rattle.gm_flat.specs.declared.flat_runs.Run.{Run}
use Rattle.gm_flat.specs.declared.flat_state.State.{State}
use Rattle.gm_flat.specs.declared.views.SlotView.{SlotView}
use Rattle.gm_flat.specs.Effects.{U64_LIMIT, U32_LIMIT, Addition, Source, slot_fits, apply, get_addition, page_addition, source, with_run}
use Rattle.gm_flat.specs.FlatState.{Flat}
use Rattle.gm_flat.specs.Replay.{States, slot_by, index_in}
use Rattle.gm_flat.specs.Histories.{Seen, Fault, NoFault, Faulting, Call}

-- the setup, and the entries played, the newest first
pub record Replayed : Type 0 where
  pub setup : Setup
  pub past : List Entry

-- a flat state without its folios: whether one is live names no page
abbrev pub bare : Flat → Flat
bare f = record f { folios = [] }

-- the flat state that lists stand for
abbrev pub shown : State → Flat
shown s = record { attrs = s.attrs.items; slots = s.slots.items; files = s.files.items; cache = s.cache.items; folios = [] }

-- the user page and the index of each page of each slot are within their types
abbrev pub AllFit : List SlotView → Type 0
AllFit [] = Unit {0}
AllFit (s ∷ slots) = (slot_fits s ≡ true) × AllFit slots

-- what an addition adds to the cache, which leaves the words of its folios aside
abbrev pub run_of : Option Addition → Option Run
run_of None = None
run_of (Some d) = Some (record { file = d.file; index = d.index; serial = d.serial; frame = d.frame; pages = d.pages })

-- the addition of a run
abbrev pub addition : Run → Addition
addition r = record { file = r.file; index = r.index; serial = r.serial; frame = r.frame; pages = r.pages; copy = None }

-- each index, serial and frame of a run is within its type
abbrev pub InRange : Run → Type 0
InRange r = (r.index + r.pages ≤ U64_LIMIT) × (r.serial + r.pages ≤ U64_LIMIT) × (r.frame + r.pages ≤ U32_LIMIT)

-- with a run cached
abbrev pub with_cached : Option Run → Flat → Flat
with_cached None f = f
with_cached (Some r) f = record f { cache = with_run r.pages r.file r.index r.serial r.frame f.cache }

-- a number that is within the type of an index
abbrev pub within : Option ℕ → Option ℕ
within None = None
within (Some i) = if nat_lt i U64_LIMIT then Some i else None

-- the file of a source
abbrev pub source_file : Option Source → Option ℕ
source_file None = None
source_file (Some s) = Some s.file

-- the effect of an entry, where it is a change
abbrev pub change_in : What → Option Effect
change_in (Change effect) = Some effect
change_in _ = None

abbrev pub applied : Option Effect → Flat → Flat
applied None f = f
applied (Some effect) f = apply effect f

-- of a fault: its page, and what its last Look says but for the attribute
abbrev pub glance_of : Option Seen → Option Glance
glance_of None = None
glance_of (Some s) = Some (record { place = s.place; at = s.at; slot = s.slot; file = s.file })

abbrev pub glimpse_of : Fault → Option Glimpse
glimpse_of NoFault = None
glimpse_of (Faulting access missed sample look got) = Some (record { page = access.page; look = glance_of look })

-- a fault's page and look after one more entry of its vCPU, which stands at a position
abbrev pub with_glance : Glance → Option Glimpse → Option Glimpse
with_glance g None = None
with_glance g (Some x) = Some (record x { look = Some g })

abbrev pub glimpse_after : What → ℕ → Option Glimpse → Option Glimpse
glimpse_after (Miss access) n x = Some (record { page = access.page; look = None })
glimpse_after (Look at slot attr file) n x = with_glance (record { place = n; at = at; slot = slot; file = file }) x
glimpse_after (Install page level) n x = None
glimpse_after Retry n x = None
glimpse_after (Left why) n x = None
glimpse_after _ n x = x

-- of a call in progress: the position of its Judge, and the call
abbrev pub judged_of : Option Call → Option Judged
judged_of None = None
judged_of (Some c) = Some (record { at = c.judged; ioctl = c.ioctl })

-- the same after one more entry of its caller
abbrev pub judged_after : What → ℕ → Option Judged → Option Judged
judged_after (Judge ioctl) n x = Some (record { at = n; ioctl = ioctl })
judged_after (Answer reply) n x = None
judged_after _ n x = x

-- the slot that a Look names, in the slots at its `at`; none where that is above the Look's own position
abbrev pub slot_glanced : Glance → States → Option SlotView
slot_glanced g st = if nat_le g.at g.place then slot_by g.slot (st.before g.at).slots else None

-- the run that a Get of a folio adds, and the one that a Page adds
abbrev pub run_glanced : Folio → ℕ → ℕ → Option Glance → States → Option Run
run_glanced folio fresh page None st = None
run_glanced folio fresh page (Some g) st = run_of (get_addition (InFolio folio) fresh g.file (index_in page (slot_glanced g st)) st.now.files)

abbrev pub run_gotten : Folio → ℕ → Option Glimpse → States → Option Run
run_gotten folio fresh None st = None
run_gotten folio fresh (Some x) st = run_glanced folio fresh x.page x.look st

abbrev pub run_paged : ℕ → Folio → ℕ → Option Judged → States → Option Run
run_paged index folio pages None st = None
run_paged index folio pages (Some x) st = run_of (page_addition index folio pages (source x.ioctl index (st.before x.at).slots) st.now.files)
