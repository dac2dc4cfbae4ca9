-- *effects*: what changes the flat state. (This project's own; for attributes, slots and files as in kvm_main.c and
-- guest_memfd.c.) An effect that needs what isn't there, or that would make a number outside its type, changes nothing.
use Rattle.std.specs.Prelude.{ℕ, zero, suc, ◌+◌, ◌-◌, ◌/◌, ◌%◌, List, [], ◌∷◌, Bool, true, false, ◌&&◌, ◌||◌, Some, None, nat_eq, nat_le, nat_lt, if◌then◌else◌}
use Rattle.std.specs.declared.option.Option.{Option}
use Rattle.gm_base.specs.declared.calls.Ioctl.{Ioctl}
use Rattle.gm_base.specs.declared.calls.Ioctl.TheVariants.{Allocate, Populate}
use Rattle.gm_base.specs.declared.numbers.TheConstants.{BLOCK_PAGES, PAGE_BYTES}
use Rattle.gm_base.specs.declared.values.Folio.{Folio}
use Rattle.gm_flat.specs.declared.effect.Backing.{Backing}
use Rattle.gm_flat.specs.declared.effect.Backing.TheVariants.{Folio as InFolio}
use Rattle.gm_flat.specs.declared.effect.Effect.{Effect}
use Rattle.gm_flat.specs.declared.effect.Effect.TheVariants.{File, Slot, Mark, NoSlot, Move, Attr, Cut, Shut, Word}
use Rattle.gm_flat.specs.declared.views.SlotView.{SlotView}
use Rattle.gm_flat.specs.FlatState.{Flat, FileState, FolioState, Triple, was_made, was_added}
use Rattle.gm_flat.specs.Slots.{slot_over, index_of, is_file}

-- a u64 and a u32 are below these, 2^64 and 2^32
abbrev pub U64_LIMIT : ℕ
U64_LIMIT = 18446744073709551616

abbrev pub U32_LIMIT : ℕ
U32_LIMIT = 4294967296

-- changes of calls

-- without the slot of that id; of several the one added last goes
abbrev pub dropped : ℕ → List SlotView → List SlotView
dropped id [] = []
dropped id (s ∷ slots) = if nat_eq s.id id then slots else s ∷ dropped id slots

-- with the slot of that id marked: it is to go or to move
abbrev pub marked : ℕ → List SlotView → List SlotView
marked id [] = []
marked id (s ∷ slots) = if nat_eq s.id id then record s { invalid = true } ∷ slots else s ∷ marked id slots

-- with the slot of that id at a new base, and not marked
abbrev pub moved : ℕ → ℕ → List SlotView → List SlotView
moved id base [] = []
moved id base (s ∷ slots) = if nat_eq s.id id then record s { base = base; invalid = false } ∷ slots else s ∷ moved id base slots

-- each slot of the file stays without one
abbrev pub shut_slot : ℕ → SlotView → SlotView
shut_slot file s = record s { file = if is_file s.file file then None else s.file }

abbrev pub shut_slots : ℕ → List SlotView → List SlotView
shut_slots file [] = []
shut_slots file (s ∷ slots) = shut_slot file s ∷ shut_slots file slots

abbrev pub shut_files : ℕ → List FileState → List FileState
shut_files file [] = []
shut_files file (f ∷ files) = if nat_eq f.number file then record f { used = false } ∷ files else f ∷ shut_files file files

-- without the folios of a file at the indexes from lo on and below hi
abbrev pub is_cut : ℕ → ℕ → ℕ → Triple → Bool
is_cut file lo hi t = nat_eq t.file file && (nat_le lo t.index && nat_lt t.index hi)

abbrev pub without : ℕ → ℕ → ℕ → List Triple → List Triple
without file lo hi [] = []
without file lo hi (t ∷ ts) = if is_cut file lo hi t then without file lo hi ts else t ∷ without file lo hi ts

abbrev pub without_file : ℕ → List Triple → List Triple
without_file file [] = []
without_file file (t ∷ ts) = if nat_eq t.file file then without_file file ts else t ∷ without_file file ts

-- whether the user page and the index of each page of a slot are within their types
abbrev pub slot_fits : SlotView → Bool
slot_fits s = nat_le (s.user + s.pages) U64_LIMIT && nat_le (s.index + s.pages) U64_LIMIT

abbrev pub with_slot : SlotView → Flat → Flat
with_slot s f = if slot_fits s then record f { slots = s ∷ f.slots } else f

abbrev pub shut : ℕ → Flat → Flat
shut file f = if was_made file f.files then record f { slots = shut_slots file f.slots; files = shut_files file f.files; cache = without_file file f.cache } else f

abbrev pub apply : Effect → Flat → Flat
apply (File file pages block) f = record f { files = record { number = file; pages = pages; block = block; used = true } ∷ f.files }
apply (Slot slot base pages user flags file index) f = with_slot (record { id = slot; base = base; pages = pages; user = user; flags = flags; file = file; index = index; invalid = false }) f
apply (Mark slot) f = record f { slots = marked slot f.slots }
apply (NoSlot slot) f = record f { slots = dropped slot f.slots }
apply (Move slot base) f = record f { slots = moved slot base f.slots }
apply (Attr span kind) f = record f { attrs = record { span = span; kind = kind } ∷ f.attrs }
apply (Cut file lo hi) f = record f { cache = without file lo hi f.cache }
apply (Shut file) f = shut file f
-- the words are readings of their own, in Words
apply (Word page word value) f = f

-- folios

-- folios that are added together: `pages` of them, with indexes, serials and frames that rise by one from these on.
-- Their words are zero, or those of user pages from `copy` on.
pub record Addition : Type 0 where
  pub file : ℕ
  pub index : ℕ
  pub serial : ℕ
  pub frame : ℕ
  pub pages : ℕ
  pub copy : Option ℕ

abbrev pub with_run : ℕ → ℕ → ℕ → ℕ → ℕ → List Triple → List Triple
with_run zero file index serial frame ts = ts
with_run (suc k) file index serial frame ts = record { file = file; index = index + k; folio = record { serial = serial + k; frame = frame + k } } ∷ with_run k file index serial frame ts

abbrev pub with_folios : ℕ → ℕ → ℕ → List FolioState → List FolioState
with_folios zero serial frame xs = xs
with_folios (suc k) serial frame xs = record { folio = record { serial = serial + k; frame = frame + k }; live = true } ∷ with_folios k serial frame xs

-- what is added is cached
abbrev pub add : Option Addition → Flat → Flat
add None f = f
add (Some d) f = record f { cache = with_run d.pages d.file d.index d.serial d.frame f.cache; folios = with_folios d.pages d.serial d.frame f.folios }

-- whether the file was made, and each index, serial and frame is within its type
abbrev pub addition_fits : Addition → List FileState → Bool
addition_fits d files = was_made d.file files && (nat_le (d.index + d.pages) U64_LIMIT && (nat_le (d.serial + d.pages) U64_LIMIT && nat_le (d.frame + d.pages) U32_LIMIT))

abbrev pub if_fits : Addition → List FileState → Option Addition
if_fits d files = if addition_fits d files then Some d else None

-- a Get with `fresh` 1 adds its folio, since the remainder of an index by 1 is 0; one with `fresh` 512 the aligned run that
-- holds its index
abbrev pub fresh_run : Folio → ℕ → ℕ → ℕ → List FileState → Option Addition
fresh_run folio fresh file index files =
    if nat_le (index % fresh) folio.serial && nat_le (index % fresh) folio.frame
    then if_fits (record { file = file; index = index - index % fresh; serial = folio.serial - index % fresh; frame = folio.frame - index % fresh; pages = fresh; copy = None }) files
    else None

abbrev pub get_addition : Backing → ℕ → Option ℕ → Option ℕ → List FileState → Option Addition
get_addition (InFolio folio) fresh (Some file) (Some index) files = if nat_eq fresh 1 || nat_eq fresh BLOCK_PAGES then fresh_run folio fresh file index files else None
get_addition _ fresh file index files = None

-- the file that a call adds pages to, and the user page for an index that a population adds
pub record Source : Type 0 where
  pub file : ℕ
  pub copy : Option ℕ

abbrev pub file_source : ℕ → ℕ → ℕ → Option ℕ → Option Source
file_source user first index None = None
file_source user first index (Some file) = if nat_le first index then Some (record { file = file; copy = Some (user + (index - first)) }) else None

abbrev pub slot_source : ℕ → ℕ → ℕ → Option SlotView → Option Source
slot_source user page index None = None
slot_source user page index (Some s) = file_source user (index_of s page) index s.file

abbrev pub source : Ioctl → ℕ → List SlotView → Option Source
source (Allocate fd offset length) index slots = Some (record { file = fd; copy = None })
source (Populate gpa pages user) index slots = slot_source (user / PAGE_BYTES) (gpa / PAGE_BYTES) index (slot_over slots (gpa / PAGE_BYTES))
source _ index slots = None

abbrev pub page_addition : ℕ → Folio → ℕ → Option Source → List FileState → Option Addition
page_addition index folio pages None files = None
page_addition index folio pages (Some s) files = if_fits (record { file = s.file; index = index; serial = folio.serial; frame = folio.frame; pages = pages; copy = s.copy }) files

-- `pages` folios from a serial on are freed, where all of them were added
abbrev pub are_added : ℕ → ℕ → List FolioState → Bool
are_added zero serial xs = true
are_added (suc k) serial xs = was_added (serial + k) xs && are_added k serial xs

abbrev pub free_one : ℕ → List FolioState → List FolioState
free_one serial [] = []
free_one serial (x ∷ xs) = if nat_eq x.folio.serial serial then record x { live = false } ∷ xs else x ∷ free_one serial xs

abbrev pub free_each : ℕ → ℕ → List FolioState → List FolioState
free_each zero serial xs = xs
free_each (suc k) serial xs = free_one (serial + k) (free_each k serial xs)

abbrev pub free_run : ℕ → ℕ → List FolioState → List FolioState
free_run pages serial xs = if are_added pages serial xs then free_each pages serial xs else xs
