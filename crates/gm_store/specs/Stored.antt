-- How a store stands for a flat state, with the holds of its folios and their words.
use Rattle.std.specs.Prelude.{◌≡◌, ℕ, ◌+◌, ◌-◌, ◌<◌, ◌≤◌, List, [], ◌∷◌, Bool, true, false, ◌&&◌, ◌||◌, Option, Some, None, length, nat_eq, nat_le, nat_lt, slice_index_or, if◌then◌else◌}
use Rattle.gm_base.specs.declared.numbers.TheConstants.{PAGE_LIMIT, PAGE_WORDS}
use Rattle.gm_base.specs.declared.values.Folio.{Folio}
use Rattle.gm_calls.specs.Lent.{ranges_of}
use Rattle.gm_file.specs.Views.{FileView}
use Rattle.gm_file.specs.declared.ranges.BoundRange.{BoundRange}
use Rattle.gm_flat.specs.Calls.{slots_of_file}
use Rattle.gm_flat.specs.Effects.{Addition, add, apply}
use Rattle.gm_flat.specs.FlatState.{Flat, FileState, FolioState, Triple, cached, file_by_number, in_use, is_free, is_live, start}
use Rattle.gm_flat.specs.RightLives.{frame_of}
use Rattle.gm_flat.specs.declared.effect.Effect.{Effect}
use Rattle.gm_pool.specs.Pools.{Frames, use_of}
use Rattle.gm_pool.specs.declared.uses.Use.{Use}
use Rattle.gm_radix.specs.Entries.{Rises}
use Rattle.gm_words.specs.Banks.{page_in, word_in}
use Rattle.gm_store.specs.Views.{StoreView, bound_in, cached_in, pages_in}

-- a flat state; by serial, how many faults hold a folio; and the words of folios, by serial and number
pub record Stored : Type 0 where
  pub flat : Flat
  pub holds : ℕ → ℕ
  pub words : ℕ → ℕ → ℕ

-- nothing was made
abbrev pub nothing_stored : Stored
nothing_stored = record { flat = start; holds = λ serial. 0; words = λ serial word. 0 }

-- files

-- a file in use is the one of that number; None is a number that no file in use has
abbrev pub IsState : Option FileView → ℕ → List FileState → Type 0
IsState None file files = in_use file files ≡ false
IsState (Some x) file files = file_by_number file files ≡ Some (record { number = file; pages = x.pages; block = x.block; used = true })

-- each bound range has an index
abbrev pub HaveIndexes : List BoundRange → Type 0
HaveIndexes [] = Unit {0}
HaveIndexes (r ∷ ranges) = (r.lo < r.hi) × HaveIndexes ranges

-- the indexes at which something is cached rise, and are the file's
abbrev pub RisesIn : Option FileView → Type 0
RisesIn None = Unit {0}
RisesIn (Some x) = Rises 0 x.pages x.cached

-- the file of a number: its state, what is cached of it, and its bound ranges, which are those of the slots that name it, in
-- order of index. Nothing of a shut file is cached, and no slot names it.
pub record FileKept (x : Option FileView) (file : ℕ) (f : Flat) : Type 0 where
  pub state : IsState x file f.files
  pub cached_are : (index : ℕ) → cached_in index x ≡ cached file index f.cache
  pub bound_are : bound_in x ≡ ranges_of (slots_of_file file f.slots)
  pub have_indexes : HaveIndexes (bound_in x)
  pub rises : RisesIn x
  pub small : pages_in x ≤ PAGE_LIMIT

pub record FilesStand (files : List (Option FileView)) (f : Flat) : Type 0 where
  pub count_is : length files ≡ length f.files
  pub each : (file : ℕ) → FileKept (slice_index_or files file None) file f

-- folios

-- each folio's serial is the number of folios that were added before it
abbrev pub Numbered : List FolioState → Type 0
Numbered [] = Unit {0}
Numbered (x ∷ xs) = (x.folio.serial ≡ length xs) × Numbered xs

-- whether a folio of that serial is cached
abbrev pub has_triple : ℕ → List Triple → Bool
has_triple serial [] = false
has_triple serial (t ∷ ts) = nat_eq t.folio.serial serial || has_triple serial ts

-- no index of a file has two folios, and no folio two places
abbrev pub CachedApart : List Triple → Type 0
CachedApart [] = Unit {0}
CachedApart (t ∷ ts) = (cached t.file t.index ts ≡ None) × (has_triple t.folio.serial ts ≡ false) × CachedApart ts

pub record CacheStands (cache : List Triple) (folios : List FolioState) : Type 0 where
  pub apart : CachedApart cache
  -- what is cached is live, in the frame that it is cached with
  pub live : (file index : ℕ) (folio : Folio) → cached file index cache ≡ Some folio → frame_of folio.serial folios ≡ Some folio.frame

-- a frame's use is that of a live folio, with its holds, and with a mark where it is one of the marked; a frame without a use
-- is free
pub record UseStands (u : Use) (frame : ℕ) (folios : List FolioState) (marked : ℕ → Bool) (holds : ℕ → ℕ) : Type 0 where
  pub frame_is : frame_of u.serial folios ≡ Some frame
  pub mark_is : u.cached ≡ marked u.serial
  pub holds_are : u.holds ≡ holds u.serial

abbrev pub UseIs : Option Use → ℕ → List FolioState → (ℕ → Bool) → (ℕ → ℕ) → Type 0
UseIs None frame folios marked holds = is_free frame folios ≡ true
UseIs (Some u) frame folios marked holds = UseStands u frame folios marked holds

abbrev pub HasUse : ℕ → Option Use → Type 0
HasUse serial None = ⊥
HasUse serial (Some u) = u.serial ≡ serial

-- the pool's uses are those of live folios, of which these are marked as cached and these many faults hold each
pub record PoolStands (frames : ℕ) (pool : Frames) (folios : List FolioState) (marked : ℕ → Bool) (holds : ℕ → ℕ) : Type 0 where
  pub count_is : length pool.uses ≡ frames
  pub next_is : pool.next ≡ length folios
  pub numbered : Numbered folios
  pub uses_are : (frame : ℕ) → UseIs (use_of pool frame) frame folios marked holds
  pub has_use : (serial frame : ℕ) → frame_of serial folios ≡ Some frame → HasUse serial (use_of pool frame)
  -- a folio that is held is live
  pub held_live : (serial : ℕ) → 0 < holds serial → is_live serial folios ≡ true

-- the words of each live folio's frame are the folio's
pub record WordsStand (frames : ℕ) (bank : List (List ℕ)) (folios : List FolioState) (words : ℕ → ℕ → ℕ) : Type 0 where
  pub count_is : length bank ≡ frames
  pub whole : (frame : ℕ) → frame < frames → length (page_in bank frame) ≡ PAGE_WORDS
  pub words_are : (serial frame word : ℕ) → frame_of serial folios ≡ Some frame → word < PAGE_WORDS → word_in bank frame word ≡ words serial word

pub record StoreStands (frames : ℕ) (st : StoreView) (k : Stored) : Type 0 where
  pub files : FilesStand st.files k.flat
  pub pool : PoolStands frames st.pool k.flat.folios (λ serial. has_triple serial k.flat.cache) k.holds
  pub cache : CacheStands k.flat.cache k.flat.folios
  pub words : WordsStand frames st.bank k.flat.folios k.words

-- what calls make of what is stored

-- after an effect
abbrev pub applied : Effect → Stored → Stored
applied effect k = record k { flat = apply effect k.flat }

-- words after new folios of rising serials, the words of the first beginning with these
abbrev pub words_after : ℕ → ℕ → (ℕ → ℕ) → (ℕ → ℕ → ℕ) → ℕ → ℕ → ℕ
words_after first pages now words serial word = if nat_le first serial && nat_lt serial (first + pages) then now word else words serial word

-- after folios that are added, each with these words
abbrev pub with_addition : Addition → (ℕ → ℕ) → Stored → Stored
with_addition d now k = record { flat = add (Some d) k.flat; holds = k.holds; words = words_after d.serial d.pages now k.words }

-- after one hold more or less of a folio
abbrev pub held_more : ℕ → Stored → Stored
held_more serial k = record k { holds = λ s. if nat_eq s serial then k.holds s + 1 else k.holds s }

abbrev pub held_less : ℕ → Stored → Stored
held_less serial k = record k { holds = λ s. if nat_eq s serial then k.holds s - 1 else k.holds s }

-- after a write of a word of a folio
abbrev pub with_word : ℕ → ℕ → ℕ → Stored → Stored
with_word serial word value k = record k { words = λ s w. if nat_eq s serial && nat_eq w word then value else k.words s w }
