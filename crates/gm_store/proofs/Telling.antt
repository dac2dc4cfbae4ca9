-- What a store tells of the state that it stands for.
use Rattle.std.proofs.Common.{◌≡◌, ℕ, ◌<◌, ◌≤◌, List, [], ◌∷◌, Bool, true, false, length, set, Option, Some, None, refl, ap, sym, subst, ◌∙◌, cond, eqb}
use Rattle.std.specs.Prelude.{IfNone, IfSome, IsSome, IsSomeAnd, option_map}
use Rattle.std.proofs.lemmas.Bool.{both_ways}
use Rattle.gm_base.specs.declared.numbers.TheConstants.{PAGE_LIMIT, PAGE_WORDS}
use Rattle.gm_base.specs.declared.values.Folio.{Folio}
use Rattle.gm_calls.specs.Lent.{FileIs}
use Rattle.gm_file.specs.Views.{FileView}
use Rattle.gm_flat.specs.Calls.{file_pages}
use Rattle.gm_flat.specs.FlatState.{FileState, Flat, added, cached, file_by_number, in_use}
use Rattle.gm_flat.specs.RightLives.{frame_of}
use Rattle.gm_pool.specs.Pools.{IsLive, use_of}
use Rattle.gm_pool.specs.declared.uses.Use.{Use}
use Rattle.gm_radix.specs.Entries.{IsFirstGap, lookup}
use Rattle.gm_words.specs.Banks.{page_in}
use Rattle.gm_store.proofs.Basics.{not_some, some_is}
use Rattle.gm_store.proofs.Folios.{live_frame}
use Rattle.gm_store.proofs.Pooling.{pool_same, use_of_live, used_within}
use Rattle.gm_store.proofs.Words.{word_written}
use Rattle.gm_store.specs.Asked.{AllCachedIn, IsFirstFree}
use Rattle.gm_store.specs.Stored.{FileKept, StoreStands, Stored, HasUse, has_triple, with_word}
use Rattle.gm_store.specs.Views.{StoreView, cached_in, file_in, pages_in}

none_some : {A B : Type 0} (o : Option A) → o ≡ None → IsSome o → B
none_some None e h = absurd (cc)
none_some (Some x) e h = not_some x (sym e)

some_first : (file lo hi : ℕ) (f : Flat) (x : FileView) (o : Option ℕ) → FileKept (Some x) file f → IfSome o (IsFirstGap x.cached lo) → IfSome o (λ index. index < hi) → IfSome o (IsFirstFree file lo hi f)
some_first file lo hi f x None k g b = tt
some_first file lo hi f x (Some i) k g b = record { from = g.after; below = b; open_here = sym (k.cached_are i) ∙ g.free; none_before = λ j le lt e. none_some (lookup j x.cached) (k.cached_are j ∙ e) (g.taken j le lt) }

pub first_free : (n : ℕ) (st : StoreView) (k : Stored) (file lo hi : ℕ) (x : FileView) (o : Option ℕ) → StoreStands n st k → file_in st.files file ≡ Some x → IfSome o (IsFirstGap x.cached lo) → IfSome o (λ index. index < hi) → IfSome o (IsFirstFree file lo hi k.flat)
first_free n st k file lo hi x o s is g b = some_first file lo hi k.flat x o (subst (λ (y : Option FileView). FileKept y file k.flat) is (s.files.each file)) g b

none_free : (file lo hi : ℕ) (f : Flat) (x : FileView) (o : Option ℕ) → FileKept (Some x) file f → IfNone o ((index : ℕ) → lo ≤ index → index < hi → IsSome (lookup index x.cached)) → IfNone o (AllCachedIn file lo hi f)
none_free file lo hi f x None k h = λ i le lt e. none_some (lookup i x.cached) (k.cached_are i ∙ e) (h i le lt)
none_free file lo hi f x (Some i) k h = tt

pub all_cached : (n : ℕ) (st : StoreView) (k : Stored) (file lo hi : ℕ) (x : FileView) (o : Option ℕ) → StoreStands n st k → file_in st.files file ≡ Some x → IfNone o ((index : ℕ) → lo ≤ index → index < hi → IsSome (lookup index x.cached)) → IfNone o (AllCachedIn file lo hi k.flat)
all_cached n st k file lo hi x o s is h = none_free file lo hi k.flat x o (subst (λ (y : Option FileView). FileKept y file k.flat) is (s.files.each file)) h

-- a live folio's frame is one of the pool's
pub frame_within : (n : ℕ) (st : StoreView) (k : Stored) (serial frame : ℕ) → StoreStands n st k → frame_of serial k.flat.folios ≡ Some frame → frame < n
frame_within n st k serial frame s e = let u = use_of_live serial frame s.pool e in subst (λ (m : ℕ). frame < m) s.pool.count_is (used_within st.pool.uses frame u.0 u.1)

pub serial_told : (n : ℕ) (st : StoreView) (k : Stored) (serial frame : ℕ) → StoreStands n st k → frame_of serial k.flat.folios ≡ Some frame → option_map (λ (u : Use). u.serial) (use_of st.pool frame) ≡ Some serial
serial_told n st k serial frame s e = let u = use_of_live serial frame s.pool e in ap (λ (o : Option Use). option_map (λ (w : Use). w.serial) o) u.1 ∙ ap Some u.2

-- no two live folios have one frame
pub frames_apart : (n : ℕ) (st : StoreView) (k : Stored) (s t frame : ℕ) → StoreStands n st k → frame_of s k.flat.folios ≡ Some frame → frame_of t k.flat.folios ≡ Some frame → s ≡ t
frames_apart n st k s t frame h a b = let u = use_of_live s frame h.pool a in sym u.2 ∙ subst (HasUse t) u.1 (h.pool.has_use t frame b)

pub word_put : (n : ℕ) (st : StoreView) (bank : List (List ℕ)) (k : Stored) (serial frame word value : ℕ) → StoreStands n st k → frame_of serial k.flat.folios ≡ Some frame → word < PAGE_WORDS → bank ≡ set st.bank frame (set (page_in st.bank frame) word value) → StoreStands n (record st { bank = bank }) (with_word serial word value k)
word_put n st bank k serial frame word value s e lw is = record {
  files = s.files;
  pool = s.pool;
  cache = s.cache;
  words = word_written bank serial frame word value s.words (frame_within n st k serial frame s e) lw e (λ j f. frames_apart n st k j serial frame s f e) is;
}

-- other words for holds and for the words of folios
pub stored_as : (n : ℕ) (st : StoreView) (k : Stored) (holds : ℕ → ℕ) (words : ℕ → ℕ → ℕ) → StoreStands n st k → ((s : ℕ) → k.holds s ≡ holds s) → ((s w : ℕ) → w < PAGE_WORDS → k.words s w ≡ words s w) → StoreStands n st (record { flat = k.flat; holds = holds; words = words })
stored_as n st k holds words s h w = record {
  files = s.files;
  pool = pool_same (λ (j : ℕ). has_triple j k.flat.cache) holds s.pool (λ j. refl) h;
  cache = s.cache;
  words = record { count_is = s.words.count_is; whole = s.words.whole; words_are = λ j r word e lt. s.words.words_are j r word e lt ∙ w j word lt };
}

-- the files as a call is judged on them
lent_file : (x : Option FileView) (file : ℕ) (f : Flat) → FileKept x file f → FileIs x file f
lent_file None file f k = k.state
lent_file (Some x) file f k = record { state_is = k.state; bound_is = k.bound_are }

pub files_lent : (n : ℕ) (st : StoreView) (k : Stored) → StoreStands n st k → (file : ℕ) → FileIs (file_in st.files file) file k.flat
files_lent n st k s file = lent_file (file_in st.files file) file k.flat (s.files.each file)

pub files_made : (n : ℕ) (st : StoreView) (k : Stored) → StoreStands n st k → length st.files ≡ length k.flat.files
files_made n st k s = s.files.count_is

-- what callers ask of a store, by the state that it stands for

-- a live folio is one of the pool's, with its holds
pub folio_live : (Such : ℕ → Type 0) (n : ℕ) (st : StoreView) (k : Stored) (folio : Folio) → StoreStands n st k → frame_of folio.serial k.flat.folios ≡ Some folio.frame → Such (k.holds folio.serial) → IsLive st.pool folio (λ usage. Such usage.holds)
folio_live Such n st k folio s e h =
    let u = use_of_live folio.serial folio.frame s.pool e in
    subst (λ (o : Option Use). IsSomeAnd o (λ usage. (usage.serial ≡ folio.serial) × Such usage.holds)) (sym u.1) (u.2, subst Such (sym u.4) h)

-- a folio that is held is live
pub held_frame : (n : ℕ) (st : StoreView) (k : Stored) (serial : ℕ) → StoreStands n st k → 0 < k.holds serial → (frame : ℕ) × (frame_of serial k.flat.folios ≡ Some frame)
held_frame n st k serial s h = live_frame serial k.flat.folios (s.pool.held_live serial h)

-- what is cached is live
pub cached_frame : (n : ℕ) (st : StoreView) (k : Stored) (file index : ℕ) (folio : Folio) → StoreStands n st k → cached file index k.flat.cache ≡ Some folio → frame_of folio.serial k.flat.folios ≡ Some folio.frame
cached_frame n st k file index folio s e = s.cache.live file index folio e

pub bank_has : (n : ℕ) (st : StoreView) (k : Stored) (serial frame : ℕ) → StoreStands n st k → frame_of serial k.flat.folios ≡ Some frame → frame < length st.bank
bank_has n st k serial frame s e = subst (λ (m : ℕ). frame < m) (sym s.words.count_is) (frame_within n st k serial frame s e)

-- serials, files and their pages
pub next_told : (n : ℕ) (st : StoreView) (k : Stored) → StoreStands n st k → st.pool.next ≡ added k.flat
next_told n st k s = s.pool.next_is

pub cached_told : (n : ℕ) (st : StoreView) (k : Stored) (file index : ℕ) → StoreStands n st k → cached_in index (file_in st.files file) ≡ cached file index k.flat.cache
cached_told n st k file index s = (s.files.each file).cached_are index

pub small_told : (n : ℕ) (st : StoreView) (k : Stored) (file : ℕ) → StoreStands n st k → pages_in (file_in st.files file) ≤ PAGE_LIMIT
small_told n st k file s = (s.files.each file).small

used_told : (x : Option FileView) (file : ℕ) (f : Flat) → FileKept x file f → in_use file f.files ≡ true → (y : FileView) × (x ≡ Some y)
used_told None file f k u = absurd (both_ways (in_use file f.files) k.state u)
used_told (Some y) file f k u = (y, refl)

pub file_used : (n : ℕ) (st : StoreView) (k : Stored) (file : ℕ) → StoreStands n st k → in_use file k.flat.files ≡ true → (x : FileView) × (file_in st.files file ≡ Some x)
file_used n st k file s u = used_told (file_in st.files file) file k.flat (s.files.each file) u

number_pages : (file : ℕ) (s : FileState) (fs : List FileState) → file_by_number file fs ≡ Some s → s.pages ≡ file_pages file fs
number_pages file s [] e = not_some s e
number_pages file s (f ∷ fs) e = go (eqb f.number file) (number_pages file s fs) e
  where
    go : (b : Bool) → (file_by_number file fs ≡ Some s → s.pages ≡ file_pages file fs) → cond b (Some f) (file_by_number file fs) ≡ Some s → s.pages ≡ cond b f.pages (file_pages file fs)
    go true ih h = ap (λ (y : FileState). y.pages) (sym (some_is f s h))
    go false ih h = ih h

kept_pages : (x : FileView) (file : ℕ) (f : Flat) → FileKept (Some x) file f → x.pages ≡ file_pages file f.files
kept_pages x file f k = number_pages file (record { number = file; pages = x.pages; block = x.block; used = true }) f.files k.state

pub pages_told : (n : ℕ) (st : StoreView) (k : Stored) (file : ℕ) → StoreStands n st k → in_use file k.flat.files ≡ true → pages_in (file_in st.files file) ≡ file_pages file k.flat.files
pages_told n st k file s u =
    let x = file_used n st k file s u in
    ap pages_in x.1 ∙ kept_pages x.0 file k.flat (subst (λ (y : Option FileView). FileKept y file k.flat) x.1 (s.files.each file))
