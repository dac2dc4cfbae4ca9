-- *right lives*: how folios are added, held and freed. (guest_memfd.c, kvm_gmem_get_folio and the punch of a hole; the
-- serials, the choice of frames and the blocks of a BLOCK file are this project's own.)
use Rattle.std.specs.Prelude.{◌≡◌, ℕ, ◌+◌, ◌-◌, ◌%◌, ◌<◌, ◌≤◌, List, [], ◌∷◌, true, false, ◌⊎◌, Some, None, nat_eq, if◌then◌else◌}
use Rattle.std.specs.declared.option.Option.{Option}
use Rattle.gm_base.specs.declared.numbers.TheConstants.{BLOCK_PAGES}
use Rattle.gm_base.specs.declared.values.Folio.{Folio}
use Rattle.gm_base.specs.declared.values.Setup.{Setup}
use Rattle.gm_base.specs.declared.values.Actor.{Actor}
use Rattle.gm_base.specs.declared.values.Actor.TheVariants.{Vcpu, Caller}
use Rattle.gm_flat.specs.declared.effect.Backing.{Backing}
use Rattle.gm_flat.specs.declared.effect.Backing.TheVariants.{User, Folio as InFolio}
use Rattle.gm_flat.specs.declared.entry.Entry.{Entry}
use Rattle.gm_flat.specs.declared.entry.What.{What}
use Rattle.gm_flat.specs.declared.entry.What.TheVariants.{Get, Retry, Touch, Change, Page, Free}
use Rattle.gm_flat.specs.Histories.{Fault, Faulting, fault, Call, call, same_turn, newest_turn, before_turn}
use Rattle.gm_flat.specs.FlatState.{Flat, FileState, FolioState, Triple, cached, added, is_live, is_free, file_by_number}
use Rattle.gm_flat.specs.Effects.{Addition}
use Rattle.gm_flat.specs.Replay.{flat, flat_at, looked_slot, index_in, added_by}
use Rattle.gm_flat.specs.Calls.{PagePlan, Plan, Paged, plan}

-- frames

-- the lowest free frame
pub record IsLowestFrame (frames frame : ℕ) (folios : List FolioState) : Type 0 where
  pub below : frame < frames
  pub free : is_free frame folios ≡ true
  pub lowest : (other : ℕ) → other < frame → is_free other folios ≡ false

-- 512 free frames that begin at a multiple of 512
pub record IsFreeBlock (frames frame : ℕ) (folios : List FolioState) : Type 0 where
  pub aligned : frame % BLOCK_PAGES ≡ 0
  pub below : frame + BLOCK_PAGES ≤ frames
  pub free : (k : ℕ) → k < BLOCK_PAGES → is_free (frame + k) folios ≡ true

pub record IsLowestBlock (frames frame : ℕ) (folios : List FolioState) : Type 0 where
  pub block : IsFreeBlock frames frame folios
  pub lowest : (other : ℕ) → other < frame → IsFreeBlock frames other folios → ⊥

-- additions

abbrev pub first_of_run : ℕ → ℕ
first_of_run index = index - index % BLOCK_PAGES

-- the file is a BLOCK file, and the pages below `end` lie inside it
abbrev pub HoldsBlock : ℕ → Option FileState → Type 0
HoldsBlock end None = ⊥
HoldsBlock end (Some f) = (f.block ≡ true) × (end ≤ f.pages)

-- whether a first use of the index takes 512 folios at once
pub record TakesBlock (frames file index : ℕ) (f : Flat) : Type 0 where
  pub in_file : HoldsBlock (first_of_run index + BLOCK_PAGES) (file_by_number file f.files)
  pub none_cached : (k : ℕ) → k < BLOCK_PAGES → cached file (first_of_run index + k) f.cache ≡ None
  pub has_frames : (frame : ℕ) × IsFreeBlock frames frame f.folios

pub record AddsOne (frames index : ℕ) (d : Addition) (f : Flat) : Type 0 where
  pub pages : d.pages ≡ 1
  pub index_is : d.index ≡ index
  pub frame : IsLowestFrame frames d.frame f.folios

pub record AddsBlock (frames index : ℕ) (d : Addition) (f : Flat) : Type 0 where
  pub pages : d.pages ≡ BLOCK_PAGES
  pub index_is : d.index ≡ first_of_run index
  pub frame : IsLowestBlock frames d.frame f.folios
  pub takes : TakesBlock frames d.file index f

-- a first use of an index, by a fault or an allocation: 512 exactly where it takes a block
abbrev pub UsesFirst : ℕ → ℕ → Addition → Flat → Type 0
UsesFirst frames index d f = AddsBlock frames index d f ⊎ (AddsOne frames index d f × (TakesBlock frames d.file index f → ⊥))

-- a serial is the number of folios added before
abbrev pub IsNext : Addition → Flat → Type 0
IsNext d f = d.serial ≡ added f

abbrev pub GetAdds : ℕ → Option ℕ → Option Addition → Flat → Type 0
GetAdds frames (Some index) (Some d) f = IsNext d f × UsesFirst frames index d f
GetAdds frames index d f = ⊥

abbrev pub looked_index : Fault → List Entry → Option ℕ
looked_index (Faulting a missed sample (Some seen) got) past = index_in a.page (looked_slot seen past)
looked_index _ past = None

abbrev pub RightGetAdds : ℕ → ℕ → Fault → Option Addition → List Entry → Type 0
RightGetAdds frames fresh fault d past = 0 < fresh → GetAdds frames (looked_index fault past) d (flat past)

-- the first index of a range of a file that isn't cached
pub record IsFirstOpen (p : PagePlan) (index : ℕ) (f : Flat) : Type 0 where
  pub from : p.index ≤ index
  pub below : index < p.index + p.pages
  pub open_here : cached p.file index f.cache ≡ None
  pub none_before : (j : ℕ) → p.index ≤ j → j < index → (cached p.file j f.cache ≡ None) → ⊥

-- an allocation adds as a first use does, a population one folio
abbrev pub PageAddsBy : ℕ → PagePlan → Option ℕ → Addition → Flat → Type 0
PageAddsBy frames p None d f = (index : ℕ) → IsFirstOpen p index f → UsesFirst frames index d f
PageAddsBy frames p (Some base) d f = AddsOne frames d.index d f

abbrev pub PageAdds : ℕ → Plan → Option Addition → Flat → Type 0
PageAdds frames (Paged p) (Some d) f = (d.file ≡ p.file) × IsNext d f × PageAddsBy frames p p.base d f
PageAdds frames plan d f = ⊥

-- the plan of a call in progress, over the flat state at its Judge
abbrev pub plan_of : Setup → Call → List Entry → Plan
plan_of s x past = plan s x.ioctl (flat_at x.judged past)

abbrev pub RightPageAdds : Setup → Option Call → Option Addition → List Entry → Type 0
RightPageAdds s None d past = ⊥
RightPageAdds s (Some x) d past = PageAdds s.frames (plan_of s x past) d (flat past)

-- holds and frees

abbrev pub IsCached : ℕ → Flat → Type 0
IsCached serial f = (file : ℕ) × (index : ℕ) × (folio : Folio) × (cached file index f.cache ≡ Some folio) × (folio.serial ≡ serial)

abbrev pub IsOfFolio : ℕ → Backing → Type 0
IsOfFolio serial (User user) = ⊥
IsOfFolio serial (InFolio folio) = folio.serial ≡ serial

-- a fault holds the folio that its last Get named
abbrev pub FaultHolds : ℕ → Fault → Type 0
FaultHolds serial (Faulting a missed sample look (Some gotten)) = IsOfFolio serial gotten.backing
FaultHolds serial _ = ⊥

abbrev pub IsHeld : ℕ → List Entry → Type 0
IsHeld serial past = (v : ℕ) × FaultHolds serial (fault v past)

-- the frame of a live folio
abbrev pub frame_of : ℕ → List FolioState → Option ℕ
frame_of serial [] = None
frame_of serial (x ∷ xs) = if nat_eq x.folio.serial serial then (if x.live then Some x.folio.frame else None) else frame_of serial xs

-- the index at which a folio is cached
abbrev pub index_of_folio : ℕ → List Triple → Option ℕ
index_of_folio serial [] = None
index_of_folio serial (t ∷ ts) = if nat_eq t.folio.serial serial then Some t.index else index_of_folio serial ts

-- a run of folios that is freed, and its first index before the turn
abbrev pub IsRunAt : ℕ → Folio → ℕ → List Triple → Type 0
IsRunAt index folio pages cache = (k : ℕ) → k < pages → index_of_folio (folio.serial + k) cache ≡ Some (index + k)

-- it comes after the Free before it in index, and isn't one run with it
abbrev pub ComesAfter : ℕ → Folio → List Triple → List What → Type 0
ComesAfter index folio cache [] = Unit {0}
ComesAfter index folio cache (Free last pages ∷ []) = (before : ℕ) × IsRunAt before last pages cache × (before + pages ≤ index) × ((before + pages ≡ index) × (last.serial + pages ≡ folio.serial) × (last.frame + pages ≡ folio.frame) → ⊥)
ComesAfter index folio cache (w ∷ ws) = ComesAfter index folio cache ws

-- of a turn whose entries are these so far, over the cache before it: after a Change the frees are runs in order of index, no
-- two of which are one run; after a Retry there is one, of one page. What leaves nothing over is that all lives are at rest
-- when the turn ends; so they are the longest runs, and of a Retry the folio whose last hold ended
abbrev pub IsPlaced : Folio → ℕ → List What → List Triple → Type 0
IsPlaced folio pages (Change effect ∷ frees) cache = (index : ℕ) × IsRunAt index folio pages cache × ComesAfter index folio cache frees
IsPlaced folio pages (Retry ∷ []) cache = pages ≡ 1
IsPlaced folio pages _ cache = ⊥

pub record FreeIsRight (folio : Folio) (pages : ℕ) (past : List Entry) : Type 0 where
  pub some : 0 < pages
  pub live : (k : ℕ) → k < pages → frame_of (folio.serial + k) (flat past).folios ≡ Some (folio.frame + k)
  pub not_cached : (k : ℕ) → k < pages → IsCached (folio.serial + k) (flat past) → ⊥
  pub not_held : (k : ℕ) → k < pages → IsHeld (folio.serial + k) past → ⊥
  pub placed : IsPlaced folio pages (newest_turn past) (flat (before_turn past)).cache

-- a folio that a touch names is live
abbrev pub IsLive : Backing → Flat → Type 0
IsLive (User user) f = Unit {0}
IsLive (InFolio folio) f = is_live folio.serial f.folios ≡ true

-- at the end of a turn: two live folios have different frames, and a folio is live exactly where it is cached or held.
-- So it is freed in the turn in which it leaves the cache and the last hold, once, and at no other place.
pub record LivesAtRest (past : List Entry) : Type 0 where
  pub frames_differ : (s t frame : ℕ) → frame_of s (flat past).folios ≡ Some frame → frame_of t (flat past).folios ≡ Some frame → s ≡ t
  pub live_is_used : (serial : ℕ) → is_live serial (flat past).folios ≡ true → IsCached serial (flat past) ⊎ IsHeld serial past
  pub used_is_live : (serial : ℕ) → IsCached serial (flat past) ⊎ IsHeld serial past → is_live serial (flat past).folios ≡ true

abbrev pub LivesOf : Setup → What → Actor → List Entry → Type 0
LivesOf s (Get backing fresh) (Vcpu v) past = RightGetAdds s.frames fresh (fault v past) (added_by (Get backing fresh) (Vcpu v) past) past
LivesOf s (Get backing fresh) (Caller c) past = ⊥
LivesOf s (Page index folio pages) (Caller c) past = RightPageAdds s (call c past) (added_by (Page index folio pages) (Caller c) past) past
LivesOf s (Page index folio pages) (Vcpu v) past = ⊥
LivesOf s (Touch a backing level value fill) actor past = IsLive backing (flat past)
LivesOf s (Free folio pages) actor past = FreeIsRight folio pages past
LivesOf s _ actor past = Unit {0}

-- at each entry; and at rest before the first entry of each turn
pub record RightLives (s : Setup) (e : Entry) (past : List Entry) : Type 0 where
  pub here : LivesOf s e.what e.actor past
  pub at_rest : same_turn e past ≡ false → LivesAtRest past
