-- *flat state*: what memory is, as plain lists, the newest item first. (This project's own.)
-- The words of user pages and of folios are read off the history by themselves, in Words.
use Rattle.std.specs.Prelude.{ℕ, ◌%◌, ◌/◌, List, [], ◌∷◌, Bool, true, false, ◌&&◌, ◌||◌, Some, None, nat_eq, length, if◌then◌else◌}
use Rattle.std.specs.declared.option.Option.{Option}
use Rattle.gm_base.specs.Extent.{Extent}
use Rattle.gm_base.specs.declared.values.Folio.{Folio}
use Rattle.gm_base.specs.declared.values.Kind.{Kind}
use Rattle.gm_flat.specs.declared.views.SlotView.{SlotView}

-- a call that set an attribute
pub record AttrCall : Type 0 where
  pub span : Extent
  pub kind : Kind

-- a file: its number, its size in pages, whether it is a BLOCK file, and whether it is in use or shut
pub record FileState : Type 0 where
  pub number : ℕ
  pub pages : ℕ
  pub block : Bool
  pub used : Bool

-- an index of a file that has a folio
pub record Triple : Type 0 where
  pub file : ℕ
  pub index : ℕ
  pub folio : Folio

-- a folio that was added
pub record FolioState : Type 0 where
  pub folio : Folio
  pub live : Bool

pub record Flat : Type 0 where
  pub attrs : List AttrCall
  pub slots : List SlotView
  pub files : List FileState
  pub cache : List Triple
  pub folios : List FolioState

-- no call, slot, file or folio
abbrev pub start : Flat
start = record { attrs = []; slots = []; files = []; cache = []; folios = [] }

-- whether a flag, a power of two, is set
abbrev pub has_flag : ℕ → ℕ → Bool
has_flag flag flags = nat_eq ((flags / flag) % 2) 1

-- files

abbrev pub file_by_number : ℕ → List FileState → Option FileState
file_by_number file [] = None
file_by_number file (f ∷ files) = if nat_eq f.number file then Some f else file_by_number file files

-- whether the number names a file, in use or shut
abbrev pub was_made : ℕ → List FileState → Bool
was_made file [] = false
was_made file (f ∷ files) = nat_eq f.number file || was_made file files

-- whether the number names a file that is in use
abbrev pub in_use : ℕ → List FileState → Bool
in_use file [] = false
in_use file (f ∷ files) = if nat_eq f.number file then f.used else in_use file files

-- the folio cached at an index of a file
abbrev pub is_triple : ℕ → ℕ → Triple → Bool
is_triple file index t = nat_eq t.file file && nat_eq t.index index

abbrev pub cached : ℕ → ℕ → List Triple → Option Folio
cached file index [] = None
cached file index (t ∷ ts) = if is_triple file index t then Some t.folio else cached file index ts

-- folios

-- how many folios were added
abbrev pub added : Flat → ℕ
added f = length f.folios

-- whether a folio of that serial was added
abbrev pub was_added : ℕ → List FolioState → Bool
was_added serial [] = false
was_added serial (x ∷ xs) = nat_eq x.folio.serial serial || was_added serial xs

-- whether the folio of that serial is live
abbrev pub is_live : ℕ → List FolioState → Bool
is_live serial [] = false
is_live serial (x ∷ xs) = if nat_eq x.folio.serial serial then x.live else is_live serial xs

-- whether no live folio has the frame
abbrev pub is_free : ℕ → List FolioState → Bool
is_free frame [] = true
is_free frame (x ∷ xs) = if nat_eq x.folio.frame frame && x.live then false else is_free frame xs
