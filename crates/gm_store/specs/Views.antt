-- What is seen of a store.
use Rattle.std.specs.Prelude.{ℕ, zero, suc, ◌+◌, ◌-◌, List, [], Bool, None, Some, Option, slice_index_or, slice_set, if◌then◌else◌}
use Rattle.gm_base.specs.declared.numbers.TheConstants.{BLOCK_PAGES}
use Rattle.gm_base.specs.declared.values.Folio.{Folio}
use Rattle.gm_file.specs.Views.{FileView}
use Rattle.gm_file.specs.declared.ranges.BoundRange.{BoundRange}
use Rattle.gm_pool.specs.Pools.{Frames}
use Rattle.gm_radix.specs.Entries.{lookup, put}
use Rattle.gm_words.specs.Banks.{zero_page}

-- the files by number, of which a shut one is None; for how many more there is room; the frames; and their words
pub record StoreView : Type 0 where
  pub files : List (Option FileView)
  pub spare : ℕ
  pub pool : Frames
  pub bank : List (List ℕ)

-- what is seen of a file that may be shut: nothing of a shut one

-- the folio at an index
abbrev pub cached_in : ℕ → Option FileView → Option Folio
cached_in index None = None
cached_in index (Some x) = lookup index x.cached

-- the ranges that are bound
abbrev pub bound_in : Option FileView → List BoundRange
bound_in None = []
bound_in (Some x) = x.bound

-- the count of pages
abbrev pub pages_in : Option FileView → ℕ
pages_in None = 0
pages_in (Some x) = x.pages

-- for how many more folios it has room, and for how many more ranges
abbrev pub page_room : Option FileView → ℕ
page_room None = 0
page_room (Some x) = x.page_spare

abbrev pub bind_room : Option FileView → ℕ
bind_room None = 0
bind_room (Some x) = x.bind_spare

abbrev pub file_in : List (Option FileView) → ℕ → Option FileView
file_in files number = slice_index_or files number None

-- a new file of this many pages
abbrev pub new_file : ℕ → Bool → FileView
new_file pages block = record { pages = pages; block = block; cached = []; bound = []; page_spare = 0; bind_spare = 0 }

-- the file with a folio more, in its room
abbrev pub with_page : Option FileView → ℕ → Folio → Option FileView
with_page None index folio = None
with_page (Some f) index folio = Some (record f { cached = put index folio f.cached; page_spare = f.page_spare - 1 })

-- all that is cached, with its indexes
abbrev pub pairs_in : Option FileView → List (ℕ × Folio)
pairs_in None = []
pairs_in (Some x) = x.cached

-- the file with so many folios more at indexes that rise by one, with serials and frames that do
abbrev pub with_pages : ℕ → Option FileView → ℕ → Folio → Option FileView
with_pages zero x index folio = x
with_pages (suc j) x index folio = with_page (with_pages j x index folio) (index + j) (record { serial = folio.serial + j; frame = folio.frame + j })

-- pages of zeros in so many frames from one on
abbrev pub with_zeros : ℕ → ℕ → List (List ℕ) → List (List ℕ)
with_zeros zero frame bank = bank
with_zeros (suc j) frame bank = slice_set (with_zeros j frame bank) (frame + j) zero_page

-- room for a first use: a block's pages in a BLOCK file, else one
abbrev pub first_room : Option FileView → ℕ
first_room None = 1
first_room (Some x) = if x.block then BLOCK_PAGES else 1
