-- Folios that are added.
use Rattle.std.specs.Prelude.{◌≡◌, ℕ, ◌+◌, ◌-◌, None}
use Rattle.gm_base.specs.declared.values.Folio.{Folio}
use Rattle.gm_flat.specs.Effects.{Addition}
use Rattle.gm_flat.specs.FlatState.{added}
use Rattle.gm_flat.specs.RightLives.{AddsOne, IsLowestBlock, UsesFirst}
use Rattle.gm_store.specs.Stored.{StoreStands, Stored, with_addition}
use Rattle.gm_store.specs.declared.first_use.Used.{Used}
use Rattle.gm_store.specs.Views.{StoreView}

abbrev pub one_page : ℕ → ℕ → Folio → Addition
one_page file index folio = record { file = file; index = index; serial = folio.serial; frame = folio.frame; pages = 1; copy = None }

-- one folio is added at the index of the file, with these words
pub record AddedOne (frames file index : ℕ) (folio : Folio) (now : ℕ → ℕ) (st : StoreView) (k : Stored) : Type 0 where
  pub adds : AddsOne frames index (one_page file index folio) k.flat
  pub serial_is : folio.serial ≡ added k.flat
  pub stands : StoreStands frames st (with_addition (one_page file index folio) now k)

-- the folios of a block are added at its indexes, with words that are zero
abbrev pub run_of : ℕ → ℕ → ℕ → Folio → Addition
run_of file index pages folio = record { file = file; index = index; serial = folio.serial; frame = folio.frame; pages = pages; copy = None }

pub record AddedBlock (frames file index pages : ℕ) (folio : Folio) (st : StoreView) (k : Stored) : Type 0 where
  pub lowest : IsLowestBlock frames folio.frame k.flat.folios
  pub serial_is : folio.serial ≡ added k.flat
  pub stands : StoreStands frames st (with_addition (run_of file index pages folio) (λ word. 0) k)

-- what a first use added
abbrev pub addition_of : ℕ → Used → Addition
addition_of file u = record { file = file; index = u.index; serial = u.first.serial; frame = u.first.frame; pages = u.pages; copy = None }

-- it is what the rule of lives says, with words that are zero, and `own` is the folio of the index
pub record FirstUsed (frames file index : ℕ) (u : Used) (st : StoreView) (k : Stored) : Type 0 where
  pub adds : UsesFirst frames index (addition_of file u) k.flat
  pub serial_is : u.first.serial ≡ added k.flat
  pub own_serial : u.own.serial ≡ u.first.serial + (index - u.index)
  pub own_frame : u.own.frame ≡ u.first.frame + (index - u.index)
  pub stands : StoreStands frames st (with_addition (addition_of file u) (λ word. 0) k)
