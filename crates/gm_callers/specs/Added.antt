-- What a run of pages of a call adds.
use Rattle.std.specs.Prelude.{ℕ, ◌+◌, ◌-◌, Option, Some, None}
use Rattle.gm_base.specs.declared.values.Folio.{Folio}
use Rattle.gm_flat.specs.Calls.{PagePlan as Planned}
use Rattle.gm_flat.specs.Effects.{Addition, Source}

-- the user page whose words a population copies to an index
abbrev pub copy_at : Option ℕ → ℕ → ℕ → Option ℕ
copy_at None first index = None
copy_at (Some user) first index = Some (user + (index - first))

abbrev pub source_of : Planned → ℕ → Source
source_of p index = record { file = p.file; copy = copy_at p.copy p.index index }

-- this many pages from an index of the plan's file on, with folios from this one on
abbrev pub added_pages : Planned → ℕ → Folio → ℕ → Addition
added_pages p index folio pages = record { file = p.file; index = index; serial = folio.serial; frame = folio.frame; pages = pages; copy = copy_at p.copy p.index index }
