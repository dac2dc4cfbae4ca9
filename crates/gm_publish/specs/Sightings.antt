-- Sightings of a fault.
use Rattle.std.specs.Prelude.{ℕ, List, length}
use Rattle.gm_flat.specs.Attribute.{attr_of}
use Rattle.gm_flat.specs.Histories.{Fault, Faulting, NoFault, fault}
use Rattle.gm_flat.specs.Replay.{flat}
use Rattle.gm_flat.specs.Slots.{slot_over}
use Rattle.gm_flat.specs.declared.entry.Entry.{Entry}
use Rattle.gm_flat.specs.declared.views.Sighting.{Sighting}
use Rattle.gm_laws.specs.Counting.{ends}

-- the page of a fault's access
abbrev pub page_in : Fault → ℕ
page_in NoFault = 0
page_in (Faulting a missed sample look got) = a.page

-- what is seen of a page now
abbrev pub sight_of_page : ℕ → List Entry → Sighting
sight_of_page page past = record { sampled = record { at = length past; seq = ends past }; looked = record { at = length past; slot = slot_over (flat past).slots page; attr = attr_of page (flat past).attrs } }

-- what the fault of a vCPU sees now
abbrev pub present : ℕ → List Entry → Sighting
present v past = sight_of_page (page_in (fault v past)) past
