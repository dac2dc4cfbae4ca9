-- *replay*: the flat state after a list of entries. It is the fold of the effects from the start, and looks back at the
-- states before, since an index is that of a Look's slot at the Look's `at`. (This project's own.)
use Rattle.std.specs.Prelude.{ℕ, ◌+◌, List, [], ◌∷◌, length, Some, None, nat_le, if◌then◌else◌}
use Rattle.std.specs.declared.option.Option.{Option}
use Rattle.gm_base.specs.declared.values.Folio.{Folio}
use Rattle.gm_base.specs.declared.values.Actor.{Actor}
use Rattle.gm_base.specs.declared.values.Actor.TheVariants.{Vcpu, Caller}
use Rattle.gm_flat.specs.declared.effect.Backing.{Backing}
use Rattle.gm_flat.specs.declared.entry.Entry.{Entry}
use Rattle.gm_flat.specs.declared.entry.What.{What}
use Rattle.gm_flat.specs.declared.entry.What.TheVariants.{Get, Change, Page, Free}
use Rattle.gm_flat.specs.declared.views.SlotView.{SlotView}
use Rattle.gm_flat.specs.Slots.{slot_by_id, index_of}
use Rattle.gm_flat.specs.Histories.{Seen, Fault, Faulting, fault, Call, call}
use Rattle.gm_flat.specs.FlatState.{Flat, start}
use Rattle.gm_flat.specs.Effects.{Addition, add, apply, get_addition, source, page_addition, free_run}

-- the state after all entries, and the one after the first i of them
pub record States : Type 0 where
  pub now : Flat
  pub before : ℕ → Flat

-- the slot that a Look names, in the state at its `at`; none where that is above the Look's own position
abbrev pub slot_by : Option ℕ → List SlotView → Option SlotView
slot_by None slots = None
slot_by (Some id) slots = slot_by_id slots id

abbrev pub seen_slot : Seen → States → Option SlotView
seen_slot seen st = if nat_le seen.at seen.place then slot_by seen.slot (st.before seen.at).slots else None

-- the index of a page in a slot; none where it is below 0
abbrev pub index_in : ℕ → Option SlotView → Option ℕ
index_in page None = None
index_in page (Some s) = if nat_le s.base (s.index + page) then Some (index_of s page) else None

-- what a Get and a Page add
abbrev pub get_adds : Backing → ℕ → Fault → States → Option Addition
get_adds backing fresh (Faulting access missed sample (Some seen) got) st = get_addition backing fresh seen.file (index_in access.page (seen_slot seen st)) st.now.files
get_adds backing fresh _ st = None

abbrev pub page_adds : ℕ → Folio → ℕ → Option Call → States → Option Addition
page_adds index folio pages None st = None
page_adds index folio pages (Some x) st = page_addition index folio pages (source x.ioctl index (st.before x.judged).slots) st.now.files

abbrev pub adds : What → Actor → List Entry → States → Option Addition
adds (Get backing fresh) (Vcpu v) past st = get_adds backing fresh (fault v past) st
adds (Page index folio pages) (Caller c) past st = page_adds index folio pages (call c past) st
adds _ a past st = None

abbrev pub flat_step : What → Actor → List Entry → States → Flat
flat_step (Change effect) a past st = apply effect st.now
flat_step (Get backing fresh) a past st = add (adds (Get backing fresh) a past st) st.now
flat_step (Page index folio pages) a past st = add (adds (Page index folio pages) a past st) st.now
flat_step (Free folio pages) a past st = record st.now { folios = free_run pages folio.serial st.now.folios }
flat_step _ a past st = st.now

abbrev pub states : List Entry → States
states [] = record { now = start; before = λ i. start }
states (e ∷ past) =
    record {
      now = flat_step e.what e.actor past (states past);
      before = λ i. if nat_le i (length past) then (states past).before i else flat_step e.what e.actor past (states past);
    }

abbrev pub flat : List Entry → Flat
flat past = (states past).now

-- what an entry adds
abbrev pub added_by : What → Actor → List Entry → Option Addition
added_by w a past = adds w a past (states past)

-- the flat state at position i
abbrev pub flat_at : ℕ → List Entry → Flat
flat_at i past = (states past).before i

-- the slot that a Look names
abbrev pub looked_slot : Seen → List Entry → Option SlotView
looked_slot seen past = seen_slot seen (states past)
