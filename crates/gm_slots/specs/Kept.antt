-- How slots are kept: in a table by their ids, their ids by age, and where they begin by rising base.
use Rattle.std.specs.Prelude.{◌≡◌, ℕ, ◌<◌, List, [], ◌∷◌, length, map, reverse, slice_index_or, None, Some, ◌⊎◌}
use Rattle.std.specs.declared.option.Option.{Option}
use Rattle.std.specs.List.{Contains}
use Rattle.gm_base.specs.declared.numbers.TheConstants.{SLOT_IDS}
use Rattle.gm_flat.specs.declared.views.SlotView.{SlotView}
use Rattle.gm_flat.specs.Effects.{shut_slot}
use Rattle.gm_flat.specs.Slots.{slot_by_id}
use Rattle.gm_slots.specs.declared.order.Begin.{Begin}
use Rattle.gm_slots.specs.Good.{Good}
use Rattle.gm_slots.specs.Order.{Rises}

-- what is at a place of the table, if there is something, before other slots
abbrev pub with_place : Option SlotView → List SlotView → List SlotView
with_place None slots = slots
with_place (Some s) slots = s ∷ slots

-- the slots of the table with these ids
abbrev pub listed : List (Option SlotView) → List ℕ → List SlotView
listed table [] = []
listed table (id ∷ ids) = with_place (slice_index_or table id None) (listed table ids)

-- the ids of slots
abbrev pub ids_of : List SlotView → List ℕ
ids_of slots = map (λ (s : SlotView). s.id) slots

-- where the slot with an id begins
abbrev pub begin_of : Option SlotView → Option Begin
begin_of None = None
begin_of (Some s) = Some (record { base = s.base; id = s.id })

abbrev pub begin_at : List SlotView → ℕ → Option Begin
begin_at slots id = begin_of (slot_by_id slots id)

-- the table has a place for each id, and there the slot with it
pub record ById (slots : List SlotView) (table : List (Option SlotView)) : Type 0 where
  pub places : length table ≡ SLOT_IDS
  pub each : (id : ℕ) (d : Option SlotView) → id < SLOT_IDS → slice_index_or table id d ≡ slot_by_id slots id

-- the second list says where each slot begins, by rising base, and nothing else
pub record ByBase (slots : List SlotView) (order : List Begin) : Type 0 where
  pub sound : (at : ℕ) (d : Begin) → at < length order → begin_at slots (slice_index_or order at d).id ≡ Some (slice_index_or order at d)
  pub complete : (id : ℕ) (b : Begin) → begin_at slots id ≡ Some b → Contains order b
  pub rises : Rises order

-- good slots are kept so
pub record IsKept (slots : List SlotView) (table : List (Option SlotView)) (ages : List ℕ) (order : List Begin) : Type 0 where
  pub good : Good slots
  pub by_id : ById slots table
  pub by_age : reverse ages ≡ ids_of slots
  pub by_base : ByBase slots order
  pub as_many : length order ≡ length ages

-- a place without the file, if its slot has that one
abbrev pub shut_place : ℕ → Option SlotView → Option SlotView
shut_place file None = None
shut_place file (Some s) = Some (shut_slot file s)

-- of the second table each place is that of the first or without the file; those of slots that begin are without it
pub record IsShut (file : ℕ) (order : List Begin) (table new : List (Option SlotView)) : Type 0 where
  pub places : length new ≡ length table
  pub either : (id : ℕ) (d : Option SlotView) → (slice_index_or new id d ≡ slice_index_or table id d) ⊎ (slice_index_or new id d ≡ shut_place file (slice_index_or table id d))
  pub each : (at : ℕ) (b : Begin) (d : Option SlotView) → at < length order → slice_index_or new (slice_index_or order at b).id d ≡ shut_place file (slice_index_or table (slice_index_or order at b).id d)
