-- How slots and files stand to each other at every position.
use Rattle.std.specs.Prelude.{◌≡◌, ℕ, List, [], ◌∷◌, true, false, Some}
use Rattle.gm_base.specs.Extent.{meets}
use Rattle.gm_base.specs.declared.values.Folio.{Folio}
use Rattle.gm_flat.specs.declared.views.SlotView.{SlotView}
use Rattle.gm_flat.specs.Slots.{slot_span, is_file}
use Rattle.gm_flat.specs.FlatState.{Flat, cached, in_use}
use Rattle.gm_flat.specs.Calls.{bound_range, has_memfd}

abbrev pub AllOf : (SlotView → Type 0) → List SlotView → Type 0
AllOf P [] = Unit {0}
AllOf P (s ∷ slots) = P s × AllOf P slots

-- a fact of each slot with each one that was added before it
abbrev pub Pairwise : (SlotView → SlotView → Type 0) → List SlotView → Type 0
Pairwise R [] = Unit {0}
Pairwise R (s ∷ slots) = AllOf (R s) slots × Pairwise R slots

abbrev pub HasOtherId : SlotView → SlotView → Type 0
HasOtherId s r = s.id ≡ r.id → ⊥

abbrev pub LiesApart : SlotView → SlotView → Type 0
LiesApart s r = meets (slot_span s) (slot_span r) ≡ false

-- slots of one file are bound apart
abbrev pub IsBoundApart : SlotView → SlotView → Type 0
IsBoundApart s r = (file : ℕ) → is_file s.file file ≡ true → is_file r.file file ≡ true → meets (bound_range s) (bound_range r) ≡ false

pub record SlotsStand (f : Flat) : Type 0 where
  pub ids_differ : Pairwise HasOtherId f.slots
  pub lie_apart : Pairwise LiesApart f.slots
  pub bound_apart : Pairwise IsBoundApart f.slots
  -- the file of a slot is in use, and the slot has the flag for it
  pub files_in_use : AllOf (λ s. (file : ℕ) → is_file s.file file ≡ true → (in_use file f.files ≡ true) × (has_memfd s ≡ true)) f.slots
  -- what is cached is cached in a file that is in use
  pub cached_in_use : (file index : ℕ) (folio : Folio) → cached file index f.cache ≡ Some folio → in_use file f.files ≡ true
