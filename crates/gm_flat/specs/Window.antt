-- *window*: which changes are on a page, and since when a touch may have filled. (This project's own.)
use Rattle.std.specs.Prelude.{ℕ, suc, ◌+◌, List, [], ◌∷◌, Bool, false, ◌&&◌, ◌||◌, length, max, Some, None, nat_le, nat_lt, if◌then◌else◌}
use Rattle.std.specs.declared.option.Option.{Option}
use Rattle.gm_base.specs.Extent.{holds}
use Rattle.gm_base.specs.declared.values.Actor.{Actor}
use Rattle.gm_base.specs.declared.values.Actor.TheVariants.{Vcpu, Caller}
use Rattle.gm_flat.specs.declared.effect.Effect.{Effect}
use Rattle.gm_flat.specs.declared.effect.Effect.TheVariants.{File, Slot, Mark, NoSlot, Move, Attr, Cut, Shut, Word}
use Rattle.gm_flat.specs.declared.entry.Entry.{Entry}
use Rattle.gm_flat.specs.declared.entry.What.{What}
use Rattle.gm_flat.specs.declared.entry.What.TheVariants.{Judge, Change, Answer}
use Rattle.gm_flat.specs.declared.views.SlotView.{SlotView}
use Rattle.gm_flat.specs.Slots.{lies_over, slot_over, slot_by_id, index_of, is_file}
use Rattle.gm_flat.specs.Histories.{is_caller}
use Rattle.gm_flat.specs.FlatState.{Flat}
use Rattle.gm_flat.specs.Replay.{flat}
use Rattle.gm_flat.specs.Mappings.{flushed}

abbrev pub in_slot : ℕ → Option SlotView → Bool
in_slot page None = false
in_slot page (Some s) = lies_over s page

abbrev pub in_old_or_new : ℕ → ℕ → Option SlotView → Bool
in_old_or_new page base None = false
in_old_or_new page base (Some s) = lies_over s page || lies_over (record s { base = base }) page

abbrev pub in_cut : ℕ → ℕ → ℕ → ℕ → Option SlotView → Bool
in_cut file lo hi page None = false
in_cut file lo hi page (Some s) = is_file s.file file && (nat_le lo (index_of s page) && nat_lt (index_of s page) hi)

abbrev pub has_file : ℕ → Option SlotView → Bool
has_file file None = false
has_file file (Some s) = is_file s.file file

-- whether the effect is on the page, in the state before its Change
abbrev pub is_on : Effect → Flat → ℕ → Bool
is_on (Attr span kind) f page = holds span page
is_on (Slot slot base pages user flags file index) f page = nat_le base page && nat_lt page (base + pages)
is_on (NoSlot slot) f page = in_slot page (slot_by_id f.slots slot)
is_on (Move slot base) f page = in_old_or_new page base (slot_by_id f.slots slot)
is_on (Cut file lo hi) f page = in_cut file lo hi page (slot_over f.slots page)
is_on (Shut file) f page = has_file file (slot_over f.slots page)
is_on (File file pages block) f page = false
is_on (Word p word value) f page = false
is_on (Mark slot) f page = false

-- the position after the last Change on the page
abbrev pub changed_step : ℕ → What → List Entry → ℕ → ℕ
changed_step page (Change effect) past x = if is_on effect (flat past) page then suc (length past) else x
changed_step page _ past x = x

abbrev pub changed : ℕ → List Entry → ℕ
changed page [] = 0
changed page (e ∷ past) = changed_step page e.what past (changed page past)

-- the same of the Changes of a caller's call in progress
abbrev pub own_step : ℕ → What → List Entry → ℕ → ℕ
own_step page (Judge call) past x = 0
own_step page (Change effect) past x = if is_on effect (flat past) page then suc (length past) else x
own_step page (Answer reply) past x = 0
own_step page _ past x = x

abbrev pub own_change : ℕ → ℕ → List Entry → ℕ
own_change c page [] = 0
own_change c page (e ∷ past) = if is_caller c e.actor then own_step page e.what past (own_change c page past) else own_change c page past

-- the greatest of the positions after the Changes on the page whose calls are answered
abbrev pub settled_step : ℕ → What → Actor → List Entry → ℕ → ℕ
settled_step page (Answer reply) (Caller c) past x = max (own_change c page past) x
settled_step page (Answer reply) (Vcpu v) past x = x
settled_step page _ a past x = x

abbrev pub settled : ℕ → List Entry → ℕ
settled page [] = 0
settled page (e ∷ past) = settled_step page e.what e.actor past (settled page past)

-- the first position at which a touch of the page may have filled
abbrev pub window : ℕ → ℕ → List Entry → ℕ
window v page past = max (flushed v past) (settled page past)
