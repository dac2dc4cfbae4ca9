-- A view follows the flat state.
use Rattle.std.proofs.Common.{◌≡◌, ◌∙◌, ℕ, List, ◌∷◌, Bool, true, false, cond, refl, sym, ap}
use Rattle.gm_flat.specs.declared.effect.Effect.{Effect}
use Rattle.gm_flat.specs.declared.effect.Effect.TheVariants.{File, Slot, Mark, NoSlot, Move, Attr, Cut, Shut, Word}
use Rattle.gm_flat.specs.declared.views.SlotView.{SlotView}
use Rattle.gm_flat.specs.Effects.{moved, slot_fits, shut_slots, shut_files, without_file}
use Rattle.gm_flat.specs.FlatState.{Flat, was_made}
use Rattle.gm_views.specs.Follows.{slot_added, slot_made, slot_moved, FindsRoom, FollowsFlat}
use Rattle.gm_views.specs.Standing.{may_move, may_stand}

-- where a test holds, the first of two states is meant
slots_where : (b : Bool) (one other : Flat) → b ≡ true → (cond b one other).slots ≡ one.slots
slots_where true one other e = refl
slots_where false one other e = absurd cc

attrs_where : (b : Bool) (one other : Flat) → b ≡ true → (cond b one other).attrs ≡ one.attrs
attrs_where true one other e = refl
attrs_where false one other e = absurd cc

added_where : (s : SlotView) (slots : List SlotView) → may_stand s slots ≡ true → s ∷ slots ≡ slot_added s slots
added_where s slots room = ap (λ (b : Bool). cond b (s ∷ slots) slots) (sym room)

moved_where : (id base : ℕ) (slots : List SlotView) → may_move id base slots ≡ true → moved id base slots ≡ slot_moved id base slots
moved_where id base slots room = ap (λ (b : Bool). cond b (moved id base slots) slots) (sym room)

pub follows : (e : Effect) (f : Flat) → FindsRoom e f → FollowsFlat e f
follows (File file pages block) f room = record { slots = refl; calls = refl }
follows (Slot slot base pages user flags file index) f room =
    let s : SlotView = slot_made slot base pages user flags file index in
    let one : Flat = record f { slots = s ∷ f.slots } in
    record { slots = slots_where (slot_fits s) one f room.0 ∙ added_where s f.slots room.1; calls = attrs_where (slot_fits s) one f room.0 }
follows (Mark slot) f room = record { slots = refl; calls = refl }
follows (NoSlot slot) f room = record { slots = refl; calls = refl }
follows (Move slot base) f room = record { slots = moved_where slot base f.slots room; calls = refl }
follows (Attr span kind) f room = record { slots = refl; calls = refl }
follows (Cut file lo hi) f room = record { slots = refl; calls = refl }
follows (Shut file) f room =
    let one : Flat = record f { slots = shut_slots file f.slots; files = shut_files file f.files; cache = without_file file f.cache } in
    record { slots = slots_where (was_made file f.files) one f room; calls = attrs_where (was_made file f.files) one f room }
follows (Word page word value) f room = record { slots = refl; calls = refl }
