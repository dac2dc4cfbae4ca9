-- Small lemmas.
use Rattle.std.proofs.Common.{Bool, cond, false, refl, true, ◌∷◌, ◌≡◌}
use Rattle.std.proofs.lemmas.Bool.{both_ways}
use Rattle.gm_flat.specs.Effects.{apply, shut_files, shut_slots, slot_fits, without_file}
use Rattle.gm_flat.specs.FlatState.{Flat, was_made}
use Rattle.gm_flat.specs.declared.effect.Effect.{Effect}
use Rattle.gm_flat.specs.declared.effect.Effect.TheVariants.{Attr, Cut, File, Mark, Move, NoSlot, Shut, Slot, Word}

pub false_true : {A : Type 0} → false ≡ true → A
false_true e = absurd (both_ways false refl e)

pub effect_folios : (e : Effect) (f : Flat) → (apply e f).folios ≡ f.folios
effect_folios (Shut F) f = go (was_made F f.files)
  where
    go : (t : Bool) → (cond t (record f { slots = shut_slots F f.slots; files = shut_files F f.files; cache = without_file F f.cache }) f).folios ≡ f.folios
    go true = refl
    go false = refl
effect_folios (Slot id base pages user flags file index) f = go (slot_fits (record { id = id; base = base; pages = pages; user = user; flags = flags; file = file; index = index; invalid = false }))
  where
    go : (t : Bool) → (cond t (record f { slots = record { id = id; base = base; pages = pages; user = user; flags = flags; file = file; index = index; invalid = false } ∷ f.slots }) f).folios ≡ f.folios
    go true = refl
    go false = refl
effect_folios (Cut F lo hi) f = refl
effect_folios (File file pages block) f = refl
effect_folios (Mark id) f = refl
effect_folios (NoSlot id) f = refl
effect_folios (Move id base) f = refl
effect_folios (Attr span kind) f = refl
effect_folios (Word p w v) f = refl
