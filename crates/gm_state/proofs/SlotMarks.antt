-- A slot is marked, and the state stands for the memory after it. What is marked exists.
use Rattle.std.proofs.Common.{◌≡◌, ℕ, Bool, true, false, List, [], ◌∷◌, Option, Some, None, Ok, Err, IsSome, subst, sym, ap, refl, cond, eqb}
use Rattle.gm_base.specs.declared.calls.Ioctl.{Ioctl}
use Rattle.gm_base.specs.declared.calls.Ioctl.TheVariants.{Region2}
use Rattle.gm_base.specs.declared.calls.Region.{Region}
use Rattle.gm_base.specs.declared.values.Errno.TheVariants.{Exist, Inval}
use Rattle.gm_base.specs.declared.values.Setup.{Setup}
use Rattle.gm_flat.specs.Calls.{Bracketed, mark_of, meets_slot, page_of, plan}
use Rattle.gm_flat.specs.Effects.{marked}
use Rattle.gm_flat.specs.FlatState.{Flat}
use Rattle.gm_flat.specs.Slots.{slot_by_id}
use Rattle.gm_flat.specs.declared.effect.Effect.{Effect}
use Rattle.gm_flat.specs.declared.effect.Effect.TheVariants.{Mark, Move, NoSlot}
use Rattle.gm_flat.specs.declared.views.SlotView.{SlotView}
use Rattle.gm_base.specs.Extent.{Extent}
use Rattle.gm_laws.specs.SlotsStand.{AllOf}
use Rattle.gm_slots.specs.Changes.{change_by}
use Rattle.gm_slots.specs.declared.change.Change.TheVariants as change
use Rattle.gm_laws.proofs.Kit.{some_same}
use Rattle.gm_state.proofs.Promises.{promises}
use Rattle.gm_state.proofs.Tracked.{blocks_marked}
use Rattle.gm_state.specs.Marked.{mark_slot, with_mark}
use Rattle.gm_state.specs.Promised.{Makes, Promised}
use Rattle.gm_state.specs.Stand.{IsBounded, Memory, StateIs}
use Rattle.gm_state.specs.Views.{StateView}
use Rattle.gm_store.proofs.SlotEffects.{slot_marked}
use Rattle.gm_store.specs.Stored.{applied}

one_bounded : (user id : ℕ) (t : Bool) (s : SlotView) (slots rest : List SlotView) → IsBounded user s → AllOf (IsBounded user) slots → AllOf (IsBounded user) rest → AllOf (IsBounded user) (cond t (record s { invalid = true } ∷ slots) (s ∷ rest))
one_bounded user id true s slots rest h a b = (record { id = h.id; some = h.some; pages = h.pages; users = h.users; indexes = h.indexes; flagged = h.flagged }, a)
one_bounded user id false s slots rest h a b = (h, b)

all_bounded : (user id : ℕ) (slots : List SlotView) → AllOf (IsBounded user) slots → AllOf (IsBounded user) (marked id slots)
all_bounded user id [] h = tt
all_bounded user id (s ∷ slots) h = one_bounded user id (eqb s.id id) s slots (marked id slots) h.0 h.1 (all_bounded user id slots h.1)

pub mark_stands : (s : Setup) (st : StateView) (m : Memory) (slot : ℕ) → StateIs s st m → StateIs s (with_mark slot st) (record m { stored = applied (Mark slot) m.stored })
mark_stands s st m slot t = record {
  slots_are = ap (λ (xs : List SlotView). marked slot xs) t.slots_are;
  attrs_are = t.attrs_are;
  user = t.user;
  store = slot_marked s.frames st.store m.stored slot t.store;
  bounded = all_bounded s.user slot m.stored.flat.slots t.bounded;
  blocks = blocks_marked s.huge st.huge st.attrs slot m.stored.flat.slots t.blocks;
}

-- a slot that a deletion or a move is about exists

deletes : (r : Region) (slots : List SlotView) (o : Option SlotView) → change_by r slots o ≡ Ok change.Delete → IsSome o
deletes r slots (Some t) e = refl
deletes r slots None e = absurd (never (eqb r.size 0) (meets_slot (page_of r.gpa) (page_of r.size) slots) e)
  where
    never : (t u : Bool) → cond t (Err Inval) (cond u (Err Exist) (Ok change.Make)) ≡ Ok change.Delete → ⊥
    never true u e = cc
    never false true e = cc
    never false false e = cc

pub moves : (r : Region) (slots : List SlotView) (o : Option SlotView) → change_by r slots o ≡ Ok change.Move → IsSome o
moves r slots (Some t) e = refl
moves r slots None e = absurd (never (eqb r.size 0) (meets_slot (page_of r.gpa) (page_of r.size) slots) e)
  where
    never : (t u : Bool) → cond t (Err Inval) (cond u (Err Exist) (Ok change.Make)) ≡ Ok change.Move → ⊥
    never true u e = cc
    never false true e = cc
    never false false e = cc

deleted : (s : Setup) (i : Ioctl) (f : Flat) (id : ℕ) → Makes s i f (NoSlot id) → IsSome (slot_by_id f.slots id)
deleted s (Region2 r) f id m = subst (λ (n : ℕ). IsSome (slot_by_id f.slots n)) (sym m.id_is) (deletes r f.slots (slot_by_id f.slots r.slot) m.changes)
deleted s _ f id m = absurd m

moved : (s : Setup) (i : Ioctl) (f : Flat) (id base : ℕ) → Makes s i f (Move id base) → IsSome (slot_by_id f.slots id)
moved s (Region2 r) f id base m = subst (λ (n : ℕ). IsSome (slot_by_id f.slots n)) (sym m.id_is) (moves r f.slots (slot_by_id f.slots r.slot) m.changes)
moved s _ f id base m = absurd m

by_effect : (s : Setup) (i : Ioctl) (f : Flat) (effect : Effect) (slot : ℕ) → Makes s i f effect → mark_slot effect ≡ Some slot → IsSome (slot_by_id f.slots slot)
by_effect s i f (NoSlot id) slot m h = subst (λ (n : ℕ). IsSome (slot_by_id f.slots n)) (some_same id slot h) (deleted s i f id m)
by_effect s i f (Move id base) slot m h = subst (λ (n : ℕ). IsSome (slot_by_id f.slots n)) (some_same id slot h) (moved s i f id base m)
by_effect s i f _ slot m h = absurd (cc)

pub marked_exists : (s : Setup) (i : Ioctl) (f : Flat) (effect : Effect) (spans : List Extent) (slot : ℕ) → plan s i f ≡ Bracketed effect spans → mark_slot effect ≡ Some slot → IsSome (slot_by_id f.slots slot)
marked_exists s i f effect spans slot e h = by_effect s i f effect slot (subst (Promised s i f) e (promises s i f)) h

-- the mark's slot is that of the mark
pub mark_there : (effect : Effect) (slot : ℕ) → mark_slot effect ≡ Some slot → mark_of effect ≡ Some (Mark slot)
mark_there (NoSlot id) slot h = ap (λ (n : ℕ). Some (Mark n)) (some_same id slot h)
mark_there (Move id base) slot h = ap (λ (n : ℕ). Some (Mark n)) (some_same id slot h)
mark_there _ slot h = absurd (cc)

pub mark_absent : (effect : Effect) → mark_slot effect ≡ None → mark_of effect ≡ None
mark_absent (NoSlot id) h = absurd (cc)
mark_absent (Move id base) h = absurd (cc)
mark_absent _ h = refl
