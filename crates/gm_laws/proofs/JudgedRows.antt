-- A call in progress that hasn't made its change sees the row of its Judge, since nobody else holds its locks.
use Rattle.std.proofs.Common.{◌<◌, List, Some, [], ap, arith, eqb, false, inl, inr, length, refl, subst, sym, true, ℕ, ◌∙◌, ◌∷◌, ◌≡◌, ◌⊎◌}
use Rattle.std.proofs.lemmas.Bool.{and_parts, both_ways, cases_eq}
use Rattle.std.proofs.lemmas.Bool.Decides.{nat_tests}
use Rattle.gm_base.specs.Scripts.{Orders}
use Rattle.gm_base.specs.declared.calls.Ioctl.{Ioctl}
use Rattle.gm_base.specs.declared.values.Actor.{Actor}
use Rattle.gm_base.specs.declared.values.Actor.TheVariants.{Caller, Vcpu}
use Rattle.gm_flat.specs.Calls.{file_pages}
use Rattle.gm_flat.specs.Effects.{apply, shut_files, shut_slots, slot_fits, without_file}
use Rattle.gm_flat.specs.FlatState.{FileState, Flat, in_use, was_made}
use Rattle.gm_flat.specs.Histories.{Call, bracket, call, is_mark}
use Rattle.gm_flat.specs.Locks.{FileLock, Lock, SlotsLock, takes, takes_file, takes_slots}
use Rattle.gm_flat.specs.Replay.{flat, flat_at}
use Rattle.gm_flat.specs.declared.effect.Effect.{Effect}
use Rattle.gm_flat.specs.declared.effect.Effect.TheVariants.{Attr, Cut, File, Mark, Move, NoSlot, Shut, Slot, Word}
use Rattle.gm_flat.specs.declared.entry.Entry.{Entry}
use Rattle.gm_flat.specs.declared.entry.What.{What}
use Rattle.gm_flat.specs.declared.entry.What.TheVariants.{Change, Judge}
use Rattle.gm_flat.specs.declared.views.SlotView.{SlotView}
use Rattle.gm_laws.proofs.BoundRanges.{New, Numbered, kept, new_by, pages_shut, used_made}
use Rattle.gm_laws.proofs.Flats.{cond_P}
use Rattle.gm_laws.proofs.Grow.{same_state}
use Rattle.gm_laws.proofs.Kit.{by, none_is}
use Rattle.gm_laws.proofs.Locks.{Facts, Locks, in_use-shut}
use Rattle.gm_laws.proofs.LocksKeep.{OldCall, can_change, changer, inverted, new_then, no_new, takes_same, then_same}
use Rattle.gm_laws.proofs.Touches.{locks}
use Rattle.gm_laws.specs.May.{May}
use Rattle.gm_laws.specs.Ruled.{Follows}

-- what the holder of a lock sees of the state, beside the state at its Judge
pub record IsSeen (R : Flat → Flat → Type 0) (lock : Lock) : Type 0 where
  pub at_first : (i : Ioctl) (f : Flat) → takes lock i f ≡ true → R f f
  pub like : (f g h : Flat) → g.attrs ≡ f.attrs → g.files ≡ f.files → R f h → R g h
  pub change : (e : Effect) (i : Ioctl) (h f k : Flat) → Facts e i h f → New e f → Numbered f.files → R f k → R (apply e f) k ⊎ ((is_mark e ≡ false) × (takes lock i h ≡ true))

abbrev pub Sees : (Flat → Flat → Type 0) → Lock → List Entry → Type 0
Sees R lock past = (c : ℕ) (x : Call) → call c past ≡ Some x → x.made ≡ false → takes lock x.ioctl (flat_at x.judged past) ≡ true → R (flat past) (flat_at x.judged past)

module _ (R : Flat → Flat → Type 0) (lock : Lock) (seen : IsSeen R lock) where
  -- a call that was in progress before
  old : (o : Orders) (t : ℕ) (w : What) (a : Actor) (past : List Entry) (c : ℕ) (x : Call) → Locks o.setup past → Sees R lock past → (p : OldCall w a c x past) → x.made ≡ false → takes lock x.ioctl (flat_at x.judged (by t a w ∷ past)) ≡ true → R (flat past) (flat_at x.judged (by t a w ∷ past))
  old o t w a past c x k u p made h =
      subst (λ (f : Flat). R (flat past) f) (sym (then_same t w a past x p.0 (k.call_lt c p.0 p.1) p.2))
      (u c p.0 p.1 (p.4 made).0 (sym (takes_same t w a past x p.0 lock (k.call_lt c p.0 p.1) p.2 p.3) ∙ h))

  sees_change : (o : Orders) (t : ℕ) (e : Effect) (d : ℕ) (past : List Entry) → Locks o.setup past → Numbered (flat past).files → May o (Change e) (Caller d) past → Sees R lock past → Sees R lock (by t (Caller d) (Change e) ∷ past)
  sees_change o t e d past k n m u c x ec made h =
      elim (inverted t (Change e) (Caller d) past c x ec) [
        | inl p ↦ absurd p
        | inr p ↦
            let can = can_change o.setup e past (call d past) (bracket d past) m in
            let y = changer e d past (call d past) k refl can in
            elim (seen.change e y.0.ioctl (flat_at y.0.judged past) (flat past) (flat_at x.judged (by t (Caller d) (Change e) ∷ past)) y.2 (new_by o.setup e d past (call d past) k refl can) n (old o t (Change e) (Caller d) past c x k u p made h)) [
              | inl z ↦ z
              | inr held ↦ absurd (both_ways (takes lock p.0.ioctl (flat_at p.0.judged past)) (k.apart d c y.0 p.0 lock ((p.4 made).1 held.0) y.1 p.1 held.1) (sym (takes_same t (Change e) (Caller d) past x p.0 lock (k.call_lt c p.0 p.1) p.2 p.3) ∙ h))
            ]
      ]

  sees_keep : (o : Orders) (t : ℕ) (w : What) (a : Actor) (past : List Entry) → Locks o.setup past → Numbered (flat past).files → May o w a past → Sees R lock past → Sees R lock (by t a w ∷ past)
  sees_keep o t (Change e) (Caller d) past k n m u = sees_change o t e d past k n m u
  sees_keep o t (Change e) (Vcpu v) past k n m u = absurd m
  sees_keep o t (Judge i) (Vcpu v) past k n m u = absurd m
  sees_keep o t (Judge i) (Caller d) past k n m u = λ c x ec made h.
      elim (inverted t (Judge i) (Caller d) past c x ec) [
        | inl p ↦
            let same = new_then t (Judge i) (Caller d) past x p.1 in
            subst (λ (f : Flat). R (flat past) f) (sym same) (seen.at_first x.ioctl (flat past) (subst (λ (f : Flat). takes lock x.ioctl f ≡ true) same h))
        | inr p ↦ old o t (Judge i) (Caller d) past c x k u p made h
      ]
  sees_keep o t w a past k n m u = λ c x ec made h.
      elim (inverted t w a past c x ec) [
        | inl p ↦ absurd (no_new w a c x past refl p)
        | inr p ↦
            let same = same_state t w a past refl in
            seen.like (flat past) (flat (by t a w ∷ past)) (flat_at x.judged (by t a w ∷ past)) same.1 same.2 (old o t w a past c x k u p made h)
      ]

  pub sees : (o : Orders) (past : List Entry) → Follows o past → Sees R lock past
  sees o [] r = λ c x e. absurd (none_is x e)
  sees o (e ∷ past) r = sees_keep o e.turn e.what e.actor past (locks o past r.1) (kept o past r.1).numbered r.0.may (sees o past r.1)

-- the holder of the slots' lock sees the attributes of its Judge
abbrev pub SameAttrs : Flat → Flat → Type 0
SameAttrs f h = f.attrs ≡ h.attrs

attrs_or : (e : Effect) (i : Ioctl) (h f k : Flat) → Facts e i h f → SameAttrs f k → SameAttrs (apply e f) k ⊎ ((is_mark e ≡ false) × (takes_slots i ≡ true))
attrs_or (Slot id base pages user flags file index) i h f k x s = inr (refl, x.0)
attrs_or (Mark id) i h f k x s = inl s
attrs_or (NoSlot id) i h f k x s = inl s
attrs_or (Move id base) i h f k x s = inl s
attrs_or (Shut F) i h f k x s = inr (refl, x.0)
attrs_or (File file pages block) i h f k x s = inl s
attrs_or (Attr span kind) i h f k x s = inr (refl, x)
attrs_or (Cut F lo hi) i h f k x s = inl s
attrs_or (Word page word value) i h f k x s = inl s

pub attrs_seen : IsSeen SameAttrs SlotsLock
attrs_seen = record {
  at_first = λ i f t. refl;
  like = λ f g h a b s. a ∙ s;
  change = λ e i h f k x new n s. attrs_or e i h f k x s;
}

-- the holder of a file's lock sees the file in use, with its pages
abbrev pub SameFile : ℕ → Flat → Flat → Type 0
SameFile F f h = (in_use F f.files ≡ true) × (file_pages F f.files ≡ file_pages F h.files)

another : (file F n : ℕ) → file ≡ n → F < n → eqb file F ≡ false
another file F n e h = grind (arith, nat_tests)

file_or : (F : ℕ) (e : Effect) (i : Ioctl) (h f k : Flat) → Facts e i h f → New e f → Numbered f.files → SameFile F f k → SameFile F (apply e f) k ⊎ ((is_mark e ≡ false) × (takes (FileLock F) i h ≡ true))
file_or F (Shut K) i h f k x new n s = elim (cases_eq K F) [
  | inl y ↦ inr (refl, subst (λ (z : ℕ). takes (FileLock z) i h ≡ true) y x.1)
  | inr y ↦ inl (cond_P (λ (z : Flat). SameFile F z k) (was_made K f.files) (record f { slots = shut_slots K f.slots; files = shut_files K f.files; cache = without_file K f.cache }) f (in_use-shut F K f.files y ∙ s.0, pages_shut F K f.files ∙ s.1) s)
]
file_or F (File file pages block) i h f k x new n s =
    let o : eqb file F ≡ false = another file F (length f.files) new (n F (used_made F f.files s.0)) in
    inl (rw o s)
file_or F (Slot id base pages user flags file index) i h f k x new n s =
    let r : SlotView = record { id = id; base = base; pages = pages; user = user; flags = flags; file = file; index = index; invalid = false } in
    inl (cond_P (λ (z : Flat). SameFile F z k) (slot_fits r) (record f { slots = r ∷ f.slots }) f s s)
file_or F (Mark id) i h f k x new n s = inl s
file_or F (NoSlot id) i h f k x new n s = inl s
file_or F (Move id base) i h f k x new n s = inl s
file_or F (Attr span kind) i h f k x new n s = inl s
file_or F (Cut K lo hi) i h f k x new n s = inl s
file_or F (Word page word value) i h f k x new n s = inl s

pub file_seen : (F : ℕ) → IsSeen (SameFile F) (FileLock F)
file_seen F = record {
  at_first = λ i f t. ((and_parts (takes_file F i f) (in_use F f.files) t).1, refl);
  like = λ f g h a b s. (ap (λ (fs : List FileState). in_use F fs) b ∙ s.0, ap (λ (fs : List FileState). file_pages F fs) b ∙ s.1);
  change = file_or F;
}
