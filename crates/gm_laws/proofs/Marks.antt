-- A slot that is marked lies under the open bracket of the call that is to delete or move it.
use Rattle.std.proofs.Common.{◌&&◌, ◌<◌, Bool, List, None, Option, Some, [], ap, arith, cond, eqb, eqb-true, false, inl, inr, length, not, refl, subst, suc, sym, true, ℕ, ◌∙◌, ◌∷◌, ◌≡◌, ◌⊎◌}
use Rattle.std.proofs.lemmas.Bool.{and_parts, both_ways, cases_Bool, cases_eq, eqb-false}
use Rattle.std.proofs.lemmas.Bool.Decides.{nat_tests}
use Rattle.gm_base.specs.Extent.{Extent}
use Rattle.gm_base.specs.Scripts.{Orders}
use Rattle.gm_base.specs.declared.calls.Ioctl.{Ioctl}
use Rattle.gm_base.specs.declared.values.Actor.{Actor}
use Rattle.gm_base.specs.declared.values.Actor.TheVariants.{Caller, Vcpu}
use Rattle.gm_base.specs.declared.values.Setup.{Setup}
use Rattle.gm_flat.specs.Calls.{Bracketed, Plan, Short, mark_of, plan}
use Rattle.gm_flat.specs.Effects.{apply, dropped, marked, moved, shut_files, shut_slot, shut_slots, slot_fits, without_file}
use Rattle.gm_flat.specs.FlatState.{Flat, was_made}
use Rattle.gm_flat.specs.Histories.{Bracket, Call, bracket, call, is_mark, with_acked, with_change}
use Rattle.gm_flat.specs.Replay.{flat, flat_at}
use Rattle.gm_flat.specs.RightOrder.{Begins, Ends}
use Rattle.gm_flat.specs.declared.effect.Effect.{Effect}
use Rattle.gm_flat.specs.declared.effect.Effect.TheVariants.{Attr, Cut, File, Mark, Move, NoSlot, Shut, Slot, Word}
use Rattle.gm_flat.specs.declared.entry.Entry.{Entry}
use Rattle.gm_flat.specs.declared.entry.What.{What}
use Rattle.gm_flat.specs.declared.entry.What.TheVariants.{Acked, Answer, Begin, Change, End, Judge, Page}
use Rattle.gm_flat.specs.declared.views.SlotView.{SlotView}
use Rattle.gm_laws.proofs.Flats.{cond_P, with_id}
use Rattle.gm_laws.proofs.Grow.{same_state}
use Rattle.gm_laws.proofs.Ids.{IdsApart, MemSlot}
use Rattle.gm_laws.proofs.KeepCaller.{acked_bracket, new_bracket, opened, shut_bracket}
use Rattle.gm_laws.proofs.Kit.{by, cond_is, flat_at_all, none_is, some_same}
use Rattle.gm_laws.proofs.Locks.{ChangeIn, Locks, MarkIn}
use Rattle.gm_laws.proofs.LocksKeep.{CanChange, can_change, made_some, paged_some, then_same}
use Rattle.gm_laws.proofs.SafeChange.{mark_is, same_mark}
use Rattle.gm_laws.proofs.Touches.{locks}
use Rattle.gm_laws.specs.May.{May}
use Rattle.gm_laws.specs.Ruled.{Follows}

-- a call in its bracket that hasn't made its change, which is to take the slot of that id
pub record IsTaking (s : Setup) (c id : ℕ) (past : List Entry) : Type 0 where
  pub open_bracket : Bracket
  pub is_open : bracket c past ≡ Some open_bracket
  pub own : Call
  pub is_own : call c past ≡ Some own
  pub unmade : own.made ≡ false
  pub effect : Effect
  pub spans : List Extent
  pub planned : plan s own.ioctl (flat_at own.judged past) ≡ Bracketed effect spans
  pub takes_slot : mark_of effect ≡ Some (Mark id)

abbrev pub MarksTaken : Setup → List Entry → Type 0
MarksTaken s past = (r : SlotView) → MemSlot r (flat past).slots → r.invalid ≡ true → (c : ℕ) × IsTaking s c r.id past

-- where a slot of the list after an effect comes from
abbrev pub OldSlot : SlotView → List SlotView → Type 0
OldSlot r rs = (q : SlotView) × MemSlot q rs × (q.id ≡ r.id) × (q.invalid ≡ true)

mem_found : (r : SlotView) (rs : List SlotView) → MemSlot r rs → with_id r.id rs ≡ None → ⊥
mem_found r [] m e = m
mem_found r (x ∷ xs) m e = elim (cond_is (eqb x.id r.id) (Some x) (with_id r.id xs) None e) [
  | inl y ↦ none_is x (sym y.1)
  | inr y ↦ elim m [
    | inl k ↦ other x.id r.id y.0 (ap (λ (z : SlotView). z.id) (sym k))
    | inr k ↦ mem_found r xs k y.1
  ]
]
  where
    other : (a b : ℕ) → eqb a b ≡ false → a ≡ b → ⊥
    other a b e f = eqb-false a b e f

dropped_gone : (id : ℕ) (r : SlotView) (rs : List SlotView) → IdsApart rs → MemSlot r (dropped id rs) → MemSlot r rs × (r.id ≡ id → ⊥)
dropped_gone id r [] a m = (m, λ e. m)
dropped_gone id r (x ∷ xs) a m = go (eqb x.id id) refl m (dropped_gone id r xs a.1)
  where
    go : (t : Bool) → eqb x.id id ≡ t → MemSlot r (cond t xs (x ∷ dropped id xs)) → (MemSlot r (dropped id xs) → MemSlot r xs × (r.id ≡ id → ⊥)) → MemSlot r (x ∷ xs) × (r.id ≡ id → ⊥)
    go true e m f = (inr m, λ k. mem_found r xs m (ap (λ (n : ℕ). with_id n xs) (k ∙ sym (eqb-true x.id id e)) ∙ a.0))
    go false e m f = elim m [
      | inl y ↦ (inl y, λ k. eqb-false x.id id e (ap (λ (z : SlotView). z.id) (sym y) ∙ k))
      | inr y ↦ let z = f y in (inr z.0, z.1)
    ]

moved_mark : (id base : ℕ) (r : SlotView) (rs : List SlotView) → IdsApart rs → MemSlot r (moved id base rs) → r.invalid ≡ true → MemSlot r rs × (r.id ≡ id → ⊥)
moved_mark id base r [] a m v = (m, λ e. m)
moved_mark id base r (x ∷ xs) a m v = go (eqb x.id id) refl m (λ k. moved_mark id base r xs a.1 k v)
  where
    go : (t : Bool) → eqb x.id id ≡ t → MemSlot r (cond t (record x { base = base; invalid = false } ∷ xs) (x ∷ moved id base xs)) → (MemSlot r (moved id base xs) → MemSlot r xs × (r.id ≡ id → ⊥)) → MemSlot r (x ∷ xs) × (r.id ≡ id → ⊥)
    go true e m f = elim m [
      | inl y ↦ absurd (both_ways r.invalid (ap (λ (z : SlotView). z.invalid) y) v)
      | inr y ↦ (inr y, λ k. mem_found r xs y (ap (λ (n : ℕ). with_id n xs) (k ∙ sym (eqb-true x.id id e)) ∙ a.0))
    ]
    go false e m f = elim m [
      | inl y ↦ (inl y, λ k. eqb-false x.id id e (ap (λ (z : SlotView). z.id) (sym y) ∙ k))
      | inr y ↦ let z = f y in (inr z.0, z.1)
    ]

shut_mark : (F : ℕ) (r : SlotView) (rs : List SlotView) → MemSlot r (shut_slots F rs) → r.invalid ≡ true → OldSlot r rs
shut_mark F r [] m v = absurd m
shut_mark F r (x ∷ xs) m v = elim m [
  | inl y ↦ (x, inl refl, ap (λ (z : SlotView). z.id) (sym y), ap (λ (z : SlotView). z.invalid) (sym y) ∙ v)
  | inr y ↦ let z = shut_mark F r xs y v in (z.0, inr z.1, z.2, z.3)
]

-- the slot that is marked, or an old one
marked_mark : (id : ℕ) (r : SlotView) (rs : List SlotView) → MemSlot r (marked id rs) → MemSlot r rs ⊎ (r.id ≡ id)
marked_mark id r [] m = absurd m
marked_mark id r (x ∷ xs) m = go (eqb x.id id) refl m (marked_mark id r xs)
  where
    go : (t : Bool) → eqb x.id id ≡ t → MemSlot r (cond t (record x { invalid = true } ∷ xs) (x ∷ marked id xs)) → (MemSlot r (marked id xs) → MemSlot r xs ⊎ (r.id ≡ id)) → MemSlot r (x ∷ xs) ⊎ (r.id ≡ id)
    go true e m f = elim m [ inl y ↦ inr (ap (λ (z : SlotView). z.id) y ∙ eqb-true x.id id e) | inr y ↦ inl (inr y) ]
    go false e m f = elim m [ inl y ↦ inl (inl y) | inr y ↦ elim (f y) [ inl z ↦ inl (inr z) | inr z ↦ inr z ] ]

-- a marked slot after an effect that is no mark was marked before, and isn't the one that the effect takes
old_of : (e : Effect) (f : Flat) (r : SlotView) → IdsApart f.slots → is_mark e ≡ false → r.invalid ≡ true → MemSlot r (apply e f).slots → OldSlot r f.slots × (mark_of e ≡ Some (Mark r.id) → ⊥)
old_of (Mark id) f r a k v m = absurd (both_ways true k refl)
old_of (NoSlot id) f r a k v m = let x = dropped_gone id r f.slots a m in ((r, x.0, refl, v), λ e. x.1 (sym (same_mark id r.id e)))
old_of (Move id base) f r a k v m = let x = moved_mark id base r f.slots a m v in ((r, x.0, refl, v), λ e. x.1 (sym (same_mark id r.id e)))
old_of (Shut F) f r a k v m = (cond_P (λ (z : Flat). MemSlot r z.slots → OldSlot r f.slots) (was_made F f.files) (record f { slots = shut_slots F f.slots; files = shut_files F f.files; cache = without_file F f.cache }) f (λ x. shut_mark F r f.slots x v) (λ x. (r, x, refl, v)) m, λ e. none_is (Mark r.id) e)
old_of (Slot id base pages user flags file index) f r a k v m =
    let s : SlotView = record { id = id; base = base; pages = pages; user = user; flags = flags; file = file; index = index; invalid = false } in (
      cond_P (λ (z : Flat). MemSlot r z.slots → OldSlot r f.slots) (slot_fits s) (record f { slots = s ∷ f.slots }) f
          (λ x. elim x [ inl y ↦ absurd (both_ways r.invalid (ap (λ (z : SlotView). z.invalid) y) v) | inr y ↦ (r, y, refl, v) ])
          (λ x. (r, x, refl, v)) m,
      λ e. none_is (Mark r.id) e,
    )
old_of (Attr span kind) f r a k v m = ((r, m, refl, v), λ e. none_is (Mark r.id) e)
old_of (Cut F lo hi) f r a k v m = ((r, m, refl, v), λ e. none_is (Mark r.id) e)
old_of (File file pages block) f r a k v m = ((r, m, refl, v), λ e. none_is (Mark r.id) e)
old_of (Word page word value) f r a k v m = ((r, m, refl, v), λ e. none_is (Mark r.id) e)

-- a call that takes a slot goes on so until its change
test_off : (d c : ℕ) (A : Type 0) (x y : A) → (d ≡ c → ⊥) → cond (eqb d c) x y ≡ y
test_off d c A x y ne = let e : eqb d c ≡ false = off d c ne in rw e refl
  where
    off : (d c : ℕ) → (d ≡ c → ⊥) → eqb d c ≡ false
    off d c ne = grind (arith, nat_tests)

taking_by : (s : Setup) (t : ℕ) (w : What) (a : Actor) (past : List Entry) (c id : ℕ) → Locks s past → (x : IsTaking s c id past) → (b : Bracket) → bracket c (by t a w ∷ past) ≡ Some b → call c (by t a w ∷ past) ≡ Some x.own → IsTaking s c id (by t a w ∷ past)
taking_by s t w a past c id k x b eb ec = record {
  open_bracket = b;
  is_open = eb;
  own = x.own;
  is_own = ec;
  unmade = x.unmade;
  effect = x.effect;
  spans = x.spans;
  planned = ap (λ (f : Flat). plan s x.own.ioctl f) (then_same t w a past x.own x.own (k.call_lt c x.own x.is_own) refl) ∙ x.planned;
  takes_slot = x.takes_slot;
}

-- whether the entry is the change of the call of c
abbrev IsChangeOf : What → Actor → ℕ → Type 0
IsChangeOf (Change e) (Caller d) c = (d ≡ c) × (is_mark e ≡ false)
IsChangeOf _ a c = ⊥

acked_some : (t : Bool) (o : Option Bracket) (b : Bracket) → o ≡ Some b → (x : Bracket) × (cond t (with_acked o) o ≡ Some x)
acked_some true o b e = (record b { acked = true }, ap with_acked e)
acked_some false o b e = (b, e)

begins_open : (x : Option Call) (o : Option Bracket) (b : Bracket) → o ≡ Some b → Begins x o → ⊥
begins_open None o b e m = m
begins_open (Some x) None b e m = none_is b e
begins_open (Some x) (Some y) b e m = m

ends_made : (x : Option Call) (o : Option Bracket) (y : Call) → x ≡ Some y → y.made ≡ false → Ends x o → ⊥
ends_made None o y e n m = m
ends_made (Some x) None y e n m = m
ends_made (Some x) (Some b) y e n m = both_ways x.made (ap (λ (z : Call). z.made) (some_same x y e) ∙ n) m

taking_keep : (o : Orders) (t : ℕ) (w : What) (a : Actor) (past : List Entry) (c id : ℕ) → Locks o.setup past → May o w a past → (IsChangeOf w a c → ⊥) → IsTaking o.setup c id past → IsTaking o.setup c id (by t a w ∷ past)
taking_keep o t (Begin spans) (Caller d) past c id k m n x = taking_by o.setup t (Begin spans) (Caller d) past c id k x x.open_bracket
    (test_off d c _ _ _ (λ e. begins_open (call d past) (bracket d past) x.open_bracket (ap (λ (z : ℕ). bracket z past) e ∙ x.is_open) m.0) ∙ x.is_open) x.is_own
taking_keep o t Acked (Caller d) past c id k m n x = let y = acked_some (eqb d c) (bracket c past) x.open_bracket x.is_open in taking_by o.setup t Acked (Caller d) past c id k x y.0 y.1 x.is_own
taking_keep o t End (Caller d) past c id k m n x = taking_by o.setup t End (Caller d) past c id k x x.open_bracket
    (test_off d c _ _ _ (λ e. ends_made (call d past) (bracket d past) x.own (ap (λ (z : ℕ). call z past) e ∙ x.is_own) x.unmade m) ∙ x.is_open) x.is_own
taking_keep o t (Change e) (Caller d) past c id k m n x = taking_by o.setup t (Change e) (Caller d) past c id k x x.open_bracket x.is_open (kept (eqb d c) (is_mark e) refl refl ∙ x.is_own)
  where
    kept : (u v : Bool) → eqb d c ≡ u → is_mark e ≡ v → cond (eqb d c && not (is_mark e)) (with_change (call c past)) (call c past) ≡ call c past
    kept true true p q = rw (p, q) refl
    kept true false p q = absurd (n (eqb-true d c p, q))
    kept false v p q = rw p refl
taking_keep o t (Page i fo j) (Caller d) past c id k m n x = taking_by o.setup t (Page i fo j) (Caller d) past c id k x x.open_bracket x.is_open
    (test_off d c _ _ _ (λ e. none_is x.open_bracket (sym m.0 ∙ (ap (λ (z : ℕ). bracket z past) e ∙ x.is_open))) ∙ x.is_own)
taking_keep o t (Judge i) (Caller d) past c id k m n x = taking_by o.setup t (Judge i) (Caller d) past c id k x x.open_bracket x.is_open
    (test_off d c _ _ _ (λ e. none_is x.own (sym m.none_in_progress ∙ (ap (λ (z : ℕ). call z past) e ∙ x.is_own))) ∙ x.is_own)
taking_keep o t (Answer r) (Caller d) past c id k m n x = taking_by o.setup t (Answer r) (Caller d) past c id k x x.open_bracket x.is_open
    (test_off d c _ _ _ (λ e. none_is x.open_bracket (sym m.0 ∙ (ap (λ (z : ℕ). bracket z past) e ∙ x.is_open))) ∙ x.is_own)
taking_keep o t (Begin spans) (Vcpu v) past c id k m n x = absurd m
taking_keep o t Acked (Vcpu v) past c id k m n x = absurd m
taking_keep o t End (Vcpu v) past c id k m n x = absurd m
taking_keep o t (Change e) (Vcpu v) past c id k m n x = absurd m
taking_keep o t (Page i fo j) (Vcpu v) past c id k m n x = absurd m
taking_keep o t (Judge i) (Vcpu v) past c id k m n x = absurd m
taking_keep o t (Answer r) (Vcpu v) past c id k m n x = absurd m
taking_keep o t w a past c id k m n x = taking_by o.setup t w a past c id k x x.open_bracket x.is_open x.is_own

-- a change in the bracket of a call that takes a slot is what takes it
own_takes : (s : Setup) (e : Effect) (past : List Entry) (c id : ℕ) (o : Option Call) (b : Option Bracket) → (x : IsTaking s c id past) → call c past ≡ o → bracket c past ≡ b → is_mark e ≡ false → CanChange s e past o b → mark_of e ≡ Some (Mark id)
own_takes s e past c id None b x eo eb k m = absurd m
own_takes s e past c id (Some y) None x eo eb k m = absurd (none_is x.open_bracket (sym eb ∙ x.is_open))
own_takes s e past c id (Some y) (Some b) x eo eb k m = elim m.1 [
  | inl z ↦
      let same : x.own ≡ y = some_same x.own y (sym x.is_own ∙ eo) in
      let p : plan s x.own.ioctl (flat_at x.own.judged past) ≡ Bracketed e z.1.1.0 = subst (λ (q : Call). plan s q.ioctl (flat_at q.judged past) ≡ Bracketed e z.1.1.0) (sym same) z.1.1.1 in
      ap mark_of (same_effect x.effect e x.spans z.1.1.0 (sym x.planned ∙ p)) ∙ x.takes_slot
  | inr z ↦ absurd (both_ways (is_mark e) k (ap is_mark (sym (mark_is z.1.0 e z.1.3).1)))
]
  where
    same_effect : (f e : Effect) (a b : List Extent) → Bracketed f a ≡ Bracketed e b → e ≡ f
    same_effect f e a b h = cc

-- the call that marks a slot takes it
new_taking : (s : Setup) (t : ℕ) (id d : ℕ) (past : List Entry) (o : Option Call) (b : Option Bracket) → Locks s past → call d past ≡ o → bracket d past ≡ b → CanChange s (Mark id) past o b → IsTaking s d id (by t (Caller d) (Change (Mark id)) ∷ past)
new_taking s t id d past None b k eo eb m = absurd m
new_taking s t id d past (Some y) b k eo eb m = elim m.1 [
  | inl x ↦ absurd (both_ways true x.0 refl)
  | inr x ↦ by_bracket b eb x
]
  where
    and_false : (u : Bool) → (u && false) ≡ false
    and_false true = refl
    and_false false = refl

    by_bracket : (b : Option Bracket) → bracket d past ≡ b → MarkIn s (Mark id) past y b → IsTaking s d id (by t (Caller d) (Change (Mark id)) ∷ past)
    by_bracket None e x = absurd x
    by_bracket (Some z) e x =
        taking_by s t (Change (Mark id)) (Caller d) past d id k
        (record { open_bracket = z; is_open = e; own = y; is_own = eo; unmade = m.0; effect = x.1.0; spans = x.1.1; planned = x.1.2; takes_slot = x.1.3 })
        z e (let off : (eqb d d && false) ≡ false = and_false (eqb d d) in rw off eo)

marks_change : (o : Orders) (t : ℕ) (e : Effect) (d : ℕ) (past : List Entry) → Locks o.setup past → May o (Change e) (Caller d) past → MarksTaken o.setup past → (u : Bool) → is_mark e ≡ u → MarksTaken o.setup (by t (Caller d) (Change e) ∷ past)
marks_change o t e d past k m f true q r i v =
    let can = can_change o.setup e past (call d past) (bracket d past) m in
    let w = is_the_mark e q in
    elim (marked_mark w.0 r (flat past).slots (subst (λ (z : Effect). MemSlot r (apply z (flat past)).slots) w.1 i)) [
      | inl old ↦ let x = f r old v in (x.0, taking_keep o t (Change e) (Caller d) past x.0 r.id k m (λ n. both_ways (is_mark e) n.1 q) x.1)
      | inr new ↦ (
        d,
        subst (λ (n : ℕ). IsTaking o.setup d n (by t (Caller d) (Change e) ∷ past)) (sym new)
            (subst (λ (z : Effect). IsTaking o.setup d w.0 (by t (Caller d) (Change z) ∷ past)) (sym w.1) (new_taking o.setup t w.0 d past (call d past) (bracket d past) k refl refl (subst (λ (z : Effect). CanChange o.setup z past (call d past) (bracket d past)) w.1 can))),
      )
    ]
  where
    is_the_mark : (e : Effect) → is_mark e ≡ true → (id : ℕ) × (e ≡ Mark id)
    is_the_mark (Mark id) h = (id, refl)
    is_the_mark (Slot id base pages user flags file index) h = absurd (both_ways false refl h)
    is_the_mark (NoSlot id) h = absurd (both_ways false refl h)
    is_the_mark (Move id base) h = absurd (both_ways false refl h)
    is_the_mark (Attr span kind) h = absurd (both_ways false refl h)
    is_the_mark (Cut F lo hi) h = absurd (both_ways false refl h)
    is_the_mark (Shut F) h = absurd (both_ways false refl h)
    is_the_mark (File file pages block) h = absurd (both_ways false refl h)
    is_the_mark (Word page word value) h = absurd (both_ways false refl h)
marks_change o t e d past k m f false q r i v =
    let can = can_change o.setup e past (call d past) (bracket d past) m in
    let old = old_of e (flat past) r (subst (λ (z : Flat). IdsApart z.slots) (flat_at_all past) (k.ids (length past))) q v i in
    let x = f old.0.0 old.0.1 old.0.3 in
    let y : IsTaking o.setup x.0 r.id past = subst (λ (n : ℕ). IsTaking o.setup x.0 n past) old.0.2 x.1 in
    elim (cases_eq d x.0) [
      | inl same ↦ absurd (old.1 (own_takes o.setup e past x.0 r.id (call x.0 past) (bracket x.0 past) y refl refl q (subst (λ (n : ℕ). CanChange o.setup e past (call n past) (bracket n past)) same can)))
      | inr other ↦ (x.0, taking_keep o t (Change e) (Caller d) past x.0 r.id k m (λ n. other n.0) y)
    ]

marks_keep : (o : Orders) (t : ℕ) (w : What) (a : Actor) (past : List Entry) → Locks o.setup past → May o w a past → MarksTaken o.setup past → MarksTaken o.setup (by t a w ∷ past)
marks_keep o t (Change e) (Caller d) past k m f = marks_change o t e d past k m f (is_mark e) refl
marks_keep o t (Change e) (Vcpu v) past k m f = absurd m
marks_keep o t w a past k m f = λ r i v. let x = f r (subst (λ (rs : List SlotView). MemSlot r rs) (same_state t w a past refl).0 i) v in (x.0, taking_keep o t w a past x.0 r.id k m (λ n. n) x.1)

pub marks_taken : (o : Orders) (past : List Entry) → Follows o past → MarksTaken o.setup past
marks_taken o [] r = λ q m v. absurd m
marks_taken o (e ∷ past) r = marks_keep o e.turn e.what e.actor past (locks o past r.1) r.0.may (marks_taken o past r.1)
