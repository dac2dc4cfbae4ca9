-- A change that its table allows is safe, by the locks.
use Rattle.std.proofs.Common.{◌&&◌, List, None, Option, Some, ap, false, inl, inr, leb, ltb, refl, subst, sym, true, ℕ, ◌∙◌, ◌≡◌, ◌⊎◌}
use Rattle.std.proofs.lemmas.Bool.{and_from, and_parts, both_ways, or_left}
use Rattle.gm_base.specs.Extent.{Extent}
use Rattle.gm_base.specs.declared.calls.Ioctl.{Ioctl}
use Rattle.gm_base.specs.declared.values.Setup.{Setup}
use Rattle.gm_flat.specs.Calls.{Bracketed, Plan, Short, mark_of, plan}
use Rattle.gm_flat.specs.FlatState.{Flat, in_use}
use Rattle.gm_flat.specs.Histories.{Bracket, Call, bracket, call, is_mark}
use Rattle.gm_flat.specs.Locks.{FileLock, takes, takes_file, takes_slots}
use Rattle.gm_flat.specs.Mappings.{any_holds}
use Rattle.gm_flat.specs.Replay.{flat, flat_at}
use Rattle.gm_flat.specs.Slots.{index_of, lies_over}
use Rattle.gm_flat.specs.Window.{has_file, in_cut, in_old_or_new, in_slot, is_on}
use Rattle.gm_flat.specs.declared.effect.Effect.{Effect}
use Rattle.gm_flat.specs.declared.effect.Effect.TheVariants.{Attr, Cut, File, Mark, Move, NoSlot, Shut, Slot, Word}
use Rattle.gm_flat.specs.declared.entry.Entry.{Entry}
use Rattle.gm_flat.specs.declared.views.SlotView.{SlotView}
use Rattle.gm_laws.proofs.Aside.{aside, flat_aside, in_slot-aside, on_aside, over_none, takes_aside}
use Rattle.gm_laws.proofs.Flats.{alters, of_file, over, with_id}
use Rattle.gm_laws.proofs.Ids.{MemSlot, over_mem}
use Rattle.gm_laws.proofs.KeepCaller.{Safe, SafeAll}
use Rattle.gm_laws.proofs.Kit.{none_is, some_same}
use Rattle.gm_laws.proofs.Locks.{ChangeIn, Locks, MarkIn, MemRow-bound, MemRow-unbound, bound, fits_aside}
use Rattle.gm_laws.proofs.LocksKeep.{CanChange}
use Rattle.gm_laws.proofs.Plans.{Fits, fits}

-- the row over a page of a file is there in the other state too
same_row : (F g : ℕ) (r : SlotView) (f h : Flat) → bound F f.slots ≡ bound F h.slots → over g f.slots ≡ Some r → of_file F r.file ≡ true → MemSlot r h.slots × (lies_over r g ≡ true)
same_row F g r f h same e k =
    let m = over_mem g r f.slots e in
    (MemRow-unbound F r h.slots (subst (λ (rs : List SlotView). MemSlot r rs) same (MemRow-bound F r f.slots m.0 k)), m.1)

cut_on : (F lo hi g : ℕ) (f h : Flat) (o : Option SlotView) → bound F f.slots ≡ bound F h.slots → over g f.slots ≡ o → in_cut F lo hi g o ≡ true → (r : SlotView) × MemSlot r h.slots × (lies_over r g ≡ true) × (of_file F r.file ≡ true) × ((leb lo (index_of r g) && ltb (index_of r g) hi) ≡ true)
cut_on F lo hi g f h None same e k = absurd (both_ways false refl k)
cut_on F lo hi g f h (Some r) same e k =
    let p = and_parts (of_file F r.file) (leb lo (index_of r g) && ltb (index_of r g) hi) k in
    let m = same_row F g r f h same e p.0 in
    (r, m.0, m.1, p.0, p.1)

shut_on : (F g : ℕ) (f h : Flat) (o : Option SlotView) → bound F f.slots ≡ bound F h.slots → over g f.slots ≡ o → has_file F o ≡ true → (r : SlotView) × MemSlot r h.slots × (lies_over r g ≡ true) × (of_file F r.file ≡ true)
shut_on F g f h None same e k = absurd (both_ways false refl k)
shut_on F g f h (Some r) same e k = let m = same_row F g r f h same e k in (r, m.0, m.1, k)

safe_bracket : (e : Effect) (i : Ioctl) (h f : Flat) (spans : List Extent) → (takes_slots i ≡ true → f.slots ≡ h.slots) → ((F : ℕ) → takes (FileLock F) i h ≡ true → bound F f.slots ≡ bound F h.slots) → Fits i h (Bracketed e spans) → (g : ℕ) → is_on e f g ≡ true → (any_holds spans g ≡ true) ⊎ (over g f.slots ≡ None)
safe_bracket (NoSlot id) i h f spans slots bounds x g on = inl (x.1 g (ap (λ (rs : List SlotView). in_slot g (with_id id rs)) (sym (slots x.0)) ∙ on))
safe_bracket (Move id base) i h f spans slots bounds x g on =
    elim (x.1 g (ap (λ (rs : List SlotView). in_old_or_new g base (with_id id rs)) (sym (slots x.0)) ∙ on)) [
      | inl y ↦ inl y
      | inr y ↦ inr (ap (over g) (slots x.0) ∙ y)
    ]
safe_bracket (Attr span kind) i h f spans slots bounds x g on = inl (x.1 g on)
safe_bracket (Cut F lo hi) i h f spans slots bounds x g on =
    let r = cut_on F lo hi g f h (over g f.slots) (bounds F (and_from (takes_file F i h) (in_use F h.files) x.0 x.1)) refl on in
    inl (x.2 g r.0 r.1 r.2 r.3 r.4)
safe_bracket (Shut F) i h f spans slots bounds x g on =
    let r = shut_on F g f h (over g f.slots) (bounds F (and_from (takes_file F i h) (in_use F h.files) x.1 x.2)) refl on in
    inl (x.3 g r.0 r.1 r.2 r.3)
safe_bracket (Mark id) i h f spans slots bounds x g on = absurd x
safe_bracket (Slot id base pages user flags file index) i h f spans slots bounds x g on = absurd x
safe_bracket (File file pages block) i h f spans slots bounds x g on = absurd x
safe_bracket (Word page word value) i h f spans slots bounds x g on = absurd x

safe_short : (e : Effect) (i : Ioctl) (n : ℕ) (h : Flat) → Fits i h (Short e n) → (g : ℕ) → is_on e h g ≡ true → over g h.slots ≡ None
safe_short (Slot id base pages user flags file index) i n h x g on = x.1 g on
safe_short (File file pages block) i n h x g on = absurd (both_ways false refl on)
safe_short (Word page word value) i n h x g on = absurd (both_ways false refl on)
safe_short (Mark id) i n h x g on = absurd x
safe_short (NoSlot id) i n h x g on = absurd x
safe_short (Move id base) i n h x g on = absurd x
safe_short (Attr span kind) i n h x g on = absurd x
safe_short (Cut F lo hi) i n h x g on = absurd x
safe_short (Shut F) i n h x g on = absurd x

same_spans : (e f : Effect) (a b : List Extent) → Bracketed e a ≡ Bracketed f b → a ≡ b
same_spans e f a b h = cc

same_plan : (s : Setup) (d : ℕ) (x y : Call) (past : List Entry) (e f : Effect) (a b : List Extent) → call d past ≡ Some x → call d past ≡ Some y → plan s x.ioctl (flat_at x.judged past) ≡ Bracketed e a → plan s y.ioctl (flat_at y.judged past) ≡ Bracketed f b → a ≡ b
same_plan s d x y past e f a b ex ey p q =
    let same : x ≡ y = some_same x y (sym ex ∙ ey) in
    same_spans e f a b (sym p ∙ (ap (λ (z : Call). plan s z.ioctl (flat_at z.judged past)) same ∙ q))

-- the mark of a change
pub mark_is : (f e : Effect) → mark_of f ≡ Some e → (id : ℕ) × (Mark id ≡ e)
mark_is (NoSlot id) e k = (id, some_same (Mark id) e k)
mark_is (Move id base) e k = (id, some_same (Mark id) e k)
mark_is (Slot id base pages user flags file index) e k = absurd (none_is e k)
mark_is (File file pages block) e k = absurd (none_is e k)
mark_is (Word page word value) e k = absurd (none_is e k)
mark_is (Mark id) e k = absurd (none_is e k)
mark_is (Attr span kind) e k = absurd (none_is e k)
mark_is (Cut F lo hi) e k = absurd (none_is e k)
mark_is (Shut F) e k = absurd (none_is e k)

pub same_mark : (j id : ℕ) → Some (Mark j) ≡ Some (Mark id) → j ≡ id
same_mark j id e = cc

-- what alters a page without being a mark is on it
on_unmarked : (e : Effect) (f : Flat) (g : ℕ) → is_mark e ≡ false → alters e f g ≡ true → is_on e f g ≡ true
on_unmarked (Mark id) f g k h = absurd (both_ways true k refl)
on_unmarked (Slot id base pages user flags file index) f g k h = h
on_unmarked (NoSlot id) f g k h = h
on_unmarked (Move id base) f g k h = h
on_unmarked (Attr span kind) f g k h = h
on_unmarked (Cut F lo hi) f g k h = h
on_unmarked (Shut F) f g k h = h
on_unmarked (File file pages block) f g k h = h
on_unmarked (Word page word value) f g k h = h

-- with marks left aside
safe_aside : (s : Setup) (e : Effect) (i : Ioctl) (h f : Flat) (spans : List Extent) → (takes_slots i ≡ true → aside f.slots ≡ aside h.slots) → ((F : ℕ) → takes (FileLock F) i h ≡ true → bound F (aside f.slots) ≡ bound F (aside h.slots)) → plan s i h ≡ Bracketed e spans → (g : ℕ) → is_on e f g ≡ true → (any_holds spans g ≡ true) ⊎ (over g f.slots ≡ None)
safe_aside s e i h f spans slots bounds p g on =
    elim (safe_bracket e i (flat_aside h) (flat_aside f) spans slots (λ F t. bounds F (sym (takes_aside (FileLock F) i h) ∙ t)) (fits_aside s i h (Bracketed e spans) p) g (on_aside e f g ∙ on)) [
      | inl y ↦ inl y
      | inr y ↦ inr (over_none g f.slots y)
    ]

pub safe : (s : Setup) (e : Effect) (d : ℕ) (past : List Entry) (c : Option Call) (o : Option Bracket) → Locks s past → call d past ≡ c → bracket d past ≡ o → CanChange s e past c o → Safe e d past
safe s e d past None o k ec eo m g on = absurd m
safe s e d past (Some y) o k ec eo m g on = elim m.1 [
  | inl x ↦ safe_change s e d past y o k ec eo m.0 x.1 g on
  | inr x ↦ absurd (mark_off s e past y o x g on)
]
  where
    safe_change : (s : Setup) (e : Effect) (d : ℕ) (past : List Entry) (y : Call) (o : Option Bracket) → Locks s past → call d past ≡ Some y → bracket d past ≡ o → y.made ≡ false → ChangeIn s e past y o → Safe e d past
    safe_change s e d past y None k ec eo made m g on =
        let same : flat past ≡ flat_at y.judged past = k.at_once d y ec m.0 in
        let x = safe_short e y.ioctl m.1.0 (flat_at y.judged past) (subst (λ (p : Plan). Fits y.ioctl (flat_at y.judged past) p) m.1.1 (fits s y.ioctl (flat_at y.judged past))) g (subst (λ (f : Flat). is_on e f g ≡ true) same on) in
        inr (subst (λ (f : Flat). over g f.slots ≡ None) (sym same) x)
    safe_change s e d past y (Some b) k ec eo made m g on =
        elim (safe_aside s e y.ioctl (flat_at y.judged past) (flat past) m.1.0 (λ t. k.slots_same d y ec made t) (λ F t. k.bound_same d F y ec made t) m.1.1 g on) [
          | inl z ↦
              let p = k.planned d b eo in
              let q : m.1.0 ≡ b.spans = same_plan s d y p.0 past e p.2.0 m.1.0 b.spans ec p.1 m.1.1 p.2.1 in
              inl (b, eo, m.0, subst (λ (ss : List Extent). any_holds ss g ≡ true) q z)
          | inr z ↦ inr z
        ]

    -- a mark is on no page
    mark_off : (s : Setup) (e : Effect) (past : List Entry) (y : Call) (o : Option Bracket) → MarkIn s e past y o → (g : ℕ) → is_on e (flat past) g ≡ true → ⊥
    mark_off s e past y None m g on = absurd m
    mark_off s e past y (Some b) m g on = off (mark_is m.1.0 e m.1.3).0 e (mark_is m.1.0 e m.1.3).1 on
      where
        off : (id : ℕ) (e : Effect) → Mark id ≡ e → is_on e (flat past) g ≡ true → ⊥
        off id e q on = both_ways false refl (ap (λ (z : Effect). is_on z (flat past) g) q ∙ on)

-- a mark alters pages under its bracket
under_mark : (f : Effect) (i : Ioctl) (h g : Flat) (spans : List Extent) (id q : ℕ) → (takes_slots i ≡ true → aside g.slots ≡ aside h.slots) → mark_of f ≡ Some (Mark id) → Fits i (flat_aside h) (Bracketed f spans) → in_slot q (with_id id g.slots) ≡ true → (any_holds spans q ≡ true) ⊎ (over q g.slots ≡ None)
under_mark (NoSlot j) i h g spans id q same k x on =
    let e : j ≡ id = same_mark j id k in
    let there : in_slot q (with_id j (aside h.slots)) ≡ true = ap (λ (rs : List SlotView). in_slot q (with_id j rs)) (sym (same x.0)) ∙ (in_slot-aside q j g.slots ∙ (ap (λ (n : ℕ). in_slot q (with_id n g.slots)) e ∙ on)) in
    inl (x.1 q there)
under_mark (Move j base) i h g spans id q same k x on =
    let e : j ≡ id = same_mark j id k in
    let there : in_slot q (with_id j (aside h.slots)) ≡ true = ap (λ (rs : List SlotView). in_slot q (with_id j rs)) (sym (same x.0)) ∙ (in_slot-aside q j g.slots ∙ (ap (λ (n : ℕ). in_slot q (with_id n g.slots)) e ∙ on)) in
    elim (x.1 q (old_is q base (with_id j (aside h.slots)) there)) [
      | inl y ↦ inl y
      | inr y ↦ inr (over_none q g.slots (ap (over q) (same x.0) ∙ y))
    ]
  where
    old_is : (q base : ℕ) (o : Option SlotView) → in_slot q o ≡ true → in_old_or_new q base o ≡ true
    old_is q base None e = e
    old_is q base (Some s) e = or_left (lies_over s q) (lies_over (record s { base = base }) q) e
under_mark (Slot j base pages user flags file index) i h g spans id q same k x on = absurd x
under_mark (File file pages block) i h g spans id q same k x on = absurd x
under_mark (Word page word value) i h g spans id q same k x on = absurd x
under_mark (Mark j) i h g spans id q same k x on = absurd x
under_mark (Attr span kind) i h g spans id q same k x on = absurd (none_is (Mark id) k)
under_mark (Cut F lo hi) i h g spans id q same k x on = absurd (none_is (Mark id) k)
under_mark (Shut F) i h g spans id q same k x on = absurd (none_is (Mark id) k)

-- what an effect alters lies under the bracket of its call, or under no slot
pub safe_all : (s : Setup) (e : Effect) (d : ℕ) (past : List Entry) (c : Option Call) (o : Option Bracket) → Locks s past → call d past ≡ c → bracket d past ≡ o → CanChange s e past c o → SafeAll e d past
safe_all s e d past None o k ec eo m q on = absurd m
safe_all s e d past (Some y) None k ec eo m q on = elim m.1 [
  | inl x ↦ elim (safe s e d past (Some y) None k ec eo m q (on_unmarked e (flat past) q x.0 on)) [
    | inl z ↦ inl (z.0, z.1, z.3)
    | inr z ↦ inr z
  ]
  | inr x ↦ absurd x
]
safe_all s e d past (Some y) (Some b) k ec eo m q on = elim m.1 [
  | inl x ↦ elim (safe s e d past (Some y) (Some b) k ec eo m q (on_unmarked e (flat past) q x.0 on)) [
    | inl z ↦ inl (z.0, z.1, z.3)
    | inr z ↦ inr z
  ]
  | inr x ↦
      let w = mark_is x.1.0 e x.1.3 in
      let p = k.planned d b eo in
      let r : x.1.1 ≡ b.spans = same_plan s d y p.0 past x.1.0 p.2.0 x.1.1 b.spans ec p.1 x.1.2 p.2.1 in
      elim (under_mark x.1.0 y.ioctl (flat_at y.judged past) (flat past) x.1.1 w.0 q (λ t. k.slots_same d y ec m.0 t) (x.1.3 ∙ ap (λ (z : Effect). Some z) (sym w.1)) (fits_aside s y.ioctl (flat_at y.judged past) (Bracketed x.1.0 x.1.1) x.1.2) (subst (λ (z : Effect). alters z (flat past) q ≡ true) (sym w.1) on)) [
        | inl z ↦ inl (b, eo, subst (λ (ss : List Extent). any_holds ss q ≡ true) r z)
        | inr z ↦ inr z
      ]
]
