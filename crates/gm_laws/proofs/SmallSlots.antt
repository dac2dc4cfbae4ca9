-- The slots of a history that follows the tables are small: each came by a call whose region ends within the guest's
-- pages, the user memory and the indexes.
use Rattle.std.proofs.Common.{◌&&◌, ◌||◌, ◌*◌, ◌+◌, ◌/◌, ◌<◌, ◌≤◌, Bool, List, None, Option, Some, [], ap, arith, cond, eqb, false, inl, inr, leb, length, ltb, not, refl, subst, sym, true, ℕ, ◌∙◌, ◌∷◌, ◌≡◌, ◌⊎◌}
use Rattle.std.proofs.lemmas.Bool.{or_parts}
use Rattle.std.proofs.lemmas.Bool.Decides.{nat_tests}
use Rattle.gm_base.specs.Extent.{Extent}
use Rattle.gm_base.specs.Scripts.{Orders}
use Rattle.gm_base.specs.declared.calls.Ioctl.{Ioctl}
use Rattle.gm_base.specs.declared.calls.Ioctl.TheVariants.{Allocate, Attrs, Close, Create, Peek, Poke, Populate, Punch, Region2}
use Rattle.gm_base.specs.declared.calls.Region.{Region}
use Rattle.gm_base.specs.declared.numbers.TheConstants.{BLOCK, KVM_MEMORY_ATTRIBUTE_PRIVATE, KVM_MEM_GUEST_MEMFD, KVM_MEM_READONLY, PAGE_BYTES, PAGE_LIMIT, SLOT_IDS}
use Rattle.gm_base.specs.declared.values.Actor.{Actor}
use Rattle.gm_base.specs.declared.values.Actor.TheVariants.{Caller, Vcpu}
use Rattle.gm_base.specs.declared.values.Errno.TheVariants.{BadF, Exist, Inval}
use Rattle.gm_base.specs.declared.values.Setup.{Setup}
use Rattle.gm_flat.specs.Calls.{Bracketed, OFFSET_LIMIT, Paged, Plan, Reads, Refused, Same, Short, all_have, bad_range, bad_word, cut_at_end, differs, file_pages, file_populate, has_memfd, is_paged, is_readonly, kind_of, make_plan, mark_of, meets_bound, meets_slot, new_slot, old_plan, page_of, plan, region_plan, same_truth, slot_plan, slot_populate, user_bytes, wants_file}
use Rattle.gm_flat.specs.Effects.{U64_LIMIT, apply, dropped, shut_files, shut_slots, slot_fits, without_file}
use Rattle.gm_flat.specs.FlatState.{Flat, in_use, was_made}
use Rattle.gm_flat.specs.Histories.{Bracket, Call, bracket, call}
use Rattle.gm_flat.specs.Locks.{takes_slots}
use Rattle.gm_flat.specs.Replay.{flat, flat_at}
use Rattle.gm_flat.specs.RightHistory.{Right}
use Rattle.gm_flat.specs.declared.effect.Effect.{Effect}
use Rattle.gm_flat.specs.declared.effect.Effect.TheVariants.{Attr, Cut, File, Mark, Move, NoSlot, Shut, Slot, Word}
use Rattle.gm_flat.specs.declared.entry.Entry.{Entry}
use Rattle.gm_flat.specs.declared.entry.What.{What}
use Rattle.gm_flat.specs.declared.entry.What.TheVariants.{Change}
use Rattle.gm_flat.specs.declared.views.SlotView.{SlotView}
use Rattle.gm_laws.proofs.Aside.{aside, flat_aside, plain, plain_one, plan_aside, with_id-aside}
use Rattle.gm_laws.proofs.Flats.{cond_P, over, with_id}
use Rattle.gm_laws.proofs.FlatFronts.{flat_of_front}
use Rattle.gm_laws.proofs.Fronts.{front_follows}
use Rattle.gm_laws.proofs.Grow.{same_state}
use Rattle.gm_laws.proofs.Kit.{by, none_is, some_same}
use Rattle.gm_laws.proofs.Locks.{ChangeIn, Locks, MarkIn}
use Rattle.gm_laws.proofs.LocksKeep.{CanChange, can_change}
use Rattle.gm_laws.proofs.Plans.{Fits, fits}
use Rattle.gm_laws.proofs.SlotsKeep.{all_dropped, all_marked, all_moved, all_shut, all_with, slots_now, slots_then}
use Rattle.gm_laws.proofs.Touches.{locks}
use Rattle.gm_laws.specs.Fronts.{front}
use Rattle.gm_laws.specs.May.{May}
use Rattle.gm_laws.specs.Ruled.{Follows}
use Rattle.gm_laws.specs.SlotsStand.{AllOf, SlotsStand}
use Rattle.gm_laws.specs.SmallSlots.{IsSmall}
use Rattle.gm_laws.specs.Stands.{Stands}

-- what an effect makes is small
abbrev MakesSmall : ℕ → Effect → List SlotView → Type 0
MakesSmall user (Slot id base pages from flags file index) slots = (base + pages ≤ PAGE_LIMIT) × (from + pages ≤ user) × (index + pages ≤ PAGE_LIMIT)
MakesSmall user (Move id base) slots = (q : SlotView) → with_id id slots ≡ Some q → base + q.pages ≤ PAGE_LIMIT
MakesSmall user _ slots = Unit {0}

abbrev PlansSmall : ℕ → List SlotView → Plan → Type 0
PlansSmall user slots (Short e n) = MakesSmall user e slots
PlansSmall user slots (Bracketed e spans) = MakesSmall user e slots
PlansSmall user slots _ = Unit {0}

small_cond : (user : ℕ) (slots : List SlotView) (t : Bool) (p q : Plan) → (t ≡ true → PlansSmall user slots p) → (t ≡ false → PlansSmall user slots q) → PlansSmall user slots (cond t p q)
small_cond user slots true p q a b = a refl
small_cond user slots false p q a b = b refl

-- regions
small_end : (from size : ℕ) → leb 18446744073709551616 (from + size) ≡ false → from / 4096 + size / 4096 ≤ 4503599627370496
small_end from size h = let k = under (from + size) h in omega (arith, k)
  where
    under : (n : ℕ) → leb 18446744073709551616 n ≡ false → n < 18446744073709551616
    under n h = grind (arith, nat_tests)

user_end : (from size user : ℕ) → ltb (4096 * user) (from + size) ≡ false → from / 4096 + size / 4096 ≤ user
user_end from size user h = let k = under (4096 * user) (from + size) h in omega (arith, k)
  where
    under : (m n : ℕ) → ltb m n ≡ false → n ≤ m
    under m n h = grind (arith, nat_tests)

alone_end : (from size : ℕ) → from / 4096 + size / 4096 ≤ 4503599627370496 → 0 + size / 4096 ≤ 4503599627370496
alone_end from size h = omega arith

new_small : (s : Setup) (r : Region) (slots : List SlotView) (t : Bool) → leb U64_LIMIT (r.gpa + r.size) ≡ false → ltb (user_bytes s) (r.user + r.size) ≡ false → (t ≡ true → leb U64_LIMIT (r.offset + r.size) ≡ false) → PlansSmall s.user slots (Short (new_slot r t) 0)
new_small s r slots true g u o = (small_end r.gpa r.size g, user_end r.user r.size s.user u, small_end r.offset r.size (o refl))
new_small s r slots false g u o = (small_end r.gpa r.size g, user_end r.user r.size s.user u, alone_end r.gpa r.size (small_end r.gpa r.size g))

make_small : (s : Setup) (r : Region) (f : Flat) → leb U64_LIMIT (r.gpa + r.size) ≡ false → ltb (user_bytes s) (r.user + r.size) ≡ false → (wants_file r ≡ true → leb U64_LIMIT (r.offset + r.size) ≡ false) → PlansSmall s.user f.slots (make_plan r f)
make_small s r f g u o =
    small_cond s.user f.slots (meets_slot (page_of r.gpa) (page_of r.size) f.slots) (Refused Exist) _ (λ _. tt)
    (λ _. small_cond s.user f.slots (wants_file r && not (in_use r.fd f.files)) (Refused BadF) _ (λ _. tt)
    (λ _. small_cond s.user f.slots (wants_file r && ltb (PAGE_BYTES * file_pages r.fd f.files) (r.offset + r.size)) (Refused Inval) _ (λ _. tt)
    (λ _. small_cond s.user f.slots (wants_file r && meets_bound r.fd (page_of r.offset) (page_of r.size) f.slots) (Refused Inval) (Short (new_slot r (wants_file r)) 0) (λ _. tt)
    (λ _. new_small s r f.slots (wants_file r) g u o))))

same_pages : (a b : ℕ) (t u : Bool) → (t || (not (eqb a b) || u)) ≡ false → a ≡ b
same_pages a b t u e = grind (arith, nat_tests)

old_small : (s : Setup) (r : Region) (f : Flat) (q : SlotView) → with_id r.slot f.slots ≡ Some q → leb U64_LIMIT (r.gpa + r.size) ≡ false → PlansSmall s.user f.slots (old_plan r f q)
old_small s r f q e g =
    small_cond s.user f.slots (eqb r.size 0) (Bracketed (NoSlot r.slot) _) _ (λ _. tt)
    (λ _. small_cond s.user f.slots (has_memfd q || wants_file r) (Refused Inval) _ (λ _. tt)
    (λ _. small_cond s.user f.slots (differs r q) (Refused Inval) _ (λ _. tt)
    (λ p. small_cond s.user f.slots (eqb q.base (page_of r.gpa)) (Same 0) _ (λ _. tt)
    (λ _. small_cond s.user f.slots (meets_slot (page_of r.gpa) (page_of r.size) (dropped r.slot f.slots)) (Refused Exist) (Bracketed (Move r.slot (page_of r.gpa)) _) (λ _. tt)
    (λ _. λ x h. subst (λ (n : ℕ). page_of r.gpa + n ≤ PAGE_LIMIT) (sym (ap (λ (z : SlotView). z.pages) (some_same x q (sym h ∙ e)) ∙ same_pages q.pages (page_of r.size) (not (eqb q.user (page_of r.user))) (not (same_truth (is_readonly q.flags) (is_readonly r.flags))) p)) (small_end r.gpa r.size g))))))

by_slot : (s : Setup) (r : Region) (f : Flat) (x : Option SlotView) → with_id r.slot f.slots ≡ x → leb U64_LIMIT (r.gpa + r.size) ≡ false → ltb (user_bytes s) (r.user + r.size) ≡ false → (wants_file r ≡ true → leb U64_LIMIT (r.offset + r.size) ≡ false) → PlansSmall s.user f.slots (slot_plan r f x)
by_slot s r f None e g u o = small_cond s.user f.slots (eqb r.size 0) (Refused Inval) (make_plan r f) (λ _. tt) (λ _. make_small s r f g u o)
by_slot s r f (Some q) e g u o = old_small s r f q e g

region_small : (s : Setup) (r : Region) (f : Flat) → PlansSmall s.user f.slots (region_plan s r f)
region_small s r f =
    small_cond s.user f.slots (not (eqb r.flags 0 || (eqb r.flags KVM_MEM_READONLY || eqb r.flags KVM_MEM_GUEST_MEMFD))) (Refused Inval) _ (λ _. tt)
    (λ _. small_cond s.user f.slots (not (is_paged r.size && (is_paged r.gpa && is_paged r.user)) || (wants_file r && not (is_paged r.offset))) (Refused Inval) _ (λ _. tt)
    (λ _. small_cond s.user f.slots (leb U64_LIMIT (r.gpa + r.size) || (wants_file r && leb U64_LIMIT (r.offset + r.size))) (Refused Inval) _ (λ _. tt)
    (λ g. small_cond s.user f.slots (ltb (user_bytes s) (r.user + r.size)) (Refused Inval) _ (λ _. tt)
    (λ u. small_cond s.user f.slots (leb SLOT_IDS r.slot) (Refused Inval) (slot_plan r f (with_id r.slot f.slots)) (λ _. tt)
    (λ _.
    let x = or_parts (leb U64_LIMIT (r.gpa + r.size)) (wants_file r && leb U64_LIMIT (r.offset + r.size)) g in
    by_slot s r f (with_id r.slot f.slots) refl x.0 u (both_false (wants_file r) (leb U64_LIMIT (r.offset + r.size)) x.1))))))
  where
    both_false : (t u : Bool) → (t && u) ≡ false → t ≡ true → u ≡ false
    both_false t u e h = grind arith

-- populations
file_small : (user : ℕ) (slots : List SlotView) (s : Setup) (page pages from : ℕ) (r : SlotView) (o : Option ℕ) → PlansSmall user slots (file_populate s page pages from r o)
file_small user slots s page pages from r None = tt
file_small user slots s page pages from r (Some file) = small_cond user slots (ltb (user_bytes s) (from + PAGE_BYTES * cut_at_end page pages r)) (Refused Inval) (Paged _) (λ _. tt) (λ _. tt)

populate_small : (user : ℕ) (slots : List SlotView) (s : Setup) (page pages from : ℕ) (o : Option SlotView) → PlansSmall user slots (slot_populate s page pages from o)
populate_small user slots s page pages from None = tt
populate_small user slots s page pages from (Some r) = small_cond user slots (has_memfd r) (file_populate s page pages from r r.file) (Refused Inval) (λ _. file_small user slots s page pages from r r.file) (λ _. tt)

-- every plan makes small slots
plan_small : (s : Setup) (i : Ioctl) (f : Flat) → PlansSmall s.user f.slots (plan s i f)
plan_small s (Create size flags) f =
    small_cond s.user f.slots (eqb size 0 || (leb OFFSET_LIMIT size || not (is_paged size))) (Refused Inval) _ (λ _. tt)
    (λ _. small_cond s.user f.slots (not (eqb flags 0 || eqb flags BLOCK)) (Refused Inval) (Short (File (length f.files) (page_of size) (eqb flags BLOCK)) (length f.files)) (λ _. tt) (λ _. tt))
plan_small s (Region2 r) f = region_small s r f
plan_small s (Attrs address size attributes flags) f =
    small_cond s.user f.slots (not (eqb flags 0) || not (eqb attributes 0 || eqb attributes KVM_MEMORY_ATTRIBUTE_PRIVATE)) (Refused Inval) _ (λ _. tt)
    (λ _. small_cond s.user f.slots (eqb size 0 || leb U64_LIMIT (address + size)) (Refused Inval) _ (λ _. tt)
    (λ _. small_cond s.user f.slots (not (is_paged address && is_paged size)) (Refused Inval) _ (λ _. tt)
    (λ _. small_cond s.user f.slots (all_have (kind_of attributes) (page_of address) (page_of size) f.attrs) (Same 0) (Bracketed (Attr _ _) _) (λ _. tt) (λ _. tt))))
plan_small s (Punch fd offset n) f =
    small_cond s.user f.slots (bad_range offset n) (Refused Inval) _ (λ _. tt)
    (λ _. small_cond s.user f.slots (not (in_use fd f.files)) (Refused BadF) (Bracketed (Cut _ _ _) _) (λ _. tt) (λ _. tt))
plan_small s (Close fd) f = small_cond s.user f.slots (in_use fd f.files) (Bracketed (Shut fd) _) (Refused BadF) (λ _. tt) (λ _. tt)
plan_small s (Poke address value) f = small_cond s.user f.slots (bad_word s address) (Refused Inval) (Short (Word _ _ value) 0) (λ _. tt) (λ _. tt)
plan_small s (Peek address) f = small_cond s.user f.slots (bad_word s address) (Refused Inval) (Reads _ _) (λ _. tt) (λ _. tt)
plan_small s (Allocate fd offset n) f =
    small_cond s.user f.slots (bad_range offset n) (Refused Inval) _ (λ _. tt)
    (λ _. small_cond s.user f.slots (not (in_use fd f.files)) (Refused BadF) _ (λ _. tt)
    (λ _. small_cond s.user f.slots (ltb (PAGE_BYTES * file_pages fd f.files) (offset + n)) (Refused Inval) (Paged _) (λ _. tt) (λ _. tt)))
plan_small s (Populate gpa pages user) f =
    small_cond s.user f.slots (not (is_paged gpa && is_paged user) || eqb pages 0) (Refused Inval) (slot_populate s (page_of gpa) pages user (over (page_of gpa) f.slots)) (λ _. tt)
    (λ _. populate_small s.user f.slots s (page_of gpa) pages user (over (page_of gpa) f.slots))

-- a slot that moves has as many pages as at its call's Judge, which holds the slots' lock
small_now : (user : ℕ) (e : Effect) (i : Ioctl) (h f : Flat) (spans : List Extent) → (takes_slots i ≡ true → aside f.slots ≡ aside h.slots) → Fits i h (Bracketed e spans) → MakesSmall user e (aside h.slots) → MakesSmall user e f.slots
small_now user (Move id base) i h f spans same fit m = λ q e. m (plain q) (sym (ap (with_id id) (same fit.0)) ∙ (with_id-aside id f.slots ∙ ap plain_one e))
small_now user (Slot id base pages from flags file index) i h f spans same fit m = m
small_now user _ i h f spans same fit m = tt

change_small : (s : Setup) (e : Effect) (d : ℕ) (y : Call) (past : List Entry) (b : Option Bracket) → Locks s past → call d past ≡ Some y → y.made ≡ false → ChangeIn s e past y b → MakesSmall s.user e (flat past).slots
change_small s e d y past None k c m h =
    let x : PlansSmall s.user (flat_at y.judged past).slots (Short e h.1.0) = subst (PlansSmall s.user (flat_at y.judged past).slots) h.1.1 (plan_small s y.ioctl (flat_at y.judged past)) in
    subst (λ (f : Flat). MakesSmall s.user e f.slots) (sym (k.at_once d y c h.0)) x
change_small s e d y past (Some b) k c m h =
    let then : Flat = flat_at y.judged past in
    let x : PlansSmall s.user (aside then.slots) (Bracketed e h.1.0) = subst (PlansSmall s.user (aside then.slots)) (plan_aside s y.ioctl then ∙ h.1.1) (plan_small s y.ioctl (flat_aside then)) in
    small_now s.user e y.ioctl then (flat past) h.1.0 (λ t. k.slots_same d y c m t) (subst (λ (p : Plan). Fits y.ioctl then p) h.1.1 (fits s y.ioctl then)) x

-- a mark makes no slot
mark_small : (user : ℕ) (e f : Effect) (slots : List SlotView) → mark_of f ≡ Some e → MakesSmall user e slots
mark_small user e (NoSlot id) slots k = subst (λ (z : Effect). MakesSmall user z slots) (some_same (Mark id) e k) tt
mark_small user e (Move id base) slots k = subst (λ (z : Effect). MakesSmall user z slots) (some_same (Mark id) e k) tt
mark_small user e _ slots k = absurd (none_is e k)

marks_small : (s : Setup) (e : Effect) (past : List Entry) (y : Call) (b : Option Bracket) (slots : List SlotView) → MarkIn s e past y b → MakesSmall s.user e slots
marks_small s e past y None slots h = absurd h
marks_small s e past y (Some b) slots h = mark_small s.user e h.1.0 slots h.1.3

made_small : (s : Setup) (e : Effect) (d : ℕ) (past : List Entry) (x : Option Call) (b : Option Bracket) → Locks s past → call d past ≡ x → CanChange s e past x b → MakesSmall s.user e (flat past).slots
made_small s e d past None b k c m = absurd m
made_small s e d past (Some y) b k c m = elim m.1 [
  | inl h ↦ change_small s e d y past b k c m.0 h.1
  | inr h ↦ marks_small s e past y b (flat past).slots h
]

-- each entry keeps slots small
effect_small : (user : ℕ) (e : Effect) (f : Flat) → MakesSmall user e f.slots → AllOf (IsSmall user) f.slots → AllOf (IsSmall user) (apply e f).slots
effect_small user (Slot id base pages from flags file index) f m a =
    let s : SlotView = record { id = id; base = base; pages = pages; user = from; flags = flags; file = file; index = index; invalid = false } in
    cond_P (λ (z : Flat). AllOf (IsSmall user) z.slots) (slot_fits s) (record f { slots = s ∷ f.slots }) f (record { pages = m.0; users = m.1; indexes = m.2 }, a) a
effect_small user (NoSlot id) f m a = all_dropped (IsSmall user) id f.slots a
effect_small user (Mark id) f m a = all_marked (IsSmall user) id f.slots (λ r h. record { pages = h.pages; users = h.users; indexes = h.indexes }) a
effect_small user (Move id base) f m a = all_moved (IsSmall user) id base f.slots (λ r h. let b = all_with (IsSmall user) id r f.slots h a in record { pages = m r h; users = b.users; indexes = b.indexes }) a
effect_small user (Shut file) f m a =
    cond_P (λ (z : Flat). AllOf (IsSmall user) z.slots) (was_made file f.files) (record f { slots = shut_slots file f.slots; files = shut_files file f.files; cache = without_file file f.cache }) f
    (all_shut (IsSmall user) (IsSmall user) file f.slots (λ r h. record { pages = h.pages; users = h.users; indexes = h.indexes }) a) a
effect_small user (Attr span kind) f m a = a
effect_small user (Cut file lo hi) f m a = a
effect_small user (File file pages block) f m a = a
effect_small user (Word page word value) f m a = a

small_keep : (o : Orders) (t : ℕ) (w : What) (a : Actor) (past : List Entry) → Locks o.setup past → May o w a past → AllOf (IsSmall o.setup.user) (flat past).slots → AllOf (IsSmall o.setup.user) (flat (by t a w ∷ past)).slots
small_keep o t (Change e) (Caller d) past k m s = effect_small o.setup.user e (flat past) (made_small o.setup e d past (call d past) (bracket d past) k refl (can_change o.setup e past (call d past) (bracket d past) m)) s
small_keep o t (Change e) (Vcpu v) past k m s = absurd m
small_keep o t w a past k m s = subst (AllOf (IsSmall o.setup.user)) (sym (same_state t w a past refl).0) s

pub small_slots : (o : Orders) (past : List Entry) → Follows o past → AllOf (IsSmall o.setup.user) (flat past).slots
small_slots o [] r = tt
small_slots o (e ∷ past) r = small_keep o e.turn e.what e.actor past (locks o past r.1) r.0.may (small_slots o past r.1)

-- at any position
front_stands : (i : ℕ) (past : List Entry) → (front i past ≡ past) ⊎ ((e : Entry) × Stands e (front i past) past)
front_stands i [] = inl refl
front_stands i (e ∷ past) = go (leb (length (e ∷ past)) i) (front_stands i past)
  where
    go : (t : Bool) → (front i past ≡ past) ⊎ ((d : Entry) × Stands d (front i past) past) → (cond t (e ∷ past) (front i past) ≡ e ∷ past) ⊎ ((d : Entry) × Stands d (cond t (e ∷ past) (front i past)) (e ∷ past))
    go true h = inl refl
    go false h = elim h [ inl k ↦ inr (e, inl (refl, sym k)) | inr k ↦ inr (k.0, inr k.1) ]

pub slots_at : (o : Orders) (i : ℕ) (past : List Entry) → Right o past → SlotsStand (flat_at i past)
slots_at o i past r =
    subst SlotsStand (sym (flat_of_front i past)) (elim (front_stands i past) [
      | inl k ↦ subst (λ (p : List Entry). SlotsStand (flat p)) (sym k) (slots_now o past r)
      | inr k ↦ slots_then o k.0 (front i past) past r k.1
    ])

pub small_at : (o : Orders) (i : ℕ) (past : List Entry) → Follows o past → AllOf (IsSmall o.setup.user) (flat_at i past).slots
small_at o i past r =
    subst (λ (f : Flat). AllOf (IsSmall o.setup.user) f.slots) (sym (flat_of_front i past)) (elim (front_stands i past) [
      | inl k ↦ subst (λ (p : List Entry). AllOf (IsSmall o.setup.user) (flat p).slots) (sym k) (small_slots o past r)
      | inr k ↦ small_slots o (front i past) (front_follows o k.0 (front i past) past k.1 r).1
    ])
