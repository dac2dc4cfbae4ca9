-- The ranges that slots bind lie inside their files, and this is kept by every entry.
use Rattle.std.proofs.Common.{◌&&◌, ◌*◌, ◌+◌, ◌/◌, ◌%◌, ◌<◌, ◌≤◌, Bool, List, None, Option, Some, [], ap, arith, cond, eqb, eqb-true, false, inl, inr, leb, length, ltb, not, refl, subst, suc, sym, true, ℕ, ◌∙◌, ◌∷◌, ◌≡◌, ◌||◌}
use Rattle.std.proofs.lemmas.Bool.{both_ways, cases_Bool}
use Rattle.std.proofs.lemmas.Bool.Decides.{nat_tests}
use Rattle.gm_base.specs.Extent.{Extent}
use Rattle.gm_base.specs.Scripts.{Orders}
use Rattle.gm_base.specs.declared.calls.Ioctl.{Ioctl}
use Rattle.gm_base.specs.declared.calls.Ioctl.TheVariants.{Allocate, Attrs, Close, Create, Peek, Poke, Populate, Punch, Region2}
use Rattle.gm_base.specs.declared.calls.Region.{Region}
use Rattle.gm_base.specs.declared.numbers.TheConstants.{KVM_MEM_READONLY, KVM_MEM_GUEST_MEMFD, PAGE_BYTES, SLOT_IDS, BLOCK}
use Rattle.gm_base.specs.declared.values.Actor.{Actor}
use Rattle.gm_base.specs.declared.values.Actor.TheVariants.{Caller, Vcpu}
use Rattle.gm_base.specs.declared.values.Errno.TheVariants.{BadF, Exist, Inval}
use Rattle.gm_base.specs.declared.values.Setup.{Setup}
use Rattle.gm_flat.specs.Calls.{Bracketed, OFFSET_LIMIT, Paged, Plan, Reads, Refused, Same, Short, all_have, bad_range, bad_word, differs, file_pages, file_populate, has_memfd, is_paged, kind_of, make_plan, meets_bound, meets_slot, new_slot, old_plan, page_of, part_spans, plan, region_plan, slot_plan, slot_populate, slots_of_file, user_bytes, wants_file, whole_spans, word_in, cut_at_end}
use Rattle.gm_flat.specs.Effects.{U64_LIMIT, apply, dropped, shut_files, shut_slots, slot_fits, without_file}
use Rattle.gm_flat.specs.FlatState.{FileState, Flat, in_use, was_made}
use Rattle.gm_flat.specs.Histories.{Bracket, Call, bracket, call}
use Rattle.gm_flat.specs.Replay.{flat, flat_at}
use Rattle.gm_flat.specs.RightHistory.{Right}
use Rattle.gm_flat.specs.Slots.{index_of, slot_over, slot_span}
use Rattle.gm_flat.specs.declared.effect.Effect.{Effect}
use Rattle.gm_flat.specs.declared.effect.Effect.TheVariants.{Attr, Cut, File, Mark, Move, NoSlot, Shut, Slot, Word}
use Rattle.gm_flat.specs.declared.entry.Entry.{Entry}
use Rattle.gm_flat.specs.declared.entry.What.{What}
use Rattle.gm_flat.specs.declared.entry.What.TheVariants.{Change}
use Rattle.gm_flat.specs.declared.views.SlotView.{SlotView}
use Rattle.gm_laws.proofs.Flats.{cond_P, of_file, with_id}
use Rattle.gm_laws.proofs.Grow.{same_state}
use Rattle.gm_laws.proofs.Ids.{MemSlot}
use Rattle.gm_laws.proofs.Kit.{by, flat_at_all}
use Rattle.gm_laws.proofs.Locks.{ChangeIn, Locks, MarkIn, SlotFiles, still_file}
use Rattle.gm_laws.proofs.LocksKeep.{CanChange, can_change}
use Rattle.gm_laws.proofs.Plans.{Fits, fits}
use Rattle.gm_laws.proofs.RightIsRuled.{ruled}
use Rattle.gm_laws.proofs.SafeChange.{mark_is}
use Rattle.gm_laws.proofs.SlotsKeep.{all_dropped, all_map, all_marked, all_moved, all_shut, all_with, slots_now, slots_then}
use Rattle.gm_laws.proofs.Touches.{locks}
use Rattle.gm_laws.proofs.Fronts.{front_follows}
use Rattle.gm_laws.specs.BoundRanges.{BoundRanges, IsInsideFile}
use Rattle.gm_laws.specs.May.{May}
use Rattle.gm_laws.specs.Ruled.{Follows}
use Rattle.gm_laws.specs.SlotsStand.{AllOf, SlotsStand}
use Rattle.gm_laws.specs.Stands.{Stands}

-- what a plan over a state promises of files: a new file gets the next number, and a new slot lies inside its file
abbrev Within : Flat → Plan → Type 0
Within f (Short (File file pages block) n) = file ≡ length f.files
Within f (Short (Slot id base pages user flags file index) n) = (F : ℕ) → of_file F file ≡ true → index + pages ≤ file_pages F f.files
Within f _ = Unit {0}

within_cond : (f : Flat) (t : Bool) (p q : Plan) → (t ≡ true → Within f p) → (t ≡ false → Within f q) → Within f (cond t p q)
within_cond f true p q a b = a refl
within_cond f false p q a b = b refl

-- in pages, where both are whole pages
in_pages : (o s p : ℕ) → eqb (o % PAGE_BYTES) 0 ≡ true → eqb (s % PAGE_BYTES) 0 ≡ true → ltb (PAGE_BYTES * p) (o + s) ≡ false → o / PAGE_BYTES + s / PAGE_BYTES ≤ p
in_pages o s p a b h = grind (arith, nat_tests)

-- the rows on whole pages, where a file is wanted
paged : (a b c d w : Bool) → (not (a && (b && c)) || (w && not d)) ≡ false → w ≡ true → (d ≡ true) × (a ≡ true)
paged a b c d w e h = (grind arith, grind arith)

slot_within : (r : Region) (f : Flat) (w : Bool) → wants_file r ≡ w → (w ≡ true → (is_paged r.offset ≡ true) × (is_paged r.size ≡ true)) → (w && ltb (PAGE_BYTES * file_pages r.fd f.files) (r.offset + r.size)) ≡ false → Within f (Short (new_slot r w) 0)
slot_within r f true e p h = λ F k. subst (λ (x : ℕ). page_of r.offset + page_of r.size ≤ file_pages x f.files) (eqb-true r.fd F k) (in_pages r.offset r.size (file_pages r.fd f.files) (p refl).0 (p refl).1 h)
slot_within r f false e p h = λ F k. absurd (both_ways false refl k)

make_within : (r : Region) (f : Flat) → (wants_file r ≡ true → (is_paged r.offset ≡ true) × (is_paged r.size ≡ true)) → Within f (make_plan r f)
make_within r f p =
    within_cond f (meets_slot (page_of r.gpa) (page_of r.size) f.slots) (Refused Exist) _ (λ _. tt)
    (λ _. within_cond f (wants_file r && not (in_use r.fd f.files)) (Refused BadF) _ (λ _. tt)
    (λ _. within_cond f (wants_file r && ltb (PAGE_BYTES * file_pages r.fd f.files) (r.offset + r.size)) (Refused Inval) _ (λ _. tt)
    (λ h. within_cond f (wants_file r && meets_bound r.fd (page_of r.offset) (page_of r.size) f.slots) (Refused Inval) (Short (new_slot r (wants_file r)) 0) (λ _. tt)
    (λ _. slot_within r f (wants_file r) refl p h))))

old_within : (r : Region) (f : Flat) (s : SlotView) → Within f (old_plan r f s)
old_within r f s =
    within_cond f (eqb r.size 0) (Bracketed (NoSlot r.slot) (slot_span s ∷ [])) _ (λ _. tt)
    (λ _. within_cond f (has_memfd s || wants_file r) (Refused Inval) _ (λ _. tt)
    (λ _. within_cond f (differs r s) (Refused Inval) _ (λ _. tt)
    (λ _. within_cond f (eqb s.base (page_of r.gpa)) (Same 0) _ (λ _. tt)
    (λ _. within_cond f (meets_slot (page_of r.gpa) (page_of r.size) (dropped r.slot f.slots)) (Refused Exist) (Bracketed (Move r.slot (page_of r.gpa)) (slot_span s ∷ [])) (λ _. tt) (λ _. tt)))))

slot_plan_within : (r : Region) (f : Flat) (o : Option SlotView) → (wants_file r ≡ true → (is_paged r.offset ≡ true) × (is_paged r.size ≡ true)) → Within f (slot_plan r f o)
slot_plan_within r f None p = within_cond f (eqb r.size 0) (Refused Inval) (make_plan r f) (λ _. tt) (λ _. make_within r f p)
slot_plan_within r f (Some s) p = old_within r f s

region_within : (s : Setup) (r : Region) (f : Flat) → Within f (region_plan s r f)
region_within s r f =
    within_cond f (not (eqb r.flags 0 || (eqb r.flags KVM_MEM_READONLY || eqb r.flags KVM_MEM_GUEST_MEMFD))) (Refused Inval) _ (λ _. tt)
    (λ _. within_cond f (not (is_paged r.size && (is_paged r.gpa && is_paged r.user)) || (wants_file r && not (is_paged r.offset))) (Refused Inval) _ (λ _. tt)
    (λ p. within_cond f (leb U64_LIMIT (r.gpa + r.size) || (wants_file r && leb U64_LIMIT (r.offset + r.size))) (Refused Inval) _ (λ _. tt)
    (λ _. within_cond f (ltb (user_bytes s) (r.user + r.size)) (Refused Inval) _ (λ _. tt)
    (λ _. within_cond f (leb SLOT_IDS r.slot) (Refused Inval) (slot_plan r f (with_id r.slot f.slots)) (λ _. tt)
    (λ _. slot_plan_within r f (with_id r.slot f.slots) (λ w. paged (is_paged r.size) (is_paged r.gpa) (is_paged r.user) (is_paged r.offset) (wants_file r) p w))))))

file_populate-within : (s : Setup) (page pages user : ℕ) (f : Flat) (r : SlotView) (o : Option ℕ) → Within f (file_populate s page pages user r o)
file_populate-within s page pages user f r None = tt
file_populate-within s page pages user f r (Some F) = within_cond f (ltb (user_bytes s) (user + PAGE_BYTES * cut_at_end page pages r)) (Refused Inval) (Paged (record { file = F; index = index_of r page; pages = cut_at_end page pages r; base = Some page; copy = Some (page_of user) })) (λ _. tt) (λ _. tt)

slot_populate-within : (s : Setup) (page pages user : ℕ) (f : Flat) (o : Option SlotView) → Within f (slot_populate s page pages user o)
slot_populate-within s page pages user f None = tt
slot_populate-within s page pages user f (Some r) = within_cond f (has_memfd r) (file_populate s page pages user r r.file) (Refused Inval) (λ _. file_populate-within s page pages user f r r.file) (λ _. tt)

within : (s : Setup) (i : Ioctl) (f : Flat) → Within f (plan s i f)
within s (Create size flags) f =
    within_cond f (eqb size 0 || (leb OFFSET_LIMIT size || not (is_paged size))) (Refused Inval) _ (λ _. tt)
    (λ _. within_cond f (not (eqb flags 0 || eqb flags BLOCK)) (Refused Inval) (Short (File (length f.files) (page_of size) (eqb flags BLOCK)) (length f.files)) (λ _. tt) (λ _. refl))
within s (Region2 r) f = region_within s r f
within s (Attrs address size attributes flags) f =
    within_cond f (not (eqb flags 0) || not (eqb attributes 0 || eqb attributes 8)) (Refused Inval) _ (λ _. tt)
    (λ _. within_cond f (eqb size 0 || leb U64_LIMIT (address + size)) (Refused Inval) _ (λ _. tt)
    (λ _. within_cond f (not (is_paged address && is_paged size)) (Refused Inval) _ (λ _. tt)
    (λ _. within_cond f (all_have (kind_of attributes) (page_of address) (page_of size) f.attrs) (Same 0) _ (λ _. tt) (λ _. tt))))
within s (Punch fd offset n) f =
    within_cond f (bad_range offset n) (Refused Inval) _ (λ _. tt)
    (λ _. within_cond f (not (in_use fd f.files)) (Refused BadF) (Bracketed (Cut fd (page_of offset) (page_of (offset + n))) (part_spans (page_of offset) (page_of (offset + n)) (slots_of_file fd f.slots))) (λ _. tt) (λ _. tt))
within s (Close fd) f = within_cond f (in_use fd f.files) (Bracketed (Shut fd) (whole_spans (slots_of_file fd f.slots))) (Refused BadF) (λ _. tt) (λ _. tt)
within s (Poke address value) f = within_cond f (bad_word s address) (Refused Inval) (Short (Word (page_of address) (word_in address) value) 0) (λ _. tt) (λ _. tt)
within s (Peek address) f = within_cond f (bad_word s address) (Refused Inval) (Reads (page_of address) (word_in address)) (λ _. tt) (λ _. tt)
within s (Allocate fd offset n) f =
    within_cond f (bad_range offset n) (Refused Inval) _ (λ _. tt)
    (λ _. within_cond f (not (in_use fd f.files)) (Refused BadF) _ (λ _. tt)
    (λ _. within_cond f (ltb (PAGE_BYTES * file_pages fd f.files) (offset + n)) (Refused Inval) (Paged (record { file = fd; index = page_of offset; pages = page_of n; base = None; copy = None })) (λ _. tt) (λ _. tt)))
within s (Populate gpa pages user) f =
    within_cond f (not (is_paged gpa && is_paged user) || eqb pages 0) (Refused Inval) (slot_populate s (page_of gpa) pages user (slot_over f.slots (page_of gpa))) (λ _. tt)
    (λ _. slot_populate-within s (page_of gpa) pages user f (slot_over f.slots (page_of gpa)))

-- what a Change may be, over the state before it
abbrev pub New : Effect → Flat → Type 0
New (File file pages block) f = file ≡ length f.files
New (Slot id base pages user flags file index) f = (F : ℕ) → of_file F file ≡ true → index + pages ≤ file_pages F f.files
New _ f = Unit {0}

new_short : (e : Effect) (n : ℕ) (f : Flat) → Within f (Short e n) → New e f
new_short (File file pages block) n f h = h
new_short (Slot id base pages user flags file index) n f h = h
new_short (NoSlot id) n f h = tt
new_short (Move id base) n f h = tt
new_short (Mark id) n f h = tt
new_short (Attr span kind) n f h = tt
new_short (Cut file lo hi) n f h = tt
new_short (Shut file) n f h = tt
new_short (Word page word value) n f h = tt

new_bracket : (e : Effect) (i : Ioctl) (h f : Flat) (spans : List Extent) → Fits i h (Bracketed e spans) → New e f
new_bracket (File file pages block) i h f spans x = absurd x
new_bracket (Slot id base pages user flags file index) i h f spans x = absurd x
new_bracket (Mark id) i h f spans x = absurd x
new_bracket (NoSlot id) i h f spans x = tt
new_bracket (Move id base) i h f spans x = tt
new_bracket (Attr span kind) i h f spans x = tt
new_bracket (Cut file lo hi) i h f spans x = tt
new_bracket (Shut file) i h f spans x = tt
new_bracket (Word page word value) i h f spans x = tt

new_in : (s : Setup) (e : Effect) (d : ℕ) (y : Call) (past : List Entry) (o : Option Bracket) → Locks s past → call d past ≡ Some y → ChangeIn s e past y o → New e (flat past)
new_in s e d y past None k c h =
    subst (λ (f : Flat). New e f) (sym (k.at_once d y c h.0))
    (new_short e h.1.0 (flat_at y.judged past) (subst (λ (p : Plan). Within (flat_at y.judged past) p) h.1.1 (within s y.ioctl (flat_at y.judged past))))
new_in s e d y past (Some b) k c h =
    new_bracket e y.ioctl (flat_at y.judged past) (flat past) h.1.0 (subst (λ (p : Plan). Fits y.ioctl (flat_at y.judged past) p) h.1.1 (fits s y.ioctl (flat_at y.judged past)))

pub new_by : (s : Setup) (e : Effect) (d : ℕ) (past : List Entry) (o : Option Call) → Locks s past → call d past ≡ o → CanChange s e past o (bracket d past) → New e (flat past)
new_by s e d past None k c m = absurd m
new_by s e d past (Some y) k c m = elim m.1 [
  | inl x ↦ new_in s e d y past (bracket d past) k c x.1
  | inr x ↦ new_mark s e y past (bracket d past) x
]
  where
    new_mark : (s : Setup) (e : Effect) (y : Call) (past : List Entry) (o : Option Bracket) → MarkIn s e past y o → New e (flat past)
    new_mark s e y past None m = absurd m
    new_mark s e y past (Some b) m = let w = mark_is m.1.0 e m.1.3 in subst (λ (z : Effect). New z (flat past)) w.1 tt

-- files
length_shut : (K : ℕ) (files : List FileState) → length (shut_files K files) ≡ length files
length_shut K [] = refl
length_shut K (f ∷ files) = go (eqb f.number K) (length_shut K files)
  where
    go : (t : Bool) → length (shut_files K files) ≡ length files → length (cond t (record f { used = false } ∷ files) (f ∷ shut_files K files)) ≡ suc (length files)
    go true e = refl
    go false e = ap suc e

made_shut : (F K : ℕ) (files : List FileState) → was_made F (shut_files K files) ≡ was_made F files
made_shut F K [] = refl
made_shut F K (f ∷ files) = go (eqb f.number K) (made_shut F K files)
  where
    go : (t : Bool) → was_made F (shut_files K files) ≡ was_made F files → was_made F (cond t (record f { used = false } ∷ files) (f ∷ shut_files K files)) ≡ (eqb f.number F || was_made F files)
    go true e = refl
    go false e = ap (λ (b : Bool). eqb f.number F || b) e

pub pages_shut : (F K : ℕ) (files : List FileState) → file_pages F (shut_files K files) ≡ file_pages F files
pages_shut F K [] = refl
pages_shut F K (f ∷ files) = go (eqb f.number K) (pages_shut F K files)
  where
    go : (t : Bool) → file_pages F (shut_files K files) ≡ file_pages F files → file_pages F (cond t (record f { used = false } ∷ files) (f ∷ shut_files K files)) ≡ cond (eqb f.number F) f.pages (file_pages F files)
    go true e = refl
    go false e = ap (λ (n : ℕ). cond (eqb f.number F) f.pages n) e

pub used_made : (F : ℕ) (files : List FileState) → in_use F files ≡ true → was_made F files ≡ true
used_made F [] h = absurd (both_ways false refl h)
used_made F (f ∷ files) h = go (eqb f.number F) f.used (in_use F files) (was_made F files) (used_made F files) h
  where
    go : (t u v w : Bool) → (v ≡ true → w ≡ true) → cond t u v ≡ true → (t || w) ≡ true
    go true u v w f h = refl
    go false u v w f h = f h

-- file numbers are below their count
abbrev pub Numbered : List FileState → Type 0
Numbered files = (F : ℕ) → was_made F files ≡ true → F < length files

shut_numbered : (K : ℕ) (files : List FileState) → Numbered files → Numbered (shut_files K files)
shut_numbered K files n = λ F m. let h : F < length files = n F (sym (made_shut F K files) ∙ m) in omega (arith, length_shut K files)

file_numbered : (file : ℕ) (pages : ℕ) (block : Bool) (files : List FileState) → file ≡ length files → Numbered files → Numbered (record { number = file; pages = pages; block = block; used = true } ∷ files)
file_numbered file pages block files e n = λ F m. elim (cases_Bool (was_made F files)) [
  | inl y ↦ let h : F < length files = n F y in omega arith
  | inr y ↦ let h : file ≡ F = eqb-true file F (left_of (eqb file F) (was_made F files) m y) in omega arith
]
  where
    left_of : (a b : Bool) → (a || b) ≡ true → b ≡ false → a ≡ true
    left_of a b h k = grind arith

-- slots inside their files
abbrev Inside : List FileState → SlotView → Type 0
Inside files s = (F : ℕ) → of_file F s.file ≡ true → s.index + s.pages ≤ file_pages F files

all_mem : (P Q : SlotView → Type 0) (rs : List SlotView) → ((r : SlotView) → MemSlot r rs → P r → Q r) → AllOf P rs → AllOf Q rs
all_mem P Q [] f a = tt
all_mem P Q (r ∷ rs) f a = (f r (inl refl) a.0, all_mem P Q rs (λ q m. f q (inr m)) a.1)

-- a new file is none that a slot has
file_inside : (file pages : ℕ) (block : Bool) (f : Flat) → file ≡ length f.files → Numbered f.files → SlotFiles f → AllOf (Inside f.files) f.slots → AllOf (Inside (record { number = file; pages = pages; block = block; used = true } ∷ f.files)) f.slots
file_inside file pages block f e n s a =
    all_mem (Inside f.files) (Inside (record { number = file; pages = pages; block = block; used = true } ∷ f.files)) f.slots
    (λ r m h F k. let o : eqb file F ≡ false = other file F (length f.files) e (n F (used_made F f.files (s r F m k).0)) in rw o (h F k)) a
  where
    other : (file F n : ℕ) → file ≡ n → F < n → eqb file F ≡ false
    other file F n e h = grind (arith, nat_tests)

shut_inside : (K : ℕ) (f : Flat) → AllOf (Inside f.files) f.slots → AllOf (Inside (shut_files K f.files)) (shut_slots K f.slots)
shut_inside K f a =
    all_shut (Inside f.files) (Inside (shut_files K f.files)) K f.slots
    (λ r h F k. let e = pages_shut F K f.files in rw e (h F (still_file F K r.file k).0)) a

pub record Kept (slots : List SlotView) (files : List FileState) : Type 0 where
  pub numbered : Numbered files
  pub inside : AllOf (Inside files) slots

kept_effect : (e : Effect) (f : Flat) → New e f → SlotFiles f → Kept f.slots f.files → Kept (apply e f).slots (apply e f).files
kept_effect (File file pages block) f new s k = record { numbered = file_numbered file pages block f.files new k.numbered; inside = file_inside file pages block f new k.numbered s k.inside }
kept_effect (Slot id base pages user flags file index) f new s k =
    let r : SlotView = record { id = id; base = base; pages = pages; user = user; flags = flags; file = file; index = index; invalid = false } in
    cond_P (λ (z : Flat). Kept z.slots z.files) (slot_fits r) (record f { slots = r ∷ f.slots }) f
    (record { numbered = k.numbered; inside = (new, k.inside) }) k
kept_effect (Mark id) f new s k = record { numbered = k.numbered; inside = all_marked (Inside f.files) id f.slots (λ r h. h) k.inside }
kept_effect (NoSlot id) f new s k = record { numbered = k.numbered; inside = all_dropped (Inside f.files) id f.slots k.inside }
kept_effect (Move id base) f new s k = record { numbered = k.numbered; inside = all_moved (Inside f.files) id base f.slots (λ r e. all_with (Inside f.files) id r f.slots e k.inside) k.inside }
kept_effect (Shut K) f new s k =
    cond_P (λ (z : Flat). Kept z.slots z.files) (was_made K f.files) (record f { slots = shut_slots K f.slots; files = shut_files K f.files; cache = without_file K f.cache }) f
    (record { numbered = shut_numbered K f.files k.numbered; inside = shut_inside K f k.inside }) k
kept_effect (Attr span kind) f new s k = k
kept_effect (Cut file lo hi) f new s k = k
kept_effect (Word page word value) f new s k = k

kept_keep : (o : Orders) (t : ℕ) (w : What) (a : Actor) (past : List Entry) → Locks o.setup past → May o w a past → Kept (flat past).slots (flat past).files → Kept (flat (by t a w ∷ past)).slots (flat (by t a w ∷ past)).files
kept_keep o t (Change e) (Caller d) past k m s =
    kept_effect e (flat past) (new_by o.setup e d past (call d past) k refl (can_change o.setup e past (call d past) (bracket d past) m)) (subst SlotFiles (flat_at_all past) (k.files_at (length past))) s
kept_keep o t (Change e) (Vcpu v) past k m s = absurd m
kept_keep o t w a past k m s =
    let same = same_state t w a past refl in
    subst (λ (rs : List SlotView). Kept rs (flat (by t a w ∷ past)).files) (sym same.0)
    (subst (λ (fs : List FileState). Kept (flat past).slots fs) (sym same.2) s)

pub kept : (o : Orders) (past : List Entry) → Follows o past → Kept (flat past).slots (flat past).files
kept o [] r = record { numbered = λ F m. absurd (both_ways false refl m); inside = tt }
kept o (e ∷ past) r = kept_keep o e.turn e.what e.actor past (locks o past r.1) r.0.may (kept o past r.1)

ranges : (o : Orders) (past : List Entry) → Follows o past → SlotsStand (flat past) → BoundRanges (flat past)
ranges o past r s = record {
  inside = all_map (Inside (flat past).files) (IsInsideFile (flat past)) (flat past).slots (λ q h F k u. h F k) (kept o past r).inside;
  apart = s.bound_apart;
}

pub ranges_now : (o : Orders) (past : List Entry) → Right o past → BoundRanges (flat past)
ranges_now o past r = ranges o past (ruled o past r).follows (slots_now o past r)

pub ranges_then : (o : Orders) (e : Entry) (before past : List Entry) → Right o past → Stands e before past → BoundRanges (flat before)
ranges_then o e before past r s = ranges o before (front_follows o e before past s (ruled o past r).follows).1 (slots_then o e before past r s)
