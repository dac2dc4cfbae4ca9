-- What the locks keep: no two calls in progress hold one lock, and what a lock guards is as it was at the Judge.
use Rattle.std.proofs.Common.{◌<◌, Bool, List, None, Option, Some, [], ap, arith, cond, eqb, eqb-true, false, inl, inr, length, refl, subst, suc, sym, true, ℕ, ◌∙◌, ◌∷◌, ◌≡◌, ◌⊎◌}
use Rattle.std.proofs.lemmas.Bool.{and_from, both_ways, cases_Bool, cases_eq, eqb-false}
use Rattle.std.proofs.lemmas.Bool.Decides.{nat_tests}
use Rattle.gm_base.specs.Extent.{Extent}
use Rattle.gm_base.specs.declared.calls.Ioctl.{Ioctl}
use Rattle.gm_base.specs.declared.numbers.TheConstants.{KVM_MEM_GUEST_MEMFD}
use Rattle.gm_base.specs.declared.values.Setup.{Setup}
use Rattle.gm_flat.specs.Calls.{Bracketed, Paged, Plan, Reads, Refused, Same, Short, has_memfd, mark_of, meets_bound, meets_slot, plan}
use Rattle.gm_flat.specs.Effects.{apply, dropped, marked, moved, shut_files, shut_slot, shut_slots, slot_fits, without_file}
use Rattle.gm_flat.specs.FlatState.{FileState, Flat, has_flag, in_use, was_made}
use Rattle.gm_flat.specs.Histories.{Bracket, Call, bracket, call, is_mark}
use Rattle.gm_flat.specs.Locks.{FileLock, Lock, takes, takes_file, takes_slots}
use Rattle.gm_flat.specs.Replay.{flat, flat_at}
use Rattle.gm_flat.specs.RightCalls.{IsEffect, IsMark}
use Rattle.gm_flat.specs.RightLook.{file_of}
use Rattle.gm_flat.specs.RightOrder.{IsDue, IsMarkDue}
use Rattle.gm_flat.specs.declared.effect.Effect.{Effect}
use Rattle.gm_flat.specs.declared.effect.Effect.TheVariants.{Attr, Cut, File, Mark, Move, NoSlot, Shut, Slot, Word}
use Rattle.gm_flat.specs.declared.entry.Entry.{Entry}
use Rattle.gm_flat.specs.declared.views.SlotView.{SlotView}
use Rattle.gm_laws.proofs.Aside.{aside, aside-dropped, aside-marked, aside-moved, aside-shut, file_aside, flat_aside, others-aside, plain, plain_one, plan_aside, takes_aside, with_id-aside}
use Rattle.gm_laws.proofs.Flats.{cond_P, of_file, with_id}
use Rattle.gm_laws.proofs.Ids.{IdsApart, IdsAt, MemSlot, apart_dropped, apart_marked, apart_moved, apart_shut}
use Rattle.gm_laws.proofs.Kit.{by_test, cond_is, none_is, some_same}
use Rattle.gm_laws.proofs.Plans.{Fits, IsFlagged, NoMemfd, fits}

-- the slots of a file
abbrev pub bound : ℕ → List SlotView → List SlotView
bound F [] = []
bound F (r ∷ rs) = cond (of_file F r.file) (r ∷ bound F rs) (bound F rs)

abbrev pub SlotFiles : Flat → Type 0
SlotFiles f = (r : SlotView) (F : ℕ) → MemSlot r f.slots → of_file F r.file ≡ true → (in_use F f.files ≡ true) × (has_memfd r ≡ true)

abbrev pub PlannedBy : Setup → Bracket → Call → List Entry → Type 0
PlannedBy s b x past = (e : Effect) × (plan s x.ioctl (flat_at x.judged past) ≡ Bracketed e b.spans)

abbrev pub CallLt : List Entry → Type 0
CallLt past = (c : ℕ) (x : Call) → call c past ≡ Some x → x.judged < length past

abbrev pub Apart : List Entry → Type 0
Apart past = (c d : ℕ) (x y : Call) (lock : Lock) → (c ≡ d → ⊥) → call c past ≡ Some x → call d past ≡ Some y → takes lock x.ioctl (flat_at x.judged past) ≡ true → takes lock y.ioctl (flat_at y.judged past) ≡ false

-- what a lock guards is as it was at the Judge, with marks left aside: its holder marks a slot itself
abbrev pub SlotsSame : List Entry → Type 0
SlotsSame past = (c : ℕ) (x : Call) → call c past ≡ Some x → x.made ≡ false → takes_slots x.ioctl ≡ true → aside (flat past).slots ≡ aside (flat_at x.judged past).slots

abbrev pub BoundSame : List Entry → Type 0
BoundSame past = (c F : ℕ) (x : Call) → call c past ≡ Some x → x.made ≡ false → takes (FileLock F) x.ioctl (flat_at x.judged past) ≡ true → bound F (aside (flat past).slots) ≡ bound F (aside (flat_at x.judged past).slots)

abbrev pub IsPlanned : Setup → List Entry → Type 0
IsPlanned s past = (c : ℕ) (b : Bracket) → bracket c past ≡ Some b → (x : Call) × (call c past ≡ Some x) × PlannedBy s b x past

abbrev pub FilesAt : List Entry → Type 0
FilesAt past = (p : ℕ) → SlotFiles (flat_at p past)

abbrev pub AtOnce : List Entry → Type 0
AtOnce past = (c : ℕ) (x : Call) → call c past ≡ Some x → length past ≡ suc x.judged → flat past ≡ flat_at x.judged past

pub record Locks (s : Setup) (past : List Entry) : Type 0 where
  pub call_lt : CallLt past
  pub apart : Apart past
  pub slots_same : SlotsSame past
  pub bound_same : BoundSame past
  pub planned : IsPlanned s past
  pub files_at : FilesAt past
  pub at_once : AtOnce past
  pub ids : IdsAt past

-- what a Change's effect does to the slots, by its call's locks
pub bound-dropped : (F id : ℕ) (rs : List SlotView) → of_file F (file_of (with_id id rs)) ≡ false → bound F (dropped id rs) ≡ bound F rs
bound-dropped F id [] h = refl
bound-dropped F id (r ∷ rs) h = go (eqb r.id id) (of_file F r.file) refl h (bound-dropped F id rs)
  where
    go : (t u : Bool) → of_file F r.file ≡ u → of_file F (file_of (cond t (Some r) (with_id id rs))) ≡ false → (of_file F (file_of (with_id id rs)) ≡ false → bound F (dropped id rs) ≡ bound F rs) → bound F (cond t rs (r ∷ dropped id rs)) ≡ cond u (r ∷ bound F rs) (bound F rs)
    go true true e h ih = absurd (both_ways (of_file F r.file) h e)
    go true false e h ih = refl
    go false true e h ih = rw e (ap (λ (x : List SlotView). r ∷ x) (ih h))
    go false false e h ih = rw e (ih h)

pub bound-moved : (F id base : ℕ) (rs : List SlotView) → of_file F (file_of (with_id id rs)) ≡ false → bound F (moved id base rs) ≡ bound F rs
bound-moved F id base [] h = refl
bound-moved F id base (r ∷ rs) h = go (eqb r.id id) (of_file F r.file) refl h (bound-moved F id base rs)
  where
    go : (t u : Bool) → of_file F r.file ≡ u → of_file F (file_of (cond t (Some r) (with_id id rs))) ≡ false → (of_file F (file_of (with_id id rs)) ≡ false → bound F (moved id base rs) ≡ bound F rs) → bound F (cond t (record r { base = base; invalid = false } ∷ rs) (r ∷ moved id base rs)) ≡ cond u (r ∷ bound F rs) (bound F rs)
    go true true e h ih = absurd (both_ways (of_file F r.file) h e)
    go true false e h ih = rw e refl
    go false true e h ih = rw e (ap (λ (x : List SlotView). r ∷ x) (ih h))
    go false false e h ih = rw e (ih h)

shut_bound : (F K : ℕ) (o : Option ℕ) (t : Bool) → (K ≡ F → ⊥) → of_file F o ≡ t → of_file F (cond (of_file K o) None o) ≡ t
shut_bound F K None t ne e = e
shut_bound F K (Some k) t ne e = shut_some F K k t ne e
  where
    other : (F K k : ℕ) → (K ≡ F → ⊥) → eqb k K ≡ true → eqb k F ≡ false
    other F K k ne e = grind (arith, nat_tests)

    shut_some : (F K k : ℕ) (t : Bool) → (K ≡ F → ⊥) → eqb k F ≡ t → of_file F (cond (eqb k K) None (Some k)) ≡ t
    shut_some F K k t ne e = elim (cases_Bool (eqb k K)) [
      | inl y ↦ rw y (sym (other F K k ne y) ∙ e)
      | inr y ↦ rw y e
    ]

same_shut : (F K : ℕ) (r : SlotView) → (K ≡ F → ⊥) → of_file F r.file ≡ true → shut_slot K r ≡ r
same_shut F K r ne e = rows r.file e
  where
    differs : (F K k : ℕ) → (K ≡ F → ⊥) → eqb k F ≡ true → eqb k K ≡ false
    differs F K k ne e = grind (arith, nat_tests)

    rows : (o : Option ℕ) → of_file F o ≡ true → record r { file = cond (of_file K o) None o } ≡ record r { file = o }
    rows None h = refl
    rows (Some k) h = rw (differs F K k ne h) refl

pub bound-shut : (F K : ℕ) (rs : List SlotView) → (K ≡ F → ⊥) → bound F (shut_slots K rs) ≡ bound F rs
bound-shut F K [] ne = refl
bound-shut F K (r ∷ rs) ne = go (of_file F r.file) refl (shut_bound F K r.file (of_file F r.file) ne refl) (bound-shut F K rs ne)
  where
    go : (u : Bool) → of_file F r.file ≡ u → of_file F (cond (of_file K r.file) None r.file) ≡ of_file F r.file → bound F (shut_slots K rs) ≡ bound F rs → cond (of_file F (cond (of_file K r.file) None r.file)) (shut_slot K r ∷ bound F (shut_slots K rs)) (bound F (shut_slots K rs)) ≡ cond (of_file F r.file) (r ∷ bound F rs) (bound F rs)
    go true e s ih =
        let s1 : of_file F (cond (of_file K r.file) None r.file) ≡ true = s ∙ e in
        rw (s1, e) (ap (λ (x : SlotView). x ∷ bound F (shut_slots K rs)) (same_shut F K r ne e) ∙ ap (λ (x : List SlotView). r ∷ x) ih)
    go false e s ih =
        let s1 : of_file F (cond (of_file K r.file) None r.file) ≡ false = s ∙ e in
        rw (s1, e) ih

pub MemRow-bound : (F : ℕ) (r : SlotView) (rs : List SlotView) → MemSlot r rs → of_file F r.file ≡ true → MemSlot r (bound F rs)
MemRow-bound F r [] m e = m
MemRow-bound F r (x ∷ xs) m e = go (of_file F x.file) refl m (λ k. MemRow-bound F r xs k e)
  where
    go : (t : Bool) → of_file F x.file ≡ t → MemSlot r (x ∷ xs) → (MemSlot r xs → MemSlot r (bound F xs)) → MemSlot r (cond t (x ∷ bound F xs) (bound F xs))
    go true h m f = elim m [ inl y ↦ inl y | inr y ↦ inr (f y) ]
    go false h m f = elim m [ inl y ↦ absurd (both_ways (of_file F x.file) h (ap (λ (z : SlotView). of_file F z.file) (sym y) ∙ e)) | inr y ↦ f y ]

pub MemRow-unbound : (F : ℕ) (r : SlotView) (rs : List SlotView) → MemSlot r (bound F rs) → MemSlot r rs
MemRow-unbound F r [] m = m
MemRow-unbound F r (x ∷ xs) m = go (of_file F x.file) m (MemRow-unbound F r xs)
  where
    go : (t : Bool) → MemSlot r (cond t (x ∷ bound F xs) (bound F xs)) → (MemSlot r (bound F xs) → MemSlot r xs) → MemSlot r (x ∷ xs)
    go true m f = elim m [ inl y ↦ inl y | inr y ↦ inr (f y) ]
    go false m f = inr (f m)

-- a Change, by its call's locks: i is the call, h the state at its Judge, f the state before the Change
abbrev pub Facts : Effect → Ioctl → Flat → Flat → Type 0
Facts (Slot id base pages user flags file index) i h f = (takes_slots i ≡ true) × ((F : ℕ) → of_file F file ≡ true → (takes (FileLock F) i h ≡ true) × (in_use F f.files ≡ true)) × IsFlagged file flags × (with_id id f.slots ≡ None) × (meets_slot base pages f.slots ≡ false) × ((F : ℕ) → of_file F file ≡ true → meets_bound F index pages f.slots ≡ false)
Facts (NoSlot id) i h f = (takes_slots i ≡ true) × ((F : ℕ) → of_file F (file_of (with_id id f.slots)) ≡ true → takes (FileLock F) i h ≡ true)
Facts (Move id base) i h f = (takes_slots i ≡ true) × ((F : ℕ) → of_file F (file_of (with_id id f.slots)) ≡ false) × ((s : SlotView) → with_id id f.slots ≡ Some s → meets_slot base s.pages (dropped id f.slots) ≡ false)
Facts (Shut F) i h f = (takes_slots i ≡ true) × (takes (FileLock F) i h ≡ true)
Facts (Cut F lo hi) i h f = takes (FileLock F) i h ≡ true
Facts (Attr span kind) i h f = takes_slots i ≡ true
Facts (Mark id) i h f = takes_slots i ≡ true
Facts _ i h f = Unit {0}

facts_short : (e : Effect) (i : Ioctl) (n : ℕ) (h : Flat) → Fits i h (Short e n) → Facts e i h h
facts_short (Slot id base pages user flags file index) i n h x = (x.0, (λ F y. let z = x.2 F y in (and_from (takes_file F i h) (in_use F h.files) z.0 z.1, z.1)), x.3, x.4, x.5, x.6)
facts_short (File file pages block) i n h x = tt
facts_short (Word page word value) i n h x = tt
facts_short (Mark id) i n h x = absurd x
facts_short (NoSlot id) i n h x = absurd x
facts_short (Move id base) i n h x = absurd x
facts_short (Shut F) i n h x = absurd x
facts_short (Attr span kind) i n h x = absurd x
facts_short (Cut F lo hi) i n h x = absurd x

with_id-mem : (id : ℕ) (r : SlotView) (rs : List SlotView) → with_id id rs ≡ Some r → MemSlot r rs
with_id-mem id r [] e = absurd (none_is r e)
with_id-mem id r (x ∷ xs) e =
    elim (cond_is (eqb x.id id) (Some x) (with_id id xs) (Some r) e) [
      | inl y ↦ inl (sym (some_same x r y.1))
      | inr y ↦ inr (with_id-mem id r xs y.1)
    ]

row_in_use : (F : ℕ) (o : Option SlotView) (h : Flat) → SlotFiles h → ((r : SlotView) → o ≡ Some r → MemSlot r h.slots) → of_file F (file_of o) ≡ true → in_use F h.files ≡ true
row_in_use F None h s m e = absurd (both_ways false refl e)
row_in_use F (Some r) h s m e = (s r F (m r refl) e).0

-- a slot without the flag has no file
no_memfd : (F : ℕ) (o : Option SlotView) (h : Flat) → SlotFiles h → ((r : SlotView) → o ≡ Some r → MemSlot r h.slots) → NoMemfd o → of_file F (file_of o) ≡ false
no_memfd F None h s m n = absurd n
no_memfd F (Some r) h s m n =
    elim (cases_Bool (of_file F r.file)) [
      | inl y ↦ absurd (both_ways (has_memfd r) n (s r F (m r refl) y).1)
      | inr y ↦ y
    ]

facts_bracket : (e : Effect) (i : Ioctl) (h f : Flat) (spans : List Extent) → (takes_slots i ≡ true → f.slots ≡ h.slots) → SlotFiles h → Fits i h (Bracketed e spans) → Facts e i h f
facts_bracket (NoSlot id) i h f spans same files x = (
  x.0,
  λ F y.
      let z : of_file F (file_of (with_id id h.slots)) ≡ true = sym (ap (λ (rs : List SlotView). of_file F (file_of (with_id id rs))) (same x.0)) ∙ y in
      and_from (takes_file F i h) (in_use F h.files) (x.2 F z) (row_in_use F (with_id id h.slots) h files (λ r e. with_id-mem id r h.slots e) z),
)
facts_bracket (Move id base) i h f spans same files x = (
  x.0,
  (λ F. ap (λ (rs : List SlotView). of_file F (file_of (with_id id rs))) (same x.0) ∙ no_memfd F (with_id id h.slots) h files (λ r e. with_id-mem id r h.slots e) x.2),
  λ s e. ap (λ (rs : List SlotView). meets_slot base s.pages (dropped id rs)) (same x.0) ∙ x.3 s (sym (ap (with_id id) (same x.0)) ∙ e),
)
facts_bracket (Shut F) i h f spans same files x = (x.0, and_from (takes_file F i h) (in_use F h.files) x.1 x.2)
facts_bracket (Cut F lo hi) i h f spans same files x = and_from (takes_file F i h) (in_use F h.files) x.0 x.1
facts_bracket (Attr span kind) i h f spans same files x = x.0
facts_bracket (Mark id) i h f spans same files x = absurd x
facts_bracket (Slot id base pages user flags file index) i h f spans same files x = absurd x
facts_bracket (File file pages block) i h f spans same files x = absurd x
facts_bracket (Word page word value) i h f spans same files x = absurd x

-- the same of the states with marks
facts_aside : (e : Effect) (i : Ioctl) (h f : Flat) (spans : List Extent) → Fits i (flat_aside h) (Bracketed e spans) → Facts e i (flat_aside h) (flat_aside f) → Facts e i h f
facts_aside (NoSlot id) i h f spans y x = (x.0, λ F k. sym (takes_aside (FileLock F) i h) ∙ x.1 F (file_aside F id f.slots ∙ k))
facts_aside (Move id base) i h f spans y x = (x.0, (λ F. sym (file_aside F id f.slots) ∙ x.1 F), λ s e. sym (others-aside id base s.pages f.slots) ∙ x.2 (plain s) (with_id-aside id f.slots ∙ ap plain_one e))
facts_aside (Shut F) i h f spans y x = (x.0, sym (takes_aside (FileLock F) i h) ∙ x.1)
facts_aside (Cut F lo hi) i h f spans y x = sym (takes_aside (FileLock F) i h) ∙ x
facts_aside (Attr span kind) i h f spans y x = x
facts_aside (Mark id) i h f spans y x = absurd y
facts_aside (Slot id base pages user flags file index) i h f spans y x = absurd y
facts_aside (File file pages block) i h f spans y x = absurd y
facts_aside (Word page word value) i h f spans y x = absurd y

files_aside : (f : Flat) → SlotFiles f → SlotFiles (flat_aside f)
files_aside f s r F m e = let x = slot_aside r f.slots m in let y = s x.0 F x.1 (sym (ap (λ (q : SlotView). of_file F q.file) x.2) ∙ e) in (y.0, ap has_memfd x.2 ∙ y.1)
  where
    slot_aside : (r : SlotView) (rs : List SlotView) → MemSlot r (aside rs) → (q : SlotView) × MemSlot q rs × (r ≡ plain q)
    slot_aside r [] m = absurd m
    slot_aside r (x ∷ xs) m = elim m [
      | inl k ↦ (x, inl refl, k)
      | inr k ↦ let y = slot_aside r xs k in (y.0, inr y.1, y.2)
    ]

-- a plan's promises over the state with marks left aside
pub fits_aside : (s : Setup) (i : Ioctl) (h : Flat) (p : Plan) → plan s i h ≡ p → Fits i (flat_aside h) p
fits_aside s i h p e = subst (λ (q : Plan). Fits i (flat_aside h) q) (plan_aside s i h ∙ e) (fits s i (flat_aside h))

-- a mark is that of its call's change
mark_facts : (e f : Effect) (i : Ioctl) (h : Flat) (spans : List Extent) → mark_of f ≡ Some e → Fits i h (Bracketed f spans) → takes_slots i ≡ true
mark_facts e (NoSlot id) i h spans k x = x.0
mark_facts e (Move id base) i h spans k x = x.0
mark_facts e (Slot id base pages user flags file index) i h spans k x = absurd x
mark_facts e (File file pages block) i h spans k x = absurd x
mark_facts e (Word page word value) i h spans k x = absurd x
mark_facts e (Mark id) i h spans k x = absurd x
mark_facts e (Attr span kind) i h spans k x = absurd (none_is e k)
mark_facts e (Cut F lo hi) i h spans k x = absurd (none_is e k)
mark_facts e (Shut F) i h spans k x = absurd (none_is e k)

marks_slot : (e f : Effect) (i : Ioctl) (h g : Flat) → mark_of f ≡ Some e → takes_slots i ≡ true → Facts e i h g
marks_slot e (NoSlot id) i h g k x = subst (λ (z : Effect). Facts z i h g) (some_same (Mark id) e k) x
marks_slot e (Move id base) i h g k x = subst (λ (z : Effect). Facts z i h g) (some_same (Mark id) e k) x
marks_slot e (Slot id base pages user flags file index) i h g k x = absurd (none_is e k)
marks_slot e (File file pages block) i h g k x = absurd (none_is e k)
marks_slot e (Word page word value) i h g k x = absurd (none_is e k)
marks_slot e (Mark id) i h g k x = absurd (none_is e k)
marks_slot e (Attr span kind) i h g k x = absurd (none_is e k)
marks_slot e (Cut F lo hi) i h g k x = absurd (none_is e k)
marks_slot e (Shut F) i h g k x = absurd (none_is e k)

-- the change that a call may make, by its plan
abbrev pub ChangeIn : Setup → Effect → List Entry → Call → Option Bracket → Type 0
ChangeIn s e past x None = (length past ≡ suc x.judged) × ((n : ℕ) × (plan s x.ioctl (flat_at x.judged past) ≡ Short e n))
ChangeIn s e past x (Some b) = (b.acked ≡ true) × ((spans : List Extent) × (plan s x.ioctl (flat_at x.judged past) ≡ Bracketed e spans))

pub change_in : (s : Setup) (e : Effect) (past : List Entry) (x : Call) (b : Option Bracket) (p : Plan) → plan s x.ioctl (flat_at x.judged past) ≡ p → IsDue (length past) x.judged p b → IsEffect e p → ChangeIn s e past x b
change_in s e past x None (Short f n) q due k = (due, (n, q ∙ ap (λ (z : Effect). Short z n) (sym k)))
change_in s e past x (Some b) (Short f n) q due k = absurd due
change_in s e past x None (Bracketed f spans) q due k = absurd due
change_in s e past x (Some b) (Bracketed f spans) q due k = (due, (spans, q ∙ ap (λ (z : Effect). Bracketed z spans) (sym k)))
change_in s e past x b (Refused r) q due k = absurd k
change_in s e past x b (Same r) q due k = absurd k
change_in s e past x b (Reads r w) q due k = absurd k
change_in s e past x b (Paged r) q due k = absurd k

-- the mark with which a deletion or a move begins
abbrev pub MarkIn : Setup → Effect → List Entry → Call → Option Bracket → Type 0
MarkIn s e past x None = ⊥
MarkIn s e past x (Some b) = (length past ≡ suc b.begun) × ((f : Effect) × (spans : List Extent) × (plan s x.ioctl (flat_at x.judged past) ≡ Bracketed f spans) × (mark_of f ≡ Some e))

pub mark_in : (s : Setup) (e : Effect) (past : List Entry) (x : Call) (b : Option Bracket) (p : Plan) → plan s x.ioctl (flat_at x.judged past) ≡ p → IsMarkDue (length past) b → IsMark e p → MarkIn s e past x b
mark_in s e past x None p q due k = absurd due
mark_in s e past x (Some b) (Bracketed f spans) q due k = (due, (f, spans, q, k))
mark_in s e past x (Some b) (Short f n) q due k = absurd k
mark_in s e past x (Some b) (Refused r) q due k = absurd k
mark_in s e past x (Some b) (Same r) q due k = absurd k
mark_in s e past x (Some b) (Reads r w) q due k = absurd k
mark_in s e past x (Some b) (Paged r) q due k = absurd k

pub marker : (s : Setup) (e : Effect) (y : Call) (past : List Entry) (o : Option Bracket) → MarkIn s e past y o → Facts e y.ioctl (flat_at y.judged past) (flat past)
marker s e y past None m = absurd m
marker s e y past (Some b) m = marks_slot e m.1.0 y.ioctl (flat_at y.judged past) (flat past) m.1.3 (mark_facts e m.1.0 y.ioctl (flat_at y.judged past) m.1.1 m.1.3 (subst (λ (p : Plan). Fits y.ioctl (flat_at y.judged past) p) m.1.2 (fits s y.ioctl (flat_at y.judged past))))

pub facts : (s : Setup) (e : Effect) (d : ℕ) (y : Call) (past : List Entry) (o : Option Bracket) → Locks s past → call d past ≡ Some y → y.made ≡ false → ChangeIn s e past y o → Facts e y.ioctl (flat_at y.judged past) (flat past)
facts s e d y past None k c m h =
    let x = facts_short e y.ioctl h.1.0 (flat_at y.judged past) (subst (λ (p : Plan). Fits y.ioctl (flat_at y.judged past) p) h.1.1 (fits s y.ioctl (flat_at y.judged past))) in
    subst (λ (f : Flat). Facts e y.ioctl (flat_at y.judged past) f) (sym (k.at_once d y c h.0)) x
facts s e d y past (Some b) k c m h =
    let x = fits_aside s y.ioctl (flat_at y.judged past) (Bracketed e h.1.0) h.1.1 in
    facts_aside e y.ioctl (flat_at y.judged past) (flat past) h.1.0 x
    (facts_bracket e y.ioctl (flat_aside (flat_at y.judged past)) (flat_aside (flat past)) h.1.0 (λ t. k.slots_same d y c m t) (files_aside (flat_at y.judged past) (k.files_at y.judged)) x)

abbrev with_new : ℕ → ℕ → ℕ → ℕ → ℕ → Option ℕ → ℕ → Flat → Flat
with_new id base pages user flags file index f = record f { slots = record { id = id; base = base; pages = pages; user = user; flags = flags; file = file; index = index; invalid = false } ∷ f.slots }

abbrev fits_slot : ℕ → ℕ → ℕ → ℕ → ℕ → Option ℕ → ℕ → Bool
fits_slot id base pages user flags file index = slot_fits (record { id = id; base = base; pages = pages; user = user; flags = flags; file = file; index = index; invalid = false })

abbrev with_shut : ℕ → Flat → Flat
with_shut F f = record f { slots = shut_slots F f.slots; files = shut_files F f.files; cache = without_file F f.cache }

-- an effect leaves the slots, marks aside, or takes their lock
pub slots_or : (e : Effect) (i : Ioctl) (h f : Flat) → Facts e i h f → (aside (apply e f).slots ≡ aside f.slots) ⊎ ((is_mark e ≡ false) × (takes_slots i ≡ true))
slots_or (Slot id base pages user flags file index) i h f x = inr (refl, x.0)
slots_or (NoSlot id) i h f x = inr (refl, x.0)
slots_or (Move id base) i h f x = inr (refl, x.0)
slots_or (Shut F) i h f x = inr (refl, x.0)
slots_or (Mark id) i h f x = inl (aside-marked id f.slots)
slots_or (File file pages block) i h f x = inl refl
slots_or (Attr span kind) i h f x = inl refl
slots_or (Cut F lo hi) i h f x = inl refl
slots_or (Word page word value) i h f x = inl refl

new_bound : (F id base pages user flags : ℕ) (file : Option ℕ) (index : ℕ) (f : Flat) → of_file F file ≡ false → bound F (aside (apply (Slot id base pages user flags file index) f).slots) ≡ bound F (aside f.slots)
new_bound F id base pages user flags file index f y = cond_P (λ (x : Flat). bound F (aside x.slots) ≡ bound F (aside f.slots)) (fits_slot id base pages user flags file index) (with_new id base pages user flags file index f) f (rw y refl) refl

pub bound_or : (F : ℕ) (e : Effect) (i : Ioctl) (h f : Flat) → Facts e i h f → (bound F (aside (apply e f).slots) ≡ bound F (aside f.slots)) ⊎ ((is_mark e ≡ false) × (takes (FileLock F) i h ≡ true))
bound_or F (Slot id base pages user flags file index) i h f x = by_test (of_file F file) (λ y. inr (refl, (x.1 F y).0)) (λ y. inl (new_bound F id base pages user flags file index f y))
bound_or F (NoSlot id) i h f x = by_test (of_file F (file_of (with_id id f.slots))) (λ y. inr (refl, x.1 F y)) (λ y. inl (ap (bound F) (aside-dropped id f.slots) ∙ bound-dropped F id (aside f.slots) (file_aside F id f.slots ∙ y)))
bound_or F (Move id base) i h f x = inl (ap (bound F) (aside-moved id base f.slots) ∙ bound-moved F id base (aside f.slots) (file_aside F id f.slots ∙ x.1 F))
bound_or F (Mark id) i h f x = inl (ap (bound F) (aside-marked id f.slots))
bound_or F (Shut K) i h f x = elim (cases_eq K F) [
  | inl y ↦ inr (refl, subst (λ (z : ℕ). takes (FileLock z) i h ≡ true) y x.1)
  | inr y ↦ inl (cond_P (λ (z : Flat). bound F (aside z.slots) ≡ bound F (aside f.slots)) (was_made K f.files) (with_shut K f) f (ap (bound F) (aside-shut K f.slots) ∙ bound-shut F K (aside f.slots) y) refl)
]
bound_or F (File file pages block) i h f x = inl refl
bound_or F (Attr span kind) i h f x = inl refl
bound_or F (Cut K lo hi) i h f x = inl refl
bound_or F (Word page word value) i h f x = inl refl

MemSlot-dropped : (id : ℕ) (r : SlotView) (rs : List SlotView) → MemSlot r (dropped id rs) → MemSlot r rs
MemSlot-dropped id r [] m = m
MemSlot-dropped id r (x ∷ xs) m = go (eqb x.id id) m (MemSlot-dropped id r xs)
  where
    go : (t : Bool) → MemSlot r (cond t xs (x ∷ dropped id xs)) → (MemSlot r (dropped id xs) → MemSlot r xs) → MemSlot r (x ∷ xs)
    go true m f = inr m
    go false m f = elim m [ inl y ↦ inl y | inr y ↦ inr (f y) ]

MemSlot-moved : (id base : ℕ) (r : SlotView) (rs : List SlotView) → MemSlot r (moved id base rs) → (s : SlotView) × MemSlot s rs × (r.file ≡ s.file) × (r.flags ≡ s.flags)
MemSlot-moved id base r [] m = absurd m
MemSlot-moved id base r (x ∷ xs) m = go (eqb x.id id) m (MemSlot-moved id base r xs)
  where
    go : (t : Bool) → MemSlot r (cond t (record x { base = base; invalid = false } ∷ xs) (x ∷ moved id base xs)) → (MemSlot r (moved id base xs) → (s : SlotView) × MemSlot s xs × (r.file ≡ s.file) × (r.flags ≡ s.flags)) → (s : SlotView) × MemSlot s (x ∷ xs) × (r.file ≡ s.file) × (r.flags ≡ s.flags)
    go true m f = elim m [ inl y ↦ (x, inl refl, ap (λ (z : SlotView). z.file) y, ap (λ (z : SlotView). z.flags) y) | inr y ↦ (r, inr y, refl, refl) ]
    go false m f = elim m [ inl y ↦ (x, inl refl, ap (λ (z : SlotView). z.file) y, ap (λ (z : SlotView). z.flags) y) | inr y ↦ let z = f y in (z.0, inr z.1, z.2, z.3) ]

MemSlot-marked : (id : ℕ) (r : SlotView) (rs : List SlotView) → MemSlot r (marked id rs) → (s : SlotView) × MemSlot s rs × (r.file ≡ s.file) × (r.flags ≡ s.flags)
MemSlot-marked id r [] m = absurd m
MemSlot-marked id r (x ∷ xs) m = go (eqb x.id id) m (MemSlot-marked id r xs)
  where
    go : (t : Bool) → MemSlot r (cond t (record x { invalid = true } ∷ xs) (x ∷ marked id xs)) → (MemSlot r (marked id xs) → (s : SlotView) × MemSlot s xs × (r.file ≡ s.file) × (r.flags ≡ s.flags)) → (s : SlotView) × MemSlot s (x ∷ xs) × (r.file ≡ s.file) × (r.flags ≡ s.flags)
    go true m f = elim m [ inl y ↦ (x, inl refl, ap (λ (z : SlotView). z.file) y, ap (λ (z : SlotView). z.flags) y) | inr y ↦ (r, inr y, refl, refl) ]
    go false m f = elim m [ inl y ↦ (x, inl refl, ap (λ (z : SlotView). z.file) y, ap (λ (z : SlotView). z.flags) y) | inr y ↦ let z = f y in (z.0, inr z.1, z.2, z.3) ]

MemSlot-shut : (K : ℕ) (r : SlotView) (rs : List SlotView) → MemSlot r (shut_slots K rs) → (s : SlotView) × MemSlot s rs × (r ≡ shut_slot K s)
MemSlot-shut K r [] m = absurd m
MemSlot-shut K r (x ∷ xs) m = elim m [ inl y ↦ (x, inl refl, y) | inr y ↦ let z = MemSlot-shut K r xs y in (z.0, inr z.1, z.2) ]

pub still_file : (F K : ℕ) (o : Option ℕ) → of_file F (cond (of_file K o) None o) ≡ true → (of_file F o ≡ true) × (K ≡ F → ⊥)
still_file F K None e = absurd (both_ways false refl e)
still_file F K (Some k) e = go (eqb k K) refl e
  where
    go : (t : Bool) → eqb k K ≡ t → of_file F (cond t None (Some k)) ≡ true → (eqb k F ≡ true) × (K ≡ F → ⊥)
    go true h e = absurd (both_ways false refl e)
    go false h e = (e, λ s. eqb-false k K h (eqb-true k F e ∙ sym s))

pub in_use-shut : (F K : ℕ) (rs : List FileState) → (K ≡ F → ⊥) → in_use F (shut_files K rs) ≡ in_use F rs
in_use-shut F K [] ne = refl
in_use-shut F K (r ∷ rs) ne = go (eqb r.number K) refl (in_use-shut F K rs ne)
  where
    apart : (n F K : ℕ) → (K ≡ F → ⊥) → eqb n K ≡ true → eqb n F ≡ false
    apart n F K ne e = grind (arith, nat_tests)

    go : (t : Bool) → eqb r.number K ≡ t → in_use F (shut_files K rs) ≡ in_use F rs → in_use F (cond t (record r { used = false } ∷ rs) (r ∷ shut_files K rs)) ≡ cond (eqb r.number F) r.used (in_use F rs)
    go true e ih = rw (apart r.number F K ne e) refl
    go false e ih = ap (λ (x : Bool). cond (eqb r.number F) r.used x) ih

flag_same : (r s : SlotView) → r.flags ≡ s.flags → has_memfd s ≡ true → has_memfd r ≡ true
flag_same r s e h = ap (λ (x : ℕ). has_flag KVM_MEM_GUEST_MEMFD x) e ∙ h

pub files_keep : (e : Effect) (i : Ioctl) (h f : Flat) → Facts e i h f → SlotFiles f → SlotFiles (apply e f)
files_keep (Slot id base pages user flags file index) i h f x s = cond_P SlotFiles (fits_slot id base pages user flags file index) (with_new id base pages user flags file index f) f
    (λ r F m y. elim m [
      | inl z ↦
          let q : of_file F file ≡ true = ap (λ (q : SlotView). of_file F q.file) (sym z) ∙ y in
          ((x.1 F q).1, ap has_memfd z ∙ x.2 F q)
      | inr z ↦ s r F z y
    ])
    s
files_keep (NoSlot id) i h f x s = λ r F m y. s r F (MemSlot-dropped id r f.slots m) y
files_keep (Move id base) i h f x s = λ r F m y. let z = MemSlot-moved id base r f.slots m in let w = s z.0 F z.1 (ap (of_file F) (sym z.2) ∙ y) in (w.0, flag_same r z.0 z.3 w.1)
files_keep (Mark id) i h f x s = λ r F m y. let z = MemSlot-marked id r f.slots m in let w = s z.0 F z.1 (ap (of_file F) (sym z.2) ∙ y) in (w.0, flag_same r z.0 z.3 w.1)
files_keep (Shut K) i h f x s = cond_P SlotFiles (was_made K f.files) (with_shut K f) f
    (λ r F m y.
    let z = MemSlot-shut K r f.slots m in
    let w = still_file F K z.0.file (ap (λ (q : SlotView). of_file F q.file) (sym z.2) ∙ y) in
    let v = s z.0 F z.1 w.0 in
    (in_use-shut F K f.files w.1 ∙ v.0, flag_same r z.0 (ap (λ (q : SlotView). q.flags) z.2) v.1))
    s
files_keep (File file pages block) i h f x s = λ r F m y. (used_cons (eqb file F) (in_use F f.files) (s r F m y).0, (s r F m y).1)
  where
    used_cons : (t u : Bool) → u ≡ true → cond t true u ≡ true
    used_cons t u e = grind arith
files_keep (Attr span kind) i h f x s = λ r F m y. s r F m y
files_keep (Cut K lo hi) i h f x s = λ r F m y. s r F m y
files_keep (Word page word value) i h f x s = λ r F m y. s r F m y

pub ids_keep : (e : Effect) (i : Ioctl) (h f : Flat) → Facts e i h f → IdsApart f.slots → IdsApart (apply e f).slots
ids_keep (Slot id base pages user flags file index) i h f x s = cond_P (λ (z : Flat). IdsApart z.slots) (fits_slot id base pages user flags file index) (with_new id base pages user flags file index f) f (x.3, s) s
ids_keep (NoSlot id) i h f x s = apart_dropped id f.slots s
ids_keep (Move id base) i h f x s = apart_moved id base f.slots s
ids_keep (Mark id) i h f x s = apart_marked id f.slots s
ids_keep (Shut K) i h f x s = cond_P (λ (z : Flat). IdsApart z.slots) (was_made K f.files) (with_shut K f) f (apart_shut K f.slots s) s
ids_keep (File file pages block) i h f x s = s
ids_keep (Attr span kind) i h f x s = s
ids_keep (Cut K lo hi) i h f x s = s
ids_keep (Word page word value) i h f x s = s
