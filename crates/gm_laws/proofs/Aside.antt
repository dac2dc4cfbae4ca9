-- Slots with their marks left aside: which readings of slots don't look at marks.
use Rattle.std.proofs.Common.{◌&&◌, Bool, List, None, Option, Some, [], ap, cond, eqb, inl, inr, leb, refl, sym, true, false, ℕ, ◌∙◌, ◌∷◌, ◌≡◌, ◌||◌, ◌+◌, ◌*◌, ltb, not}
use Rattle.gm_base.specs.Extent.{Extent, meets}
use Rattle.gm_base.specs.declared.calls.Ioctl.{Ioctl}
use Rattle.gm_base.specs.declared.calls.Ioctl.TheVariants.{Allocate, Attrs, Close, Create, Peek, Poke, Populate, Punch, Region2}
use Rattle.gm_base.specs.declared.calls.Region.{Region}
use Rattle.gm_base.specs.declared.numbers.TheConstants.{KVM_MEM_GUEST_MEMFD, KVM_MEM_READONLY, PAGE_BYTES, SLOT_IDS}
use Rattle.gm_base.specs.declared.values.Errno.TheVariants.{BadF, Exist, Inval}
use Rattle.gm_base.specs.declared.values.Setup.{Setup}
use Rattle.gm_flat.specs.Calls.{Bracketed, Plan, Refused, Same, Short, bad_range, bound_range, close_plan, differs, file_pages, file_populate, has_memfd, is_paged, make_plan, meets_bound, meets_slot, new_slot, old_plan, page_of, part_span, part_spans, plan, populate_plan, punch_plan, put_by_index, region_plan, slot_plan, slot_populate, slots_of_file, user_bytes, wants_file, whole_spans}
use Rattle.gm_flat.specs.Effects.{U64_LIMIT, dropped, marked, moved, shut_slot, shut_slots}
use Rattle.gm_flat.specs.FlatState.{Flat, in_use}
use Rattle.gm_flat.specs.Locks.{FileLock, Lock, SlotsLock, takes, takes_file}
use Rattle.gm_flat.specs.RightLook.{file_of}
use Rattle.gm_flat.specs.Slots.{lies_over, slot_span}
use Rattle.gm_flat.specs.Window.{has_file, in_cut, in_old_or_new, in_slot, is_on}
use Rattle.gm_flat.specs.declared.effect.Effect.{Effect}
use Rattle.gm_flat.specs.declared.effect.Effect.TheVariants.{Attr, Cut, Mark, Move, NoSlot, Shut, Slot, File, Word}
use Rattle.gm_flat.specs.declared.views.SlotView.{SlotView}
use Rattle.gm_laws.proofs.Flats.{of_file, over, with_id}
use Rattle.gm_laws.proofs.Ids.{MemSlot}

abbrev pub plain : SlotView → SlotView
plain s = record s { invalid = false }

abbrev pub plain_one : Option SlotView → Option SlotView
plain_one None = None
plain_one (Some s) = Some (plain s)

abbrev pub aside : List SlotView → List SlotView
aside [] = []
aside (s ∷ slots) = plain s ∷ aside slots

abbrev pub flat_aside : Flat → Flat
flat_aside f = record f { slots = aside f.slots }

-- what effects make of them
pub aside-marked : (id : ℕ) (rs : List SlotView) → aside (marked id rs) ≡ aside rs
aside-marked id [] = refl
aside-marked id (r ∷ rs) = go (eqb r.id id) (aside-marked id rs)
  where
    go : (t : Bool) → aside (marked id rs) ≡ aside rs → aside (cond t (record r { invalid = true } ∷ rs) (r ∷ marked id rs)) ≡ plain r ∷ aside rs
    go true ih = refl
    go false ih = ap (λ (l : List SlotView). plain r ∷ l) ih

pub aside-dropped : (id : ℕ) (rs : List SlotView) → aside (dropped id rs) ≡ dropped id (aside rs)
aside-dropped id [] = refl
aside-dropped id (r ∷ rs) = go (eqb r.id id) (aside-dropped id rs)
  where
    go : (t : Bool) → aside (dropped id rs) ≡ dropped id (aside rs) → aside (cond t rs (r ∷ dropped id rs)) ≡ cond t (aside rs) (plain r ∷ dropped id (aside rs))
    go true ih = refl
    go false ih = ap (λ (l : List SlotView). plain r ∷ l) ih

pub aside-moved : (id base : ℕ) (rs : List SlotView) → aside (moved id base rs) ≡ moved id base (aside rs)
aside-moved id base [] = refl
aside-moved id base (r ∷ rs) = go (eqb r.id id) (aside-moved id base rs)
  where
    go : (t : Bool) → aside (moved id base rs) ≡ moved id base (aside rs) → aside (cond t (record r { base = base; invalid = false } ∷ rs) (r ∷ moved id base rs)) ≡ cond t (record (plain r) { base = base; invalid = false } ∷ aside rs) (plain r ∷ moved id base (aside rs))
    go true ih = refl
    go false ih = ap (λ (l : List SlotView). plain r ∷ l) ih

pub aside-shut : (F : ℕ) (rs : List SlotView) → aside (shut_slots F rs) ≡ shut_slots F (aside rs)
aside-shut F [] = refl
aside-shut F (r ∷ rs) = ap (λ (l : List SlotView). plain (shut_slot F r) ∷ l) (aside-shut F rs)

-- look-ups
pub with_id-aside : (id : ℕ) (rs : List SlotView) → with_id id (aside rs) ≡ plain_one (with_id id rs)
with_id-aside id [] = refl
with_id-aside id (r ∷ rs) = go (eqb r.id id) (with_id-aside id rs)
  where
    go : (t : Bool) → with_id id (aside rs) ≡ plain_one (with_id id rs) → cond t (Some (plain r)) (with_id id (aside rs)) ≡ plain_one (cond t (Some r) (with_id id rs))
    go true ih = refl
    go false ih = ih

pub over-aside : (g : ℕ) (rs : List SlotView) → over g (aside rs) ≡ plain_one (over g rs)
over-aside g [] = refl
over-aside g (r ∷ rs) = go (lies_over r g) (over-aside g rs)
  where
    go : (t : Bool) → over g (aside rs) ≡ plain_one (over g rs) → cond t (Some (plain r)) (over g (aside rs)) ≡ plain_one (cond t (Some r) (over g rs))
    go true ih = refl
    go false ih = ih

pub none_plain : (o : Option SlotView) → plain_one o ≡ None → o ≡ None
none_plain None e = refl
none_plain (Some r) e = absurd (cc (e))

pub over_none : (g : ℕ) (rs : List SlotView) → over g (aside rs) ≡ None → over g rs ≡ None
over_none g rs e = none_plain (over g rs) (sym (over-aside g rs) ∙ e)

pub MemSlot-aside : (r : SlotView) (rs : List SlotView) → MemSlot r rs → MemSlot (plain r) (aside rs)
MemSlot-aside r [] m = absurd m
MemSlot-aside r (x ∷ xs) m = elim m [ inl e ↦ inl (ap plain e) | inr k ↦ inr (MemSlot-aside r xs k) ]

pub file_aside : (F id : ℕ) (rs : List SlotView) → of_file F (file_of (with_id id (aside rs))) ≡ of_file F (file_of (with_id id rs))
file_aside F id rs = ap (λ (o : Option SlotView). of_file F (file_of o)) (with_id-aside id rs) ∙ go (with_id id rs)
  where
    go : (o : Option SlotView) → of_file F (file_of (plain_one o)) ≡ of_file F (file_of o)
    go None = refl
    go (Some r) = refl

file_over : (F g : ℕ) (rs : List SlotView) → of_file F (file_of (over g (aside rs))) ≡ of_file F (file_of (over g rs))
file_over F g rs = ap (λ (o : Option SlotView). of_file F (file_of o)) (over-aside g rs) ∙ go (over g rs)
  where
    go : (o : Option SlotView) → of_file F (file_of (plain_one o)) ≡ of_file F (file_of o)
    go None = refl
    go (Some r) = refl

pub in_slot-aside : (g id : ℕ) (rs : List SlotView) → in_slot g (with_id id (aside rs)) ≡ in_slot g (with_id id rs)
in_slot-aside g id rs = ap (in_slot g) (with_id-aside id rs) ∙ go (with_id id rs)
  where
    go : (o : Option SlotView) → in_slot g (plain_one o) ≡ in_slot g o
    go None = refl
    go (Some r) = refl

-- tests over all slots
pub meets_slot-aside : (base n : ℕ) (rs : List SlotView) → meets_slot base n (aside rs) ≡ meets_slot base n rs
meets_slot-aside base n [] = refl
meets_slot-aside base n (r ∷ rs) = ap (λ (t : Bool). meets (record { lo = base; hi = base + n }) (slot_span r) || t) (meets_slot-aside base n rs)

meets_bound-aside : (F index n : ℕ) (rs : List SlotView) → meets_bound F index n (aside rs) ≡ meets_bound F index n rs
meets_bound-aside F index n [] = refl
meets_bound-aside F index n (r ∷ rs) = ap (λ (t : Bool). (of_file F r.file && meets (record { lo = index; hi = index + n }) (bound_range r)) || t) (meets_bound-aside F index n rs)

pub others-aside : (id base n : ℕ) (rs : List SlotView) → meets_slot base n (dropped id (aside rs)) ≡ meets_slot base n (dropped id rs)
others-aside id base n rs = ap (meets_slot base n) (sym (aside-dropped id rs)) ∙ meets_slot-aside base n (dropped id rs)

-- the slots of a file
put-aside : (s : SlotView) (rs : List SlotView) → put_by_index (plain s) (aside rs) ≡ aside (put_by_index s rs)
put-aside s [] = refl
put-aside s (r ∷ rs) = go (leb s.index r.index) (put-aside s rs)
  where
    go : (t : Bool) → put_by_index (plain s) (aside rs) ≡ aside (put_by_index s rs) → cond t (plain s ∷ plain r ∷ aside rs) (plain r ∷ put_by_index (plain s) (aside rs)) ≡ aside (cond t (s ∷ r ∷ rs) (r ∷ put_by_index s rs))
    go true ih = refl
    go false ih = ap (λ (l : List SlotView). plain r ∷ l) ih

of_file-aside : (F : ℕ) (rs : List SlotView) → slots_of_file F (aside rs) ≡ aside (slots_of_file F rs)
of_file-aside F [] = refl
of_file-aside F (r ∷ rs) = go (of_file F r.file) (of_file-aside F rs)
  where
    go : (t : Bool) → slots_of_file F (aside rs) ≡ aside (slots_of_file F rs) → cond t (put_by_index (plain r) (slots_of_file F (aside rs))) (slots_of_file F (aside rs)) ≡ aside (cond t (put_by_index r (slots_of_file F rs)) (slots_of_file F rs))
    go true ih = ap (put_by_index (plain r)) ih ∙ put-aside r (slots_of_file F rs)
    go false ih = ih

parts-aside : (lo hi : ℕ) (rs : List SlotView) → part_spans lo hi (aside rs) ≡ part_spans lo hi rs
parts-aside lo hi [] = refl
parts-aside lo hi (r ∷ rs) = ap (λ (l : List Extent). cond (meets (bound_range r) (record { lo = lo; hi = hi })) (part_span lo hi r ∷ l) l) (parts-aside lo hi rs)

wholes-aside : (rs : List SlotView) → whole_spans (aside rs) ≡ whole_spans rs
wholes-aside [] = refl
wholes-aside (r ∷ rs) = ap (λ (l : List Extent). slot_span r ∷ l) (wholes-aside rs)

-- plans
make-aside : (r : Region) (f : Flat) → make_plan r (flat_aside f) ≡ make_plan r f
make-aside r f =
    ap (λ (t : Bool). rest t (meets_bound r.fd (page_of r.offset) (page_of r.size) (aside f.slots))) (meets_slot-aside (page_of r.gpa) (page_of r.size) f.slots)
    ∙ ap (rest (meets_slot (page_of r.gpa) (page_of r.size) f.slots)) (meets_bound-aside r.fd (page_of r.offset) (page_of r.size) f.slots)
  where
    rest : Bool → Bool → Plan
    rest t u =
        cond t (Refused Exist) (cond (wants_file r && not (in_use r.fd f.files)) (Refused BadF) (cond (wants_file r && ltb (PAGE_BYTES * file_pages r.fd f.files) (r.offset + r.size)) (Refused Inval) (cond (wants_file r && u) (Refused Inval) (Short (new_slot r (wants_file r)) 0))))

old-aside : (r : Region) (f : Flat) (s : SlotView) → old_plan r (flat_aside f) (plain s) ≡ old_plan r f s
old-aside r f s = ap rest (others-aside r.slot (page_of r.gpa) (page_of r.size) f.slots)
  where
    rest : Bool → Plan
    rest t =
        cond (eqb r.size 0) (Bracketed (NoSlot r.slot) (slot_span s ∷ [])) (cond (has_memfd s || wants_file r) (Refused Inval) (cond (differs r s) (Refused Inval) (cond (eqb s.base (page_of r.gpa)) (Same 0) (cond t (Refused Exist) (Bracketed (Move r.slot (page_of r.gpa)) (slot_span s ∷ []))))))

slot-aside : (r : Region) (f : Flat) (o : Option SlotView) → slot_plan r (flat_aside f) (plain_one o) ≡ slot_plan r f o
slot-aside r f None = ap (λ (p : Plan). cond (eqb r.size 0) (Refused Inval) p) (make-aside r f)
slot-aside r f (Some s) = old-aside r f s

region-aside : (s : Setup) (r : Region) (f : Flat) → region_plan s r (flat_aside f) ≡ region_plan s r f
region-aside s r f = ap rest (ap (slot_plan r (flat_aside f)) (with_id-aside r.slot f.slots) ∙ slot-aside r f (with_id r.slot f.slots))
  where
    rest : Plan → Plan
    rest p =
        cond (not (eqb r.flags 0 || (eqb r.flags KVM_MEM_READONLY || eqb r.flags KVM_MEM_GUEST_MEMFD))) (Refused Inval) (cond (not (is_paged r.size && (is_paged r.gpa && is_paged r.user)) || (wants_file r && not (is_paged r.offset))) (Refused Inval) (cond (leb U64_LIMIT (r.gpa + r.size) || (wants_file r && leb U64_LIMIT (r.offset + r.size))) (Refused Inval) (cond (ltb (user_bytes s) (r.user + r.size)) (Refused Inval) (cond (leb SLOT_IDS r.slot) (Refused Inval) p))))

file_populate-aside : (s : Setup) (page pages user : ℕ) (r : SlotView) (o : Option ℕ) → file_populate s page pages user (plain r) o ≡ file_populate s page pages user r o
file_populate-aside s page pages user r None = refl
file_populate-aside s page pages user r (Some F) = refl

populate-aside : (s : Setup) (page pages user : ℕ) (o : Option SlotView) → slot_populate s page pages user (plain_one o) ≡ slot_populate s page pages user o
populate-aside s page pages user None = refl
populate-aside s page pages user (Some r) = ap (λ (p : Plan). cond (has_memfd r) p (Refused Inval)) (file_populate-aside s page pages user r r.file)

pub plan_aside : (s : Setup) (i : Ioctl) (f : Flat) → plan s i (flat_aside f) ≡ plan s i f
plan_aside s (Region2 r) f = region-aside s r f
plan_aside s (Punch fd offset n) f =
    ap (λ (l : List Extent). cond (bad_range offset n) (Refused Inval) (cond (not (in_use fd f.files)) (Refused BadF) (Bracketed (Cut fd (page_of offset) (page_of (offset + n))) l)))
    (ap (part_spans (page_of offset) (page_of (offset + n))) (of_file-aside fd f.slots) ∙ parts-aside (page_of offset) (page_of (offset + n)) (slots_of_file fd f.slots))
plan_aside s (Close fd) f =
    ap (λ (l : List Extent). cond (in_use fd f.files) (Bracketed (Shut fd) l) (Refused BadF))
    (ap whole_spans (of_file-aside fd f.slots) ∙ wholes-aside (slots_of_file fd f.slots))
plan_aside s (Populate gpa pages user) f =
    ap (λ (p : Plan). cond (not (is_paged gpa && is_paged user) || eqb pages 0) (Refused Inval) p)
    (ap (slot_populate s (page_of gpa) pages user) (over-aside (page_of gpa) f.slots) ∙ populate-aside s (page_of gpa) pages user (over (page_of gpa) f.slots))
plan_aside s (Create size flags) f = refl
plan_aside s (Attrs address size attributes flags) f = refl
plan_aside s (Allocate fd offset n) f = refl
plan_aside s (Poke address value) f = refl
plan_aside s (Peek address) f = refl

-- locks
takes_file-aside : (F : ℕ) (i : Ioctl) (f : Flat) → takes_file F i (flat_aside f) ≡ takes_file F i f
takes_file-aside F (Region2 r) f = ap (λ (t : Bool). (wants_file r && eqb r.fd F) || t) (file_aside F r.slot f.slots)
takes_file-aside F (Populate gpa pages user) f = file_over F (page_of gpa) f.slots
takes_file-aside F (Create size flags) f = refl
takes_file-aside F (Attrs address size attributes flags) f = refl
takes_file-aside F (Punch fd offset n) f = refl
takes_file-aside F (Allocate fd offset n) f = refl
takes_file-aside F (Close fd) f = refl
takes_file-aside F (Poke address value) f = refl
takes_file-aside F (Peek address) f = refl

pub takes_aside : (lock : Lock) (i : Ioctl) (f : Flat) → takes lock i (flat_aside f) ≡ takes lock i f
takes_aside SlotsLock i f = refl
takes_aside (FileLock F) i f = ap (λ (t : Bool). t && in_use F f.files) (takes_file-aside F i f)

-- what an effect is on
pub on_aside : (e : Effect) (f : Flat) (g : ℕ) → is_on e (flat_aside f) g ≡ is_on e f g
on_aside (NoSlot id) f g = in_slot-aside g id f.slots
on_aside (Move id base) f g = ap (in_old_or_new g base) (with_id-aside id f.slots) ∙ go (with_id id f.slots)
  where
    go : (o : Option SlotView) → in_old_or_new g base (plain_one o) ≡ in_old_or_new g base o
    go None = refl
    go (Some r) = refl
on_aside (Cut F lo hi) f g = ap (in_cut F lo hi g) (over-aside g f.slots) ∙ go (over g f.slots)
  where
    go : (o : Option SlotView) → in_cut F lo hi g (plain_one o) ≡ in_cut F lo hi g o
    go None = refl
    go (Some r) = refl
on_aside (Shut F) f g = ap (has_file F) (over-aside g f.slots) ∙ go (over g f.slots)
  where
    go : (o : Option SlotView) → has_file F (plain_one o) ≡ has_file F o
    go None = refl
    go (Some r) = refl
on_aside (Slot id base pages user flags file index) f g = refl
on_aside (Mark id) f g = refl
on_aside (Attr span kind) f g = refl
on_aside (File file pages block) f g = refl
on_aside (Word page word value) f g = refl
