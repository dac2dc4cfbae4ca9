-- Over states that agree on what a call's locks guard, a row that goes on is the same.
use Rattle.std.proofs.Common.{◌&&◌, ◌*◌, ◌+◌, leb, ltb, Bool, List, None, Option, Some, [], ap, cond, eq-eqb, eqb, false, inl, inr, length, not, refl, subst, sym, true, ℕ, ◌∙◌, ◌∷◌, ◌≡◌, ◌||◌}
use Rattle.std.proofs.lemmas.Bool.{and_from}
use Rattle.gm_base.specs.Scripts.{Orders}
use Rattle.gm_base.specs.declared.calls.Ioctl.{Ioctl}
use Rattle.gm_base.specs.declared.calls.Ioctl.TheVariants.{Allocate, Attrs, Close, Create, Peek, Poke, Populate, Punch, Region2}
use Rattle.gm_base.specs.declared.calls.Region.{Region}
use Rattle.gm_base.specs.declared.numbers.TheConstants.{KVM_MEM_GUEST_MEMFD, KVM_MEM_READONLY, SLOT_IDS, BLOCK, PAGE_BYTES}
use Rattle.gm_base.specs.declared.values.Errno.TheVariants.{BadF, Exist, Inval}
use Rattle.gm_base.specs.declared.values.Setup.{Setup}
use Rattle.gm_flat.specs.Calls.{OFFSET_LIMIT, Plan, Reads, Refused, Short, allocate_plan, bad_range, bad_word, close_plan, file_pages, is_paged, make_plan, meets_bound, meets_slot, new_slot, old_plan, page_of, plan, punch_plan, put_by_index, region_plan, slot_plan, slots_of_file, user_bytes, wants_file, word_in}
use Rattle.gm_flat.specs.Effects.{U64_LIMIT}
use Rattle.gm_flat.specs.FlatState.{AttrCall, Flat, in_use}
use Rattle.gm_flat.specs.Histories.{Call, call}
use Rattle.gm_flat.specs.Locks.{FileLock, SlotsLock, takes, takes_slots}
use Rattle.gm_flat.specs.Replay.{flat, flat_at}
use Rattle.gm_flat.specs.RightHistory.{Right}
use Rattle.gm_flat.specs.RightLives.{plan_of}
use Rattle.gm_flat.specs.declared.effect.Effect.TheVariants.{File, Word}
use Rattle.gm_flat.specs.declared.entry.Entry.{Entry}
use Rattle.gm_flat.specs.declared.views.SlotView.{SlotView}
use Rattle.gm_laws.proofs.Aside.{aside, flat_aside, plan_aside, takes_aside}
use Rattle.gm_laws.proofs.Flats.{of_file, with_id}
use Rattle.gm_laws.proofs.Fronts.{front_follows}
use Rattle.gm_laws.proofs.JudgedRows.{SameFile, attrs_seen, file_seen, sees}
use Rattle.gm_laws.proofs.Locks.{bound}
use Rattle.gm_laws.proofs.OpenCalls.{judged_front, judged_whole, open_or}
use Rattle.gm_laws.proofs.Prefix.{IsBegun, begun_back, whole_begun}
use Rattle.gm_laws.proofs.RightIsRuled.{ruled}
use Rattle.gm_laws.proofs.RuledIsRight.{right_order}
use Rattle.gm_laws.proofs.Touches.{locks}
use Rattle.gm_laws.specs.JudgedRows.{CallsGoOn, GoesOn, SeesItsRow}
use Rattle.gm_laws.specs.Ruled.{Follows}
use Rattle.gm_laws.specs.Stands.{Stands}

-- what a call with these locks sees of a state beside the one of its Judge
pub record SeesLocked (i : Ioctl) (f h : Flat) : Type 0 where
  pub slots : takes_slots i ≡ true → f.slots ≡ h.slots
  pub attrs : takes_slots i ≡ true → f.attrs ≡ h.attrs
  pub file : (F : ℕ) → takes (FileLock F) i h ≡ true → SameFile F f h
  pub bound_same : (F : ℕ) → takes (FileLock F) i h ≡ true → bound F f.slots ≡ bound F h.slots

-- the slots of a file are those that are bound to it
of_bound : (F : ℕ) (rs : List SlotView) → slots_of_file F (bound F rs) ≡ slots_of_file F rs
of_bound F [] = refl
of_bound F (r ∷ rs) = go (of_file F r.file) refl (of_bound F rs)
  where
    go : (t : Bool) → of_file F r.file ≡ t → slots_of_file F (bound F rs) ≡ slots_of_file F rs → slots_of_file F (cond t (r ∷ bound F rs) (bound F rs)) ≡ cond t (put_by_index r (slots_of_file F rs)) (slots_of_file F rs)
    go true e ih = rw e (ap (put_by_index r) ih)
    go false e ih = ih

-- a test that is made alike over both states
cond_same : (t : Bool) (p q r : Plan) → (GoesOn p → ⊥) → (GoesOn r → q ≡ r) → GoesOn (cond t p r) → cond t p q ≡ cond t p r
cond_same true p q r n h g = absurd (n g)
cond_same false p q r n h g = h g

cond_ends : (t : Bool) (p q : Plan) → (GoesOn p → ⊥) → (GoesOn q → ⊥) → GoesOn (cond t p q) → ⊥
cond_ends true p q a b g = a g
cond_ends false p q a b g = b g

-- a row that doesn't go on is none of these
new_ends : (r : Region) (t : Bool) → GoesOn (Short (new_slot r t) 0) → ⊥
new_ends r t g = g

make_ends : (r : Region) (f : Flat) → GoesOn (make_plan r f) → ⊥
make_ends r f =
    cond_ends (meets_slot (page_of r.gpa) (page_of r.size) f.slots) (Refused Exist) _ (λ g. g)
    (cond_ends (wants_file r && not (in_use r.fd f.files)) (Refused BadF) _ (λ g. g)
    (cond_ends (wants_file r && ltb (PAGE_BYTES * file_pages r.fd f.files) (r.offset + r.size)) (Refused Inval) _ (λ g. g)
    (cond_ends (wants_file r && meets_bound r.fd (page_of r.offset) (page_of r.size) f.slots) (Refused Inval) (Short (new_slot r (wants_file r)) 0) (λ g. g) (λ g. g))))

slot_same : (r : Region) (f h : Flat) (o : Option SlotView) → f.slots ≡ h.slots → GoesOn (slot_plan r h o) → slot_plan r f o ≡ slot_plan r h o
slot_same r f h None e = cond_same (eqb r.size 0) (Refused Inval) (make_plan r f) (make_plan r h) (λ g. g) (λ g. absurd (make_ends r h g))
slot_same r f h (Some s) e = λ g. ap (λ (rs : List SlotView). old_plan r (record f { slots = rs }) s) e

region_same : (s : Setup) (r : Region) (f h : Flat) → f.slots ≡ h.slots → GoesOn (region_plan s r h) → region_plan s r f ≡ region_plan s r h
region_same s r f h e =
    cond_same (not (eqb r.flags 0 || (eqb r.flags KVM_MEM_READONLY || eqb r.flags KVM_MEM_GUEST_MEMFD))) (Refused Inval) _ _ (λ g. g)
    (cond_same (not (is_paged r.size && (is_paged r.gpa && is_paged r.user)) || (wants_file r && not (is_paged r.offset))) (Refused Inval) _ _ (λ g. g)
    (cond_same (leb U64_LIMIT (r.gpa + r.size) || (wants_file r && leb U64_LIMIT (r.offset + r.size))) (Refused Inval) _ _ (λ g. g)
    (cond_same (ltb (user_bytes s) (r.user + r.size)) (Refused Inval) _ _ (λ g. g)
    (cond_same (leb SLOT_IDS r.slot) (Refused Inval) (slot_plan r f (with_id r.slot f.slots)) (slot_plan r h (with_id r.slot h.slots)) (λ g. g)
    (λ g. ap (λ (rs : List SlotView). slot_plan r f (with_id r.slot rs)) e ∙ slot_same r f h (with_id r.slot h.slots) e g)))))

-- the file that a row which goes on names is in use at the Judge
in_use_then : (t : Bool) (q : Plan) → GoesOn (cond (not t) (Refused BadF) q) → t ≡ true
in_use_then true q g = refl
in_use_then false q g = absurd g

after_test : (t : Bool) (q : Plan) → GoesOn (cond t (Refused Inval) q) → GoesOn q
after_test true q g = absurd g
after_test false q g = g

close_used : (t : Bool) (p : Plan) → GoesOn (cond t p (Refused BadF)) → t ≡ true
close_used true p g = refl
close_used false p g = absurd g

named_file : (fd : ℕ) (h : Flat) → in_use fd h.files ≡ true → (eqb fd fd && in_use fd h.files) ≡ true
named_file fd h u = and_from (eqb fd fd) (in_use fd h.files) (eq-eqb fd fd refl) u

punch_same : (fd offset n : ℕ) (f h : Flat) → SeesLocked (Punch fd offset n) f h → GoesOn (punch_plan fd offset n h) → punch_plan fd offset n f ≡ punch_plan fd offset n h
punch_same fd offset n f h s g =
    let u : in_use fd h.files ≡ true = in_use_then (in_use fd h.files) _ (after_test (bad_range offset n) _ g) in
    let v : in_use fd f.files ≡ true = (s.file fd (named_file fd h u)).0 in
    let b : slots_of_file fd f.slots ≡ slots_of_file fd h.slots = sym (of_bound fd f.slots) ∙ (ap (slots_of_file fd) (s.bound_same fd (named_file fd h u)) ∙ of_bound fd h.slots) in
    rw (u, v, b) refl

allocate_same : (fd offset n : ℕ) (f h : Flat) → SeesLocked (Allocate fd offset n) f h → GoesOn (allocate_plan fd offset n h) → allocate_plan fd offset n f ≡ allocate_plan fd offset n h
allocate_same fd offset n f h s g =
    let u : in_use fd h.files ≡ true = in_use_then (in_use fd h.files) _ (after_test (bad_range offset n) _ g) in
    let w = s.file fd (named_file fd h u) in
    let v : in_use fd f.files ≡ true = w.0 in
    let p : file_pages fd f.files ≡ file_pages fd h.files = w.1 in
    rw (u, v, p) refl

close_same : (fd : ℕ) (f h : Flat) → SeesLocked (Close fd) f h → GoesOn (close_plan fd h) → close_plan fd f ≡ close_plan fd h
close_same fd f h s g =
    let u : in_use fd h.files ≡ true = close_used (in_use fd h.files) _ g in
    let v : in_use fd f.files ≡ true = (s.file fd (named_file fd h u)).0 in
    let b : f.slots ≡ h.slots = s.slots refl in
    rw (u, v, b) refl

same_row : (s : Setup) (i : Ioctl) (f h : Flat) → SeesLocked i f h → GoesOn (plan s i h) → plan s i f ≡ plan s i h
same_row s (Create size flags) f h k g = absurd (cond_ends (eqb size 0 || (leb OFFSET_LIMIT size || not (is_paged size))) (Refused Inval) _ (λ g. g) (cond_ends (not (eqb flags 0 || eqb flags BLOCK)) (Refused Inval) (Short (File (length h.files) (page_of size) (eqb flags BLOCK)) (length h.files)) (λ g. g) (λ g. g)) g)
same_row s (Region2 r) f h k g = region_same s r f h (k.slots refl) g
same_row s (Attrs address size attributes flags) f h k g = ap (λ (calls : List AttrCall). plan s (Attrs address size attributes flags) (record f { attrs = calls })) (k.attrs refl)
same_row s (Punch fd offset n) f h k g = punch_same fd offset n f h k g
same_row s (Allocate fd offset n) f h k g = allocate_same fd offset n f h k g
same_row s (Close fd) f h k g = close_same fd f h k g
same_row s (Populate gpa pages user) f h k g = ap (λ (rs : List SlotView). plan s (Populate gpa pages user) (record f { slots = rs })) (k.slots refl)
same_row s (Poke address value) f h k g = absurd (cond_ends (bad_word s address) (Refused Inval) (Short (Word (page_of address) (word_in address) value) 0) (λ g. g) (λ g. g) g)
same_row s (Peek address) f h k g = absurd (cond_ends (bad_word s address) (Refused Inval) (Reads (page_of address) (word_in address)) (λ g. g) (λ g. g) g)

-- with marks left aside, at which no row looks
record SeesAside (i : Ioctl) (f h : Flat) : Type 0 where
  slots : takes_slots i ≡ true → aside f.slots ≡ aside h.slots
  attrs : takes_slots i ≡ true → f.attrs ≡ h.attrs
  file : (F : ℕ) → takes (FileLock F) i h ≡ true → SameFile F f h
  bound_same : (F : ℕ) → takes (FileLock F) i h ≡ true → bound F (aside f.slots) ≡ bound F (aside h.slots)

row_same : (s : Setup) (i : Ioctl) (f h : Flat) → SeesAside i f h → GoesOn (plan s i h) → plan s i f ≡ plan s i h
row_same s i f h k g =
    let there : (F : ℕ) → takes (FileLock F) i (flat_aside h) ≡ true → takes (FileLock F) i h ≡ true = λ F t. sym (takes_aside (FileLock F) i h) ∙ t in
    sym (plan_aside s i f)
    ∙ (same_row s i (flat_aside f) (flat_aside h)
    (record { slots = k.slots; attrs = k.attrs; file = λ F t. k.file F (there F t); bound_same = λ F t. k.bound_same F (there F t) })
    (subst GoesOn (sym (plan_aside s i h)) g)
    ∙ plan_aside s i h)

goes_on-same : (o : Orders) (past : List Entry) → Follows o past → (c : ℕ) (x : Call) → call c past ≡ Some x → x.made ≡ false → GoesOn (plan_of o.setup x past) → plan o.setup x.ioctl (flat past) ≡ plan_of o.setup x past
goes_on-same o past r c x ec made g =
    let k = locks o past r in
    row_same o.setup x.ioctl (flat past) (flat_at x.judged past)
    (record {
      slots = λ t. k.slots_same c x ec made t;
      attrs = λ t. sees _ SlotsLock attrs_seen o past r c x ec made t;
      file = λ F t. sees _ (FileLock F) (file_seen F) o past r c x ec made t;
      bound_same = λ F t. k.bound_same c F x ec made t;
    })
    g

sees_row : (o : Orders) (past : List Entry) → Follows o past → IsBegun o.setup past → SeesItsRow o.setup past
sees_row o past r b c x ec made =
    elim (open_or o past r c x ec) [
      | inl g ↦ goes_on-same o past r c x ec made g
      | inr j ↦ elim (judged_front o.setup c x past b j) [
        | inl g ↦ goes_on-same o past r c x ec made g
        | inr n ↦ ap (λ (f : Flat). plan o.setup x.ioctl f) ((locks o past r).at_once c x ec (n made))
      ]
    ]

-- each front of a right history begins a row
begun_then : (o : Orders) (e : Entry) (before past : List Entry) → Stands e before past → Follows o past → IsBegun o.setup past → IsBegun o.setup before
begun_then o e before [] s r b = absurd s
begun_then o e before (d ∷ past) (inl s) r b = subst (λ (p : List Entry). IsBegun o.setup p) s.1 (begun_back o d past (right_order o d past r.0) b)
begun_then o e before (d ∷ past) (inr s) r b = begun_then o e before past s r.1 (begun_back o d past (right_order o d past r.0) b)

pub sees_row-now : (o : Orders) (past : List Entry) → Right o past → SeesItsRow o.setup past
sees_row-now o past r = let u = ruled o past r in sees_row o past u.follows (whole_begun o.setup past u.row)

pub sees_row-then : (o : Orders) (e : Entry) (before past : List Entry) → Right o past → Stands e before past → SeesItsRow o.setup before
sees_row-then o e before past r s =
    let u = ruled o past r in
    sees_row o before (front_follows o e before past s u.follows).1 (begun_then o e before past s u.follows (whole_begun o.setup past u.row))

pub calls_go_on : (o : Orders) (past : List Entry) → Right o past → CallsGoOn o.setup past
calls_go_on o past r c x ec =
    let u = ruled o past r in
    elim (open_or o past u.follows c x ec) [
      | inl g ↦ g
      | inr j ↦ judged_whole o.setup c x past u.row j
    ]
