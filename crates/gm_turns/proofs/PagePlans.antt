-- What the plan of a call that adds pages says of its file, its range and what is copied.
use Rattle.std.proofs.Common.{◌≡◌, ℕ, ◌+◌, ◌-◌, ◌*◌, ◌/◌, ◌≤◌, ◌&&◌, ◌||◌, not, List, [], ◌∷◌, Bool, true, false, min, Option, Some, None, arith, refl, cond, eqb, leb, ltb, subst, sym}
use Rattle.std.proofs.lemmas.Bool.{both_ways, eq-eqb}
use Rattle.std.proofs.lemmas.Bool.Decides.{nat_tests}
use Rattle.gm_base.specs.declared.calls.Ioctl.{Ioctl}
use Rattle.gm_base.specs.declared.calls.Ioctl.TheVariants.{Create, Region2, Attrs, Punch, Allocate, Close, Populate, Poke, Peek}
use Rattle.gm_base.specs.declared.calls.Region.{Region}
use Rattle.gm_base.specs.declared.numbers.TheConstants.{PAGE_BYTES, PAGE_LIMIT}
use Rattle.gm_base.specs.declared.values.Errno.{Errno}
use Rattle.gm_base.specs.declared.values.Errno.TheVariants.{BadF, Exist, Inval}
use Rattle.gm_base.specs.declared.values.Setup.{Setup}
use Rattle.gm_flat.specs.Calls.{PagePlan as Planned, Plan, Refused, Same, Short, Bracketed, Paged, all_have, cut_at_end, differs, file_pages, file_populate, has_memfd, kind_of, make_plan, meets_bound, meets_slot, new_slot, old_plan, page_of, plan, slot_plan, slot_populate, slots_of_file, user_bytes, wants_file, whole_spans}
use Rattle.gm_flat.specs.Effects.{dropped, source}
use Rattle.gm_flat.specs.FlatState.{Flat, in_use}
use Rattle.gm_flat.specs.Slots.{index_of, is_file, lies_over, slot_by_id, slot_over, slot_span}
use Rattle.gm_flat.specs.declared.effect.Effect.TheVariants.{Move, NoSlot, Shut}
use Rattle.gm_flat.specs.declared.views.SlotView.{SlotView}
use Rattle.gm_ioctl.proofs.Refusals.{passed_plan, refused_plan}
use Rattle.gm_ioctl.specs.Arguments.{argument_refusal}
use Rattle.gm_ioctl.specs.Remaining.{state_plan}
use Rattle.gm_laws.specs.BoundRanges.{BoundRanges, IsInsideFile}
use Rattle.gm_laws.specs.SlotsStand.{AllOf, SlotsStand}
use Rattle.gm_state.specs.Stand.{IsBounded}

-- an allocation adds to its file and copies nothing; a population has guest pages, and copies user pages of the machine
abbrev pub CopyFits : ℕ → Planned → Ioctl → Option ℕ → Option ℕ → Type 0
CopyFits user p i None None = (index : ℕ) (slots : List SlotView) → source i index slots ≡ Some (record { file = p.file; copy = None })
CopyFits user p i (Some base) (Some from) = (base + p.pages ≤ PAGE_LIMIT) × (from + p.pages ≤ user)
CopyFits user p i base copy = ⊥

-- the file is in use and has the range
pub record PagesFit (s : Setup) (p : Planned) (i : Ioctl) (f : Flat) : Type 0 where
  pub used : in_use p.file f.files ≡ true
  pub inside : p.index + p.pages ≤ file_pages p.file f.files
  pub copy_fits : CopyFits s.user p i p.base p.copy

abbrev Fit : Setup → Ioctl → Flat → Plan → Type 0
Fit s i f (Paged p) = PagesFit s p i f
Fit s i f _ = Unit {0}

-- what the flat state promises of its slots
pub record SlotsFit (user : ℕ) (f : Flat) : Type 0 where
  pub ranges : BoundRanges f
  pub slots : SlotsStand f
  pub bounded : AllOf (IsBounded user) f.slots

by_cond : (s : Setup) (i : Ioctl) (f : Flat) (t : Bool) (p q : Plan) → (t ≡ true → Fit s i f p) → (t ≡ false → Fit s i f q) → Fit s i f (cond t p q)
by_cond s i f true p q a b = a refl
by_cond s i f false p q a b = b refl

-- a slot that is found over a page
over_page : (P : SlotView → Type 0) (slots : List SlotView) (page : ℕ) (q : SlotView) → slot_over slots page ≡ Some q → AllOf P slots → P q × (lies_over q page ≡ true)
over_page P [] page q e a = absurd (cc)
over_page P (x ∷ slots) page q e a = go (lies_over x page) refl e (over_page P slots page q)
  where
    go : (t : Bool) → lies_over x page ≡ t → cond t (Some x) (slot_over slots page) ≡ Some q → (slot_over slots page ≡ Some q → AllOf P slots → P q × (lies_over q page ≡ true)) → P q × (lies_over q page ≡ true)
    go true l e ih = let p : x ≡ q = cc in subst (λ (y : SlotView). P y × (lies_over y page ≡ true)) p (a.0, l)
    go false l e ih = ih e a.1

-- the others don't add pages

make_fits : (s : Setup) (r : Region) (f : Flat) → Fit s (Region2 r) f (make_plan r f)
make_fits s r f =
    by_cond s (Region2 r) f (meets_slot (page_of r.gpa) (page_of r.size) f.slots) (Refused Exist) _ (λ _. tt)
    (λ m. by_cond s (Region2 r) f (wants_file r && not (in_use r.fd f.files)) (Refused BadF) _ (λ _. tt)
    (λ u. by_cond s (Region2 r) f (wants_file r && ltb (PAGE_BYTES * file_pages r.fd f.files) (r.offset + r.size)) (Refused Inval) _ (λ _. tt)
    (λ l. by_cond s (Region2 r) f (wants_file r && meets_bound r.fd (page_of r.offset) (page_of r.size) f.slots) (Refused Inval) (Short (new_slot r (wants_file r)) 0) (λ _. tt) (λ _. tt))))

old_fits : (s : Setup) (r : Region) (f : Flat) (t : SlotView) → Fit s (Region2 r) f (old_plan r f t)
old_fits s r f t =
    by_cond s (Region2 r) f (eqb r.size 0) (Bracketed (NoSlot r.slot) (slot_span t ∷ [])) _ (λ _. tt)
    (λ z. by_cond s (Region2 r) f (has_memfd t || wants_file r) (Refused Inval) _ (λ _. tt)
    (λ n. by_cond s (Region2 r) f (differs r t) (Refused Inval) _ (λ _. tt)
    (λ p. by_cond s (Region2 r) f (eqb t.base (page_of r.gpa)) (Same 0) _ (λ _. tt)
    (λ b. by_cond s (Region2 r) f (meets_slot (page_of r.gpa) (page_of r.size) (dropped r.slot f.slots)) (Refused Exist) (Bracketed (Move r.slot (page_of r.gpa)) (slot_span t ∷ [])) (λ _. tt) (λ _. tt)))))

slot_fits : (s : Setup) (r : Region) (f : Flat) (o : Option SlotView) → Fit s (Region2 r) f (slot_plan r f o)
slot_fits s r f None = by_cond s (Region2 r) f (eqb r.size 0) (Refused Inval) (make_plan r f) (λ _. tt) (λ z. make_fits s r f)
slot_fits s r f (Some t) = old_fits s r f t

-- an allocation

is_true : (t : Bool) → not t ≡ false → t ≡ true
is_true true h = refl
is_true false h = absurd (both_ways true h refl)

range_inside : (offset bytes n : ℕ) → ltb (4096 * n) (offset + bytes) ≡ false → offset / 4096 + bytes / 4096 ≤ n
range_inside offset bytes n h = grind (arith, nat_tests)

-- a population

file_is_it : (o : Option ℕ) (file : ℕ) → o ≡ Some file → is_file o file ≡ true
file_is_it o file e = subst (λ (x : Option ℕ). is_file x file ≡ true) (sym e) (eq-eqb file file refl)

cut_inside : (page n base pages first total : ℕ) → (leb base page && ltb page (base + pages)) ≡ true → first + pages ≤ total → ((first + page) - base) + min n ((base + pages) - page) ≤ total
cut_inside page n base pages first total over le = grind (arith, nat_tests)

cut_guest : (page n base pages total : ℕ) → (leb base page && ltb page (base + pages)) ≡ true → base + pages ≤ total → page + min n ((base + pages) - page) ≤ total
cut_guest page n base pages total over le = grind (arith, nat_tests)

cut_user : (from count user : ℕ) → ltb (4096 * user) (from + 4096 * count) ≡ false → from / 4096 + count ≤ user
cut_user from count user h = grind (arith, nat_tests)

file_fits : (s : Setup) (gpa n from : ℕ) (f : Flat) (t : SlotView) (o : Option ℕ) → SlotsFit s.user f → slot_over f.slots (page_of gpa) ≡ Some t → t.file ≡ o → Fit s (Populate gpa n from) f (file_populate s (page_of gpa) n from t o)
file_fits s gpa n from f t None h e at = tt
file_fits s gpa n from f t (Some file) h e at =
    by_cond s (Populate gpa n from) f (ltb (user_bytes s) (from + PAGE_BYTES * cut_at_end (page_of gpa) n t)) (Refused Inval) (Paged (record { file = file; index = index_of t (page_of gpa); pages = cut_at_end (page_of gpa) n t; base = Some (page_of gpa); copy = Some (page_of from) })) (λ _. tt)
    (λ fits.
    let own = file_is_it t.file file at in
    let inside = over_page (IsInsideFile f) f.slots (page_of gpa) t e h.ranges.inside in
    let used = ((over_page (λ x. (m : ℕ) → is_file x.file m ≡ true → (in_use m f.files ≡ true) × (has_memfd x ≡ true)) f.slots (page_of gpa) t e h.slots.files_in_use).0 file own).0 in
    let bound = (over_page (IsBounded s.user) f.slots (page_of gpa) t e h.bounded).0 in
    record {
      used = used;
      inside = cut_inside (page_of gpa) n t.base t.pages t.index (file_pages file f.files) inside.1 (inside.0 file own used);
      copy_fits = (cut_guest (page_of gpa) n t.base t.pages PAGE_LIMIT inside.1 bound.pages, cut_user from (cut_at_end (page_of gpa) n t) s.user fits);
    })

populate_fits : (s : Setup) (gpa n from : ℕ) (f : Flat) (o : Option SlotView) → SlotsFit s.user f → slot_over f.slots (page_of gpa) ≡ o → Fit s (Populate gpa n from) f (slot_populate s (page_of gpa) n from o)
populate_fits s gpa n from f None h e = tt
populate_fits s gpa n from f (Some t) h e =
    by_cond s (Populate gpa n from) f (has_memfd t) (file_populate s (page_of gpa) n from t t.file) (Refused Inval) (λ _. file_fits s gpa n from f t t.file h e refl) (λ _. tt)

state_fits : (s : Setup) (i : Ioctl) (f : Flat) → SlotsFit s.user f → Fit s i f (state_plan s i f)
state_fits s (Create size flags) f h = tt
state_fits s (Region2 r) f h = slot_fits s r f (slot_by_id f.slots r.slot)
state_fits s (Attrs address size attributes flags) f h =
    by_cond s (Attrs address size attributes flags) f (all_have (kind_of attributes) (page_of address) (page_of size) f.attrs) (Same 0) _ (λ _. tt) (λ _. tt)
state_fits s (Punch fd offset bytes) f h = by_cond s (Punch fd offset bytes) f (not (in_use fd f.files)) (Refused BadF) _ (λ _. tt) (λ _. tt)
state_fits s (Allocate fd offset bytes) f h =
    by_cond s (Allocate fd offset bytes) f (not (in_use fd f.files)) (Refused BadF) _ (λ _. tt)
    (λ u. by_cond s (Allocate fd offset bytes) f (ltb (PAGE_BYTES * file_pages fd f.files) (offset + bytes)) (Refused Inval) (Paged (record { file = fd; index = page_of offset; pages = page_of bytes; base = None; copy = None })) (λ _. tt)
    (λ l. record { used = is_true (in_use fd f.files) u; inside = range_inside offset bytes (file_pages fd f.files) l; copy_fits = λ index slots. refl }))
state_fits s (Close fd) f h = by_cond s (Close fd) f (in_use fd f.files) (Bracketed (Shut fd) (whole_spans (slots_of_file fd f.slots))) (Refused BadF) (λ _. tt) (λ _. tt)
state_fits s (Populate gpa n from) f h = populate_fits s gpa n from f (slot_over f.slots (page_of gpa)) h refl
state_fits s (Poke address value) f h = tt
state_fits s (Peek address) f h = tt

by_refusal : (s : Setup) (i : Ioctl) (f : Flat) (o : Option Errno) → argument_refusal s.user i ≡ o → SlotsFit s.user f → Fit s i f (plan s i f)
by_refusal s i f None e h = subst (Fit s i f) (sym (passed_plan s i f e)) (state_fits s i f h)
by_refusal s i f (Some errno) e h = subst (Fit s i f) (sym (refused_plan s i f errno e)) tt

pub pages_fit : (s : Setup) (i : Ioctl) (f : Flat) (p : Planned) → SlotsFit s.user f → plan s i f ≡ Paged p → PagesFit s p i f
pages_fit s i f p h e = subst (Fit s i f) e (by_refusal s i f (argument_refusal s.user i) refl h)
