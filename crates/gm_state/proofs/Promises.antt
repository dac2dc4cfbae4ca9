-- Every plan keeps what is promised of its effect.
use Rattle.std.proofs.Common.{◌≡◌, ℕ, ◌+◌, ◌*◌, ◌/◌, ◌%◌, ◌<◌, ◌≤◌, ◌||◌, ◌&&◌, Bool, true, false, not, [], ◌∷◌, Option, Some, None, arith, refl, ◌∙◌, sym, subst, cond, eqb, ltb}
use Rattle.std.proofs.lemmas.Bool.{or_parts, both_ways}
use Rattle.std.proofs.lemmas.Bool.Decides.{nat_tests}
use Rattle.gm_base.specs.declared.calls.Ioctl.{Ioctl}
use Rattle.gm_base.specs.declared.calls.Ioctl.TheVariants.{Create, Region2, Attrs, Punch, Allocate, Close, Populate, Poke, Peek}
use Rattle.gm_base.specs.declared.calls.Region.{Region}
use Rattle.gm_base.specs.declared.numbers.TheConstants.{PAGE_BYTES}
use Rattle.gm_base.specs.declared.values.Errno.{Errno}
use Rattle.gm_base.specs.declared.values.Errno.TheVariants.{BadF, Exist, Inval}
use Rattle.gm_base.specs.declared.values.Setup.{Setup}
use Rattle.gm_flat.specs.Calls.{Plan, Refused, Same, Short, Bracketed, Paged, all_have, cut_at_end, differs, file_pages, file_populate, has_memfd, is_readonly, kind_of, make_plan, meets_bound, meets_slot, new_slot, old_plan, page_of, plan, same_truth, slot_plan, slot_populate, slots_of_file, user_bytes, wants_file, whole_spans}
use Rattle.gm_flat.specs.Effects.{dropped}
use Rattle.gm_flat.specs.FlatState.{Flat, in_use}
use Rattle.gm_flat.specs.Slots.{index_of, slot_by_id, slot_over, slot_span}
use Rattle.gm_flat.specs.declared.effect.Effect.TheVariants.{Move, NoSlot, Shut}
use Rattle.gm_flat.specs.declared.views.SlotView.{SlotView}
use Rattle.gm_ioctl.proofs.Ranges.{passed_in_range}
use Rattle.gm_ioctl.proofs.Refusals.{passed_plan, refused_plan}
use Rattle.gm_ioctl.specs.Arguments.{argument_refusal}
use Rattle.gm_ioctl.specs.InRange.{InRange, RegionInRange}
use Rattle.gm_ioctl.specs.Remaining.{state_plan}
use Rattle.gm_laws.proofs.Kit.{some_same}
use Rattle.gm_state.specs.Promised.{Makes, MakesSlot, Promised}

by_cond : (s : Setup) (i : Ioctl) (f : Flat) (t : Bool) (p q : Plan) → (t ≡ true → Promised s i f p) → (t ≡ false → Promised s i f q) → Promised s i f (cond t p q)
by_cond s i f true p q a b = a refl
by_cond s i f false p q a b = b refl

small_file : (size : ℕ) → size < 9223372036854775808 → size / 4096 ≤ 4503599627370496
small_file size h = grind (arith, nat_tests)

some_pages : (size : ℕ) → eqb size 0 ≡ false → size % 4096 ≡ 0 → 0 < size / 4096
some_pages size e h = grind (arith, nat_tests)

-- a slot that is made

if_true : (t u : Bool) → (t && not u) ≡ false → t ≡ true → u ≡ true
if_true true true h e = refl
if_true true false h e = absurd (both_ways true h refl)
if_true false u h e = absurd (both_ways false refl e)

if_false : (t u : Bool) → (t && u) ≡ false → t ≡ true → u ≡ false
if_false true u h e = h
if_false false u h e = absurd (both_ways false refl e)

not_above : (a b : ℕ) → ltb a b ≡ false → b ≤ a
not_above a b h = grind (arith, nat_tests)

makes_new : (s : Setup) (r : Region) (f : Flat) (t : Bool) → MakesSlot s r f (new_slot r t) → Makes s (Region2 r) f (new_slot r t)
makes_new s r f true m = m
makes_new s r f false m = m

make_keeps : (s : Setup) (r : Region) (f : Flat) → RegionInRange s.user r → slot_by_id f.slots r.slot ≡ None → eqb r.size 0 ≡ false → Promised s (Region2 r) f (make_plan r f)
make_keeps s r f range none some =
    by_cond s (Region2 r) f (meets_slot (page_of r.gpa) (page_of r.size) f.slots) (Refused Exist) _ (λ _. tt)
    (λ m. by_cond s (Region2 r) f (wants_file r && not (in_use r.fd f.files)) (Refused BadF) _ (λ _. tt)
    (λ u. by_cond s (Region2 r) f (wants_file r && ltb (PAGE_BYTES * file_pages r.fd f.files) (r.offset + r.size)) (Refused Inval) _ (λ _. tt)
    (λ l. by_cond s (Region2 r) f (wants_file r && meets_bound r.fd (page_of r.offset) (page_of r.size) f.slots) (Refused Inval) (Short (new_slot r (wants_file r)) 0) (λ _. tt)
    (λ b. makes_new s r f (wants_file r) (record {
      effect_is = refl;
      in_range = range;
      changes = rw (none, some, m) refl;
      some = some_pages r.size some range.size;
      binds = λ w. record {
        used = if_true (wants_file r) (in_use r.fd f.files) u w;
        inside = not_above (PAGE_BYTES * file_pages r.fd f.files) (r.offset + r.size) (if_false (wants_file r) (ltb (PAGE_BYTES * file_pages r.fd f.files) (r.offset + r.size)) l w);
        unbound = if_false (wants_file r) (meets_bound r.fd (page_of r.offset) (page_of r.size) f.slots) b w;
      };
    })))))

-- a slot that is there

same_pages : (a b : ℕ) (t u : Bool) → (t || (not (eqb a b) || u)) ≡ false → a ≡ b
same_pages a b t u e = grind (arith, nat_tests)

old_keeps : (s : Setup) (r : Region) (f : Flat) (t : SlotView) → RegionInRange s.user r → slot_by_id f.slots r.slot ≡ Some t → Promised s (Region2 r) f (old_plan r f t)
old_keeps s r f t range is =
    by_cond s (Region2 r) f (eqb r.size 0) (Bracketed (NoSlot r.slot) (slot_span t ∷ [])) _
    (λ z. record { id_is = refl; in_range = range; changes = rw (is, z) refl })
    (λ z. by_cond s (Region2 r) f (has_memfd t || wants_file r) (Refused Inval) _ (λ _. tt)
    (λ n. by_cond s (Region2 r) f (differs r t) (Refused Inval) _ (λ _. tt)
    (λ p. by_cond s (Region2 r) f (eqb t.base (page_of r.gpa)) (Same 0) _ (λ _. tt)
    (λ b. by_cond s (Region2 r) f (meets_slot (page_of r.gpa) (page_of r.size) (dropped r.slot f.slots)) (Refused Exist) (Bracketed (Move r.slot (page_of r.gpa)) (slot_span t ∷ [])) (λ _. tt)
    (λ m. record {
      id_is = refl;
      base_is = refl;
      in_range = range;
      changes = rw (is, z, n, p, b, m) refl;
      plain = λ q h.
          let e : t ≡ q = some_same t q (sym is ∙ h) in
          subst (λ (x : SlotView). (has_memfd x ≡ false) × (x.pages ≡ page_of r.size)) e
          ((or_parts (has_memfd t) (wants_file r) n).0, same_pages t.pages (page_of r.size) (not (eqb t.user (page_of r.user))) (not (same_truth (is_readonly t.flags) (is_readonly r.flags))) p);
    })))))

slot_keeps : (s : Setup) (r : Region) (f : Flat) (o : Option SlotView) → RegionInRange s.user r → slot_by_id f.slots r.slot ≡ o → Promised s (Region2 r) f (slot_plan r f o)
slot_keeps s r f None range e = by_cond s (Region2 r) f (eqb r.size 0) (Refused Inval) (make_plan r f) (λ _. tt) (λ z. make_keeps s r f range e z)
slot_keeps s r f (Some t) range e = old_keeps s r f t range e

-- the others

word_page : (user address : ℕ) → address % 8 ≡ 0 → address + 8 ≤ 4096 * user → address / 4096 < user
word_page user address h e = grind (arith, nat_tests)

word_small : (address : ℕ) → (address % 4096) / 8 < 512
word_small address = grind (arith, nat_tests)

state_keeps : (s : Setup) (i : Ioctl) (f : Flat) → InRange s.user i → Promised s i f (state_plan s i f)
state_keeps s (Create size flags) f range = (refl, small_file size range.below)
state_keeps s (Region2 r) f range = slot_keeps s r f (slot_by_id f.slots r.slot) range refl
state_keeps s (Attrs address size attributes flags) f range =
    by_cond s (Attrs address size attributes flags) f (all_have (kind_of attributes) (page_of address) (page_of size) f.attrs) (Same 0) _ (λ _. tt) (λ _. tt)
state_keeps s (Punch fd offset bytes) f range =
    by_cond s (Punch fd offset bytes) f (not (in_use fd f.files)) (Refused BadF) _ (λ _. tt) (λ u. is_true (in_use fd f.files) u)
  where
    is_true : (t : Bool) → not t ≡ false → t ≡ true
    is_true true h = refl
    is_true false h = absurd (both_ways true h refl)
state_keeps s (Allocate fd offset bytes) f range =
    by_cond s (Allocate fd offset bytes) f (not (in_use fd f.files)) (Refused BadF) _ (λ _. tt)
    (λ _. by_cond s (Allocate fd offset bytes) f (ltb (PAGE_BYTES * file_pages fd f.files) (offset + bytes)) (Refused Inval) _ (λ _. tt) (λ _. tt))
state_keeps s (Close fd) f range = by_cond s (Close fd) f (in_use fd f.files) (Bracketed (Shut fd) (whole_spans (slots_of_file fd f.slots))) (Refused BadF) (λ u. u) (λ _. tt)
state_keeps s (Populate gpa pages user) f range = populated (slot_over f.slots (page_of gpa))
  where
    filed : (t : SlotView) (o : Option ℕ) → Promised s (Populate gpa pages user) f (file_populate s (page_of gpa) pages user t o)
    filed t None = tt
    filed t (Some file) = by_cond s (Populate gpa pages user) f (ltb (user_bytes s) (user + PAGE_BYTES * cut_at_end (page_of gpa) pages t)) (Refused Inval) (Paged (record { file = file; index = index_of t (page_of gpa); pages = cut_at_end (page_of gpa) pages t; base = Some (page_of gpa); copy = Some (page_of user) })) (λ _. tt) (λ _. tt)

    populated : (o : Option SlotView) → Promised s (Populate gpa pages user) f (slot_populate s (page_of gpa) pages user o)
    populated None = tt
    populated (Some t) = by_cond s (Populate gpa pages user) f (has_memfd t) (file_populate s (page_of gpa) pages user t t.file) (Refused Inval) (λ _. filed t t.file) (λ _. tt)
state_keeps s (Poke address value) f range = (word_page s.user address range.whole_words range.end, word_small address)
state_keeps s (Peek address) f range = tt

by_refusal : (s : Setup) (i : Ioctl) (f : Flat) (o : Option Errno) → argument_refusal s.user i ≡ o → Promised s i f (plan s i f)
by_refusal s i f None e = subst (Promised s i f) (sym (passed_plan s i f e)) (state_keeps s i f (passed_in_range s.user i e))
by_refusal s i f (Some errno) e = subst (Promised s i f) (sym (refused_plan s i f errno e)) tt

pub promises : (s : Setup) (i : Ioctl) (f : Flat) → Promised s i f (plan s i f)
promises s i f = by_refusal s i f (argument_refusal s.user i) refl
