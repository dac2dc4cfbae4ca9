-- A plan reads words of user memory only, and a change that is made at once takes nothing from a cache.
use Rattle.std.proofs.Common.{◌≡◌, ℕ, ◌+◌, ◌*◌, ◌/◌, ◌%◌, ◌<◌, ◌≤◌, ◌||◌, ◌&&◌, Bool, true, false, not, List, [], ◌∷◌, Option, Some, None, arith, refl, sym, subst, ap, ◌∙◌, cond, eqb, leb, ltb}
use Rattle.std.proofs.lemmas.Bool.Decides.{nat_tests}
use Rattle.gm_base.specs.Extent.{Extent}
use Rattle.gm_base.specs.declared.calls.Ioctl.{Ioctl}
use Rattle.gm_base.specs.declared.calls.Ioctl.TheVariants.{Create, Region2, Attrs, Punch, Allocate, Close, Populate, Poke, Peek}
use Rattle.gm_base.specs.declared.calls.Region.{Region}
use Rattle.gm_base.specs.declared.numbers.TheConstants.{PAGE_BYTES}
use Rattle.gm_base.specs.declared.values.Errno.{Errno}
use Rattle.gm_base.specs.declared.values.Folio.{Folio}
use Rattle.gm_base.specs.declared.values.Setup.{Setup}
use Rattle.gm_flat.specs.Calls.{Plan, Refused, Same, Reads, Short, Bracketed, Paged, PagePlan, all_have, cut_at_end, differs, file_pages, file_populate, has_memfd, kind_of, make_plan, meets_bound, meets_slot, new_slot, old_plan, page_of, plan, slot_plan, slot_populate, user_bytes, wants_file, word_in}
use Rattle.gm_flat.specs.Effects.{apply, dropped, slot_fits}
use Rattle.gm_flat.specs.FlatState.{Flat, Triple, cached, in_use}
use Rattle.gm_flat.specs.Slots.{slot_by_id, slot_over}
use Rattle.gm_flat.specs.declared.effect.Effect.{Effect}
use Rattle.gm_flat.specs.declared.effect.Effect.TheVariants.{Cut, Shut, Slot}
use Rattle.gm_flat.specs.declared.views.SlotView.{SlotView}
use Rattle.gm_ioctl.proofs.Ranges.{passed_in_range}
use Rattle.gm_ioctl.proofs.Refusals.{passed_plan, refused_plan}
use Rattle.gm_ioctl.specs.Arguments.{argument_refusal}
use Rattle.gm_ioctl.specs.InRange.{InRange}
use Rattle.gm_ioctl.specs.Remaining.{state_plan}
use Rattle.gm_laws.specs.Ruled.{cuts}
use Rattle.gm_store.proofs.Caches.{has_cached}
use Rattle.gm_store.proofs.Parting.{index_has}
use Rattle.gm_store.specs.Frees.{AllDue}
use Rattle.gm_store.specs.Stored.{CachedApart, Stored}

-- whether the effect makes a slot
abbrev pub makes_slot : Effect → Bool
makes_slot (Slot slot base pages user flags file index) = true
makes_slot _ = false

record Inside (user : ℕ) (p : Plan) : Type 0 where
  inside : (page word : ℕ) → p ≡ Reads page word → (page < user) × (word < 512)
  uncut : (effect : Effect) (answer : ℕ) → p ≡ Short effect answer → cuts effect ≡ false
  no_slot : (effect : Effect) (spans : List Extent) → p ≡ Bracketed effect spans → makes_slot effect ≡ false

by_cond : {user : ℕ} (t : Bool) {p q : Plan} → Inside user p → Inside user q → Inside user (cond t p q)
by_cond {user = user} t {p = p} {q = q} a b = go t
  where
    go : (t : Bool) → Inside user (cond t p q)
    go true = a
    go false = b

refused : (user : ℕ) (errno : Errno) → Inside user (Refused errno)
refused user errno = record { inside = λ page word e. absurd (cc); uncut = λ x n e. absurd (cc); no_slot = λ x n e. absurd (cc) }

same : (user answer : ℕ) → Inside user (Same answer)
same user answer = record { inside = λ page word e. absurd (cc); uncut = λ x n e. absurd (cc); no_slot = λ x n e. absurd (cc) }

short : (user : ℕ) (effect : Effect) (answer : ℕ) → cuts effect ≡ false → Inside user (Short effect answer)
short user effect answer c = record { inside = λ page word e. absurd (cc); uncut = λ x n e. subst (λ (y : Effect). cuts y ≡ false) (ap made_by e) c; no_slot = λ x n e. absurd (cc) }
  where
    made_by : Plan → Effect
    made_by (Short y n) = y
    made_by _ = effect

bracketed : (user : ℕ) (effect : Effect) (spans : List Extent) → makes_slot effect ≡ false → Inside user (Bracketed effect spans)
bracketed user effect spans c = record { inside = λ page word e. absurd (cc); uncut = λ x n e. absurd (cc); no_slot = λ x n e. subst (λ (y : Effect). makes_slot y ≡ false) (ap made_by e) c }
  where
    made_by : Plan → Effect
    made_by (Bracketed y n) = y
    made_by _ = effect

paged : (user : ℕ) (pages : PagePlan) → Inside user (Paged pages)
paged user pages = record { inside = λ page word e. absurd (cc); uncut = λ x n e. absurd (cc); no_slot = λ x n e. absurd (cc) }

new_uncut : (r : Region) (t : Bool) → cuts (new_slot r t) ≡ false
new_uncut r true = refl
new_uncut r false = refl

made : (user : ℕ) (r : Region) (f : Flat) → Inside user (make_plan r f)
made user r f =
    by_cond (meets_slot (page_of r.gpa) (page_of r.size) f.slots) (refused user _)
    (by_cond (wants_file r && not (in_use r.fd f.files)) (refused user _)
    (by_cond (wants_file r && ltb (PAGE_BYTES * file_pages r.fd f.files) (r.offset + r.size)) (refused user _)
    (by_cond (wants_file r && meets_bound r.fd (page_of r.offset) (page_of r.size) f.slots) (refused user _) (short user (new_slot r (wants_file r)) 0 (new_uncut r (wants_file r))))))

old : (user : ℕ) (r : Region) (f : Flat) (t : SlotView) → Inside user (old_plan r f t)
old user r f t =
    by_cond (eqb r.size 0) (bracketed user _ _ refl)
    (by_cond (has_memfd t || wants_file r) (refused user _)
    (by_cond (differs r t) (refused user _)
    (by_cond (eqb t.base (page_of r.gpa)) (same user _)
    (by_cond (meets_slot (page_of r.gpa) (page_of r.size) (dropped r.slot f.slots)) (refused user _) (bracketed user _ _ refl)))))

region : (user : ℕ) (r : Region) (f : Flat) (o : Option SlotView) → Inside user (slot_plan r f o)
region user r f None = by_cond (eqb r.size 0) (refused user _) (made user r f)
region user r f (Some t) = old user r f t

word_page : (user address : ℕ) → address % 8 ≡ 0 → address + 8 ≤ 4096 * user → address / 4096 < user
word_page user address h e = grind (arith, nat_tests)

word_small : (address : ℕ) → (address % 4096) / 8 < 512
word_small address = grind (arith, nat_tests)

read : (user page word : ℕ) → page < user → word < 512 → Inside user (Reads page word)
read user page word a b = record { inside = λ p w e. (subst (λ (x : ℕ). x < user) (ap page_read e) a, subst (λ (x : ℕ). x < 512) (ap word_read e) b); uncut = λ x n e. absurd (cc); no_slot = λ x n e. absurd (cc) }
  where
    page_read : Plan → ℕ
    page_read (Reads p w) = p
    page_read _ = 0

    word_read : Plan → ℕ
    word_read (Reads p w) = w
    word_read _ = 0

filed : (s : Setup) (page pages user : ℕ) (t : SlotView) (o : Option ℕ) → Inside s.user (file_populate s page pages user t o)
filed s page pages user t None = refused s.user _
filed s page pages user t (Some file) = by_cond (ltb (user_bytes s) (user + PAGE_BYTES * cut_at_end page pages t)) (refused s.user _) (paged s.user _)

populated : (s : Setup) (page pages user : ℕ) (o : Option SlotView) → Inside s.user (slot_populate s page pages user o)
populated s page pages user None = refused s.user _
populated s page pages user (Some t) = by_cond (has_memfd t) (filed s page pages user t t.file) (refused s.user _)

by_state : (s : Setup) (i : Ioctl) (f : Flat) → InRange s.user i → Inside s.user (state_plan s i f)
by_state s (Create size flags) f range = short s.user _ _ refl
by_state s (Region2 r) f range = region s.user r f (slot_by_id f.slots r.slot)
by_state s (Attrs address size attributes flags) f range = by_cond (all_have (kind_of attributes) (page_of address) (page_of size) f.attrs) (same s.user _) (bracketed s.user _ _ refl)
by_state s (Punch fd offset bytes) f range = by_cond (not (in_use fd f.files)) (refused s.user _) (bracketed s.user _ _ refl)
by_state s (Allocate fd offset bytes) f range = by_cond (not (in_use fd f.files)) (refused s.user _) (by_cond (ltb (PAGE_BYTES * file_pages fd f.files) (offset + bytes)) (refused s.user _) (paged s.user _))
by_state s (Close fd) f range = by_cond (in_use fd f.files) (bracketed s.user _ _ refl) (refused s.user _)
by_state s (Populate gpa pages user) f range = populated s (page_of gpa) pages user (slot_over f.slots (page_of gpa))
by_state s (Poke address value) f range = short s.user _ _ refl
by_state s (Peek address) f range = read s.user (page_of address) (word_in address) (word_page s.user address range.whole_words range.end) (word_small address)

by_refusal : (s : Setup) (i : Ioctl) (f : Flat) (o : Option Errno) → argument_refusal s.user i ≡ o → Inside s.user (plan s i f)
by_refusal s i f None e = subst (Inside s.user) (sym (passed_plan s i f e)) (by_state s i f (passed_in_range s.user i e))
by_refusal s i f (Some errno) e = subst (Inside s.user) (sym (refused_plan s i f errno e)) (refused s.user errno)

-- what a plan reads is a word of user memory
pub reads_inside : (s : Setup) (i : Ioctl) (f : Flat) (page word : ℕ) → plan s i f ≡ Reads page word → (page < s.user) × (word < 512)
reads_inside s i f page word e = (by_refusal s i f (argument_refusal s.user i) refl).inside page word e

pub short_uncut : (s : Setup) (i : Ioctl) (f : Flat) (effect : Effect) (answer : ℕ) → plan s i f ≡ Short effect answer → cuts effect ≡ false
short_uncut s i f effect answer e = (by_refusal s i f (argument_refusal s.user i) refl).uncut effect answer e

-- no bracket makes a slot
pub bracket_slotless : (s : Setup) (i : Ioctl) (f : Flat) (effect : Effect) (spans : List Extent) → plan s i f ≡ Bracketed effect spans → makes_slot effect ≡ false
bracket_slotless s i f effect spans e = (by_refusal s i f (argument_refusal s.user i) refl).no_slot effect spans e

-- an effect that takes nothing from a cache leaves it as it is
pub same_cache : (effect : Effect) (f : Flat) → cuts effect ≡ false → (apply effect f).cache ≡ f.cache
same_cache (Slot slot base pages user flags file index) f h = by_fit (slot_fits (record { id = slot; base = base; pages = pages; user = user; flags = flags; file = file; index = index; invalid = false }))
  where
    by_fit : (t : Bool) → (cond t (record f { slots = record { id = slot; base = base; pages = pages; user = user; flags = flags; file = file; index = index; invalid = false } ∷ f.slots }) f).cache ≡ f.cache
    by_fit true = refl
    by_fit false = refl
same_cache (Cut file lo hi) f h = absurd (cc)
same_cache (Shut file) f h = absurd (cc)
same_cache _ f h = refl

-- nothing is to be freed where the cache stays as it is
pub none_due : (cache : List Triple) (after : Stored) (pairs : List (ℕ × Folio)) → CachedApart cache → after.flat.cache ≡ cache → AllDue cache after 0 pairs → pairs ≡ []
none_due cache after [] apart e d = refl
none_due cache after (p ∷ ps) apart e d =
    let has = index_has p.1.serial p.0 cache d.1.at in
    let at = has_cached p.1.serial cache apart has in
    absurd (d.1.not_cached (at.0, at.1, at.2, ap (cached at.0 at.1) e ∙ at.3, at.4))
