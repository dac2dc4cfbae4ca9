-- The rows of a population, and of a change of attributes.
use Rattle.std.proofs.Common.{◌≡◌, ℕ, ◌+◌, ◌-◌, ◌*◌, ◌/◌, ◌%◌, ◌<◌, ◌≤◌, List, [], ◌∷◌, Bool, true, false, Option, Some, arith, refl, sym, ◌∙◌, ap, cond, ltb}
use Rattle.std.proofs.lemmas.Bool.Decides.{nat_tests}
use Rattle.gm_base.specs.Extent.{Extent}
use Rattle.gm_base.specs.declared.values.Errno.TheVariants.{Inval}
use Rattle.gm_base.specs.declared.values.Kind.{Kind}
use Rattle.gm_base.specs.declared.values.Setup.{Setup}
use Rattle.gm_flat.specs.Calls.{PagePlan, Plan, Bracketed, Paged, Refused, Same, all_have, cut_at_end, file_populate, has_memfd, kind_of, page_of, slot_populate}
use Rattle.gm_flat.specs.FlatState.{Flat}
use Rattle.gm_flat.specs.Slots.{index_of, slot_over}
use Rattle.gm_flat.specs.declared.effect.Effect.TheVariants.{Attr}
use Rattle.gm_flat.specs.declared.views.SlotView.{SlotView}
use Rattle.gm_ioctl.specs.Remaining.{set_kind}
use Rattle.gm_calls.specs.Lent.{LentStand}
use Rattle.gm_calls.specs.declared.parts.Parts.{Parts}

-- the slot over a page, as it is lent
pub over_is : (p : Parts) (f : Flat) (page : ℕ) (o : Option SlotView) → LentStand p f → o ≡ slot_over p.slots.now.slots page → slot_over f.slots page ≡ o
over_is p f page o st e = ap (λ (ss : List SlotView). slot_over ss page) (sym st.slots_are) ∙ sym e

pub without_memfd : (setup : Setup) (page pages user : ℕ) (s : SlotView) → has_memfd s ≡ false → slot_populate setup page pages user (Some s) ≡ Refused Inval
without_memfd setup page pages user s e = ap (λ (b : Bool). cond b (file_populate setup page pages user s s.file) (Refused Inval)) e

pub with_memfd : (setup : Setup) (page pages user : ℕ) (s : SlotView) (o : Option ℕ) → has_memfd s ≡ true → s.file ≡ o → slot_populate setup page pages user (Some s) ≡ file_populate setup page pages user s o
with_memfd setup page pages user s o e h =
    ap (λ (b : Bool). cond b (file_populate setup page pages user s s.file) (Refused Inval)) e
    ∙ ap (λ (o : Option ℕ). file_populate setup page pages user s o) h

past : (limit user n : ℕ) → user % 4096 ≡ 0 → limit < user / 4096 + n → ltb (4096 * limit) (user + 4096 * n) ≡ true
past limit user n h k = grind (arith, nat_tests)

within : (limit user n : ℕ) → user % 4096 ≡ 0 → user / 4096 + n ≤ limit → ltb (4096 * limit) (user + 4096 * n) ≡ false
within limit user n h k = grind (arith, nat_tests)

abbrev planned : ℕ → ℕ → ℕ → ℕ → SlotView → PagePlan
planned page pages user file s = record { file = file; index = index_of s page; pages = cut_at_end page pages s; base = Some page; copy = Some (page_of user) }

pub past_user_memory : (setup : Setup) (page pages user file : ℕ) (s : SlotView) → user % 4096 ≡ 0 → setup.user < user / 4096 + cut_at_end page pages s → file_populate setup page pages user s (Some file) ≡ Refused Inval
past_user_memory setup page pages user file s h k = ap (λ (b : Bool). cond b (Refused Inval) (Paged (planned page pages user file s))) (past setup.user user (cut_at_end page pages s) h k)

pub in_user_memory : (setup : Setup) (page pages user file : ℕ) (s : SlotView) → user % 4096 ≡ 0 → user / 4096 + cut_at_end page pages s ≤ setup.user → file_populate setup page pages user s (Some file) ≡ Paged (planned page pages user file s)
in_user_memory setup page pages user file s h k = ap (λ (b : Bool). cond b (Refused Inval) (Paged (planned page pages user file s))) (within setup.user user (cut_at_end page pages s) h k)

-- attributes
abbrev by_test : Bool → Kind → Extent → Plan
by_test t kind span = cond t (Same 0) (Bracketed (Attr span kind) (span ∷ []))

abbrev pages_at : ℕ → ℕ → Extent
pages_at address size = record { lo = page_of address; hi = page_of (address + size) }

pages_between : (address size : ℕ) → address % 4096 ≡ 0 → size % 4096 ≡ 0 → (address + size) / 4096 - address / 4096 ≡ size / 4096
pages_between address size h k = omega arith

pub kind_set : (address size attributes : ℕ) (f : Flat) (kind : Kind) (span : Extent) (same : Bool) → address % 4096 ≡ 0 → size % 4096 ≡ 0 → kind ≡ kind_of attributes → span ≡ record { lo = page_of address; hi = page_of (address + size) } → same ≡ all_have kind span.lo (span.hi - span.lo) f.attrs → set_kind address size attributes f ≡ cond same (Same 0) (Bracketed (Attr span kind) (span ∷ []))
kind_set address size attributes f kind span same a b k s h =
    ap (λ (n : ℕ). by_test (all_have (kind_of attributes) (page_of address) n f.attrs) (kind_of attributes) (pages_at address size)) (sym (pages_between address size a b))
    ∙ ap (λ (x : Extent). by_test (all_have (kind_of attributes) x.lo (x.hi - x.lo) f.attrs) (kind_of attributes) x) (sym s)
    ∙ ap (λ (x : Kind). by_test (all_have x span.lo (span.hi - span.lo) f.attrs) x span) (sym k)
    ∙ ap (λ (t : Bool). by_test t kind span) (sym h)

pub extent_is : (e : Extent) (a b : ℕ) → e.lo ≡ a → e.hi ≡ b → e ≡ record { lo = a; hi = b }
extent_is e a b h k = rw (← h, ← k) refl
