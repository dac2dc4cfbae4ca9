-- It is decided whether a sighting is true of a vCPU's fault.
use Rattle.std.proofs.Common.{◌≡◌, ◌≤◌, ◌<◌, ◌⊎◌, ℕ, List, Bool, true, false, length, Option, Some, None, inl, inr, refl, ap, arith}
use Rattle.std.proofs.lemmas.Bool.{cases_eq, cases_lt}
use Rattle.gm_base.specs.Aim.{Aim}
use Rattle.gm_base.specs.declared.values.Kind.{Kind}
use Rattle.gm_base.specs.declared.values.Kind.TheVariants.{Shared, Private}
use Rattle.gm_flat.specs.Attribute.{attr_of}
use Rattle.gm_flat.specs.Histories.{Fault, NoFault, Faulting, fault}
use Rattle.gm_flat.specs.Replay.{flat_at}
use Rattle.gm_flat.specs.Slots.{slot_over}
use Rattle.gm_flat.specs.declared.entry.Entry.{Entry}
use Rattle.gm_flat.specs.declared.views.Sighting.{Sighting}
use Rattle.gm_flat.specs.declared.views.SlotView.{SlotView}
use Rattle.gm_laws.specs.Counting.{ends_at}
use Rattle.gm_turns.specs.Depositing.{IsTrueBy, IsTrueOf, IsTrueSight}

abbrev pub Decided : Type 0 → Type 0
Decided P = P ⊎ (P → ⊥)

both : (P Q : Type 0) → Decided P → Decided Q → Decided (P × Q)
both P Q (inl p) (inl q) = inl (p, q)
both P Q (inl p) (inr q) = inr (λ b. q b.1)
both P Q (inr p) d = inr (λ b. p b.0)

same_option : (X : Type 0) (each : (x y : X) → Decided (x ≡ y)) (a b : Option X) → Decided (a ≡ b)
same_option X each None None = inl refl
same_option X each None (Some y) = inr (λ e. cc)
same_option X each (Some x) None = inr (λ e. cc)
same_option X each (Some x) (Some y) = some (each x y)
  where
    some : Decided (x ≡ y) → Decided (Some x ≡ Some y)
    some (inl e) = inl (ap Some e)
    some (inr n) = inr (λ e. n cc)

same_bool : (a b : Bool) → Decided (a ≡ b)
same_bool true true = inl refl
same_bool false false = inl refl
same_bool true false = inr (λ e. cc)
same_bool false true = inr (λ e. cc)

same_kind : (a b : Kind) → Decided (a ≡ b)
same_kind Shared Shared = inl refl
same_kind Private Private = inl refl
same_kind Shared Private = inr (λ e. cc)
same_kind Private Shared = inr (λ e. cc)

no_less : (m n : ℕ) → m < n → n ≤ m → ⊥
no_less m n h k = omega arith

least : (m n : ℕ) → Decided (m ≤ n)
least m n = elim (cases_lt n m) [ inl h ↦ inr (λ k. no_less n m h k) | inr k ↦ inl k ]

-- slots, field by field

abbrev Alike : SlotView → SlotView → Type 0
Alike a b = (a.id ≡ b.id) × ((a.base ≡ b.base) × ((a.pages ≡ b.pages) × ((a.user ≡ b.user) × ((a.flags ≡ b.flags) × ((a.file ≡ b.file) × ((a.index ≡ b.index) × (a.invalid ≡ b.invalid)))))))

from_fields : (a b : SlotView) → Alike a b → a ≡ b
from_fields a b (e, (f, (g, (h, (i, (j, (k, l))))))) =
    let same : record { id = a.id; base = a.base; pages = a.pages; user = a.user; flags = a.flags; file = a.file; index = a.index; invalid = a.invalid } ≡ record { id = b.id; base = b.base; pages = b.pages; user = b.user; flags = b.flags; file = b.file; index = b.index; invalid = b.invalid } = rw (e, f, g, h, i, j, k, l) refl in
    same

to_fields : (a b : SlotView) → a ≡ b → Alike a b
to_fields a b e = (
  ap (λ (s : SlotView). s.id) e,
  (
    ap (λ (s : SlotView). s.base) e,
    (
      ap (λ (s : SlotView). s.pages) e,
      (
        ap (λ (s : SlotView). s.user) e,
        (
          ap (λ (s : SlotView). s.flags) e,
          (
            ap (λ (s : SlotView). s.file) e,
            (
              ap (λ (s : SlotView). s.index) e,
              ap (λ (s : SlotView). s.invalid) e,
            ),
          ),
        ),
      ),
    ),
  ),
)

same_slot : (a b : SlotView) → Decided (a ≡ b)
same_slot a b = by (both _ _ (cases_eq a.id b.id) (both _ _ (cases_eq a.base b.base) (both _ _ (cases_eq a.pages b.pages) (both _ _ (cases_eq a.user b.user) (both _ _ (cases_eq a.flags b.flags) (both _ _ (same_option ℕ cases_eq a.file b.file) (both _ _ (cases_eq a.index b.index) (same_bool a.invalid b.invalid))))))))
  where
    by : Decided (Alike a b) → Decided (a ≡ b)
    by (inl h) = inl (from_fields a b h)
    by (inr n) = inr (λ e. n (to_fields a b e))

-- sightings, part by part

abbrev Parts : Sighting → Aim → ℕ → List Entry → Type 0
Parts s a missed past =
    (missed ≤ s.sampled.at) × ((s.sampled.at ≤ s.looked.at) × ((s.looked.at ≤ length past) × ((s.sampled.seq ≡ ends_at s.sampled.at past)
    × ((s.looked.slot ≡ slot_over (flat_at s.looked.at past).slots a.page) × (s.looked.attr ≡ attr_of a.page (flat_at s.looked.at past).attrs)))))

true_of : (s : Sighting) (a : Aim) (missed : ℕ) (past : List Entry) → Decided (IsTrueOf s a missed past)
true_of s a missed past = by (both _ _ (least missed s.sampled.at) (both _ _ (least s.sampled.at s.looked.at) (both _ _ (least s.looked.at (length past)) (both _ _ (cases_eq s.sampled.seq (ends_at s.sampled.at past)) (both _ _ (same_option SlotView same_slot s.looked.slot (slot_over (flat_at s.looked.at past).slots a.page)) (same_kind s.looked.attr (attr_of a.page (flat_at s.looked.at past).attrs)))))))
  where
    by : Decided (Parts s a missed past) → Decided (IsTrueOf s a missed past)
    by (inl (h, (i, (j, (k, (l, m)))))) = inl (record { after_miss = h; in_order = i; so_far = j; seq = k; slot = l; attr = m })
    by (inr n) = inr (λ t. n (t.after_miss, (t.in_order, (t.so_far, (t.seq, (t.slot, t.attr))))))

true_by : (s : Sighting) (f : Fault) (past : List Entry) → Decided (IsTrueBy s f past)
true_by s NoFault past = inr (λ h. h)
true_by s (Faulting a missed None None None) past = true_of s a missed past
true_by s (Faulting a missed (Some x) look got) past = inr (λ h. h)
true_by s (Faulting a missed None (Some y) got) past = inr (λ h. h)
true_by s (Faulting a missed None None (Some z)) past = inr (λ h. h)

pub is_true : (v : ℕ) (s : Sighting) (past : List Entry) → Decided (IsTrueSight v s past)
is_true v s past = true_by s (fault v past) past
