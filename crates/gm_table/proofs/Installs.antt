-- What a zap and an install leave.
use Rattle.std.proofs.Common.{◌≡◌, ℕ, ◌+◌, ◌*◌, ◌/◌, ◌<◌, ◌≤◌, inl, inr, List, [], ◌∷◌, length, refl, ap, sym, ◌∙◌, subst, arith, Bool, true, false, ◌&&◌}
use Rattle.std.specs.Prelude.{None, Some, nat_eq, nat_lt, nat_le, if◌then◌else◌}
use Rattle.std.proofs.lemmas.Bool.{ne_eqb, cases_lt}
use Rattle.std.proofs.lemmas.Bool.Decides.{nat_tests}
use Rattle.gm_base.specs.Extent.{Extent}
use Rattle.gm_base.specs.Leaf.{covers, meets_leaf}
use Rattle.gm_base.specs.Values.{pages_of}
use Rattle.gm_base.specs.declared.leaf.Leaf.{Leaf}
use Rattle.gm_base.specs.declared.values.Level.{Level}
use Rattle.gm_base.specs.declared.values.Level.TheVariants.{Small, Block}
use Rattle.gm_radix.specs.Entries.{lookup, put, is_within, without}
use Rattle.gm_table.specs.Kept.{leaves_of, covering, IsKept}
use Rattle.gm_table.specs.Leaves.{apart_from, place, extent_of, IsAligned}
use Rattle.gm_table.proofs.Members.{Among, pages_some, placed, apart_members, lookup-member, member-lookup, covered_from, covering_some, covering_none, not_both}

-- the pages from one on and below another
abbrev pub span : ℕ → ℕ → Extent
span lo hi = record { lo = lo; hi = hi }

same_tests : (from page hi : ℕ) (e : ℕ × Leaf) → e.1.first ≡ e.0 → (from ≤ e.0 → page < e.0 + pages_of e.1.level) → (page < e.0 + pages_of e.1.level → from ≤ e.0) → is_within from hi e ≡ meets_leaf e.1 (span page hi)
same_tests from page hi e f p q = rw f (elim (cases_lt e.0 from) [ inl a ↦ out a | inr a ↦ inside a (p a) ])
  where
    out : e.0 < from → nat_le from e.0 && nat_lt e.0 hi ≡ (nat_lt e.0 hi && nat_lt page (e.0 + pages_of e.1.level))
    out a = let b : e.0 + pages_of e.1.level ≤ page = elim (cases_lt page (e.0 + pages_of e.1.level)) [ inl c ↦ (let d = q c in omega arith) | inr c ↦ c ] in grind (arith, nat_tests)

    inside : from ≤ e.0 → page < e.0 + pages_of e.1.level → nat_le from e.0 && nat_lt e.0 hi ≡ (nat_lt e.0 hi && nat_lt page (e.0 + pages_of e.1.level))
    inside a b = grind (arith, nat_tests)

without-is_apart : (from page hi : ℕ) (es : List (ℕ × Leaf)) → ((e : ℕ × Leaf) → Among e es → is_within from hi e ≡ meets_leaf e.1 (span page hi)) → leaves_of (without from hi es) ≡ apart_from (span page hi) (leaves_of es)
without-is_apart from page hi [] n = refl
without-is_apart from page hi (x ∷ xs) n = rw (n x (inl refl)) (cases (meets_leaf x.1 (span page hi)) (without-is_apart from page hi xs (λ e p. n e (inr p))))
  where
    cases : (b : Bool) → leaves_of (without from hi xs) ≡ apart_from (span page hi) (leaves_of xs) → leaves_of (if b then without from hi xs else x ∷ without from hi xs) ≡ (if b then apart_from (span page hi) (leaves_of xs) else x.1 ∷ apart_from (span page hi) (leaves_of xs))
    cases true q = q
    cases false q = ap (λ (ls : List Leaf). x.1 ∷ ls) q

-- a removal from the block over a page on takes what meets the span
pub without-block : (page hi : ℕ) (leaf : Leaf) (es : List (ℕ × Leaf)) → IsKept 0 es → covering page (lookup (512 * (page / 512)) es) ≡ Some leaf → leaves_of (without (512 * (page / 512)) hi es) ≡ apart_from (span page hi) (leaves_of es)
without-block page hi leaf es h c = without-is_apart (512 * (page / 512)) page hi es (λ e m. same_tests (512 * (page / 512)) page hi e (placed 0 e es h m).first (reaches e m) (begins e m))
  where
    there : (lookup (512 * (page / 512)) es ≡ Some leaf) × (covers leaf page ≡ true)
    there = covering_some page (lookup (512 * (page / 512)) es) leaf c

    over : Among (512 * (page / 512), leaf) es
    over = member-lookup (512 * (page / 512)) leaf es there.0

    end : page < 512 * (page / 512) + pages_of leaf.level
    end = let c = there.1 in let f = (placed 0 (512 * (page / 512), leaf) es h over).first in grind (arith, nat_tests)

    reaches : (e : ℕ × Leaf) → Among e es → 512 * (page / 512) ≤ e.0 → page < e.0 + pages_of e.1.level
    reaches e m l = elim (cases_lt (512 * (page / 512)) e.0) [
      | inl a ↦ (let b = apart_members 0 (512 * (page / 512), leaf) e es h over m a in let s = pages_some e.1.level in omega (arith, end))
      | inr a ↦
          let key : e.0 ≡ 512 * (page / 512) = omega arith in
          let same : Some e.1 ≡ Some leaf = sym (lookup-member 0 e es h m) ∙ (ap (λ (i : ℕ). lookup i es) key ∙ there.0) in
          let leaves : e.1 ≡ leaf = cc in
          let level : pages_of e.1.level ≡ pages_of leaf.level = ap (λ (l : Leaf). pages_of l.level) leaves in
          omega (arith, end)
    ]

    by_level : (level : Level) (first : ℕ) → (level ≡ Block → 512 * (first / 512) ≡ first) → page < first + pages_of level → 512 * (page / 512) ≤ first
    by_level Small first a p = omega arith
    by_level Block first a p = let b = a refl in omega arith

    begins : (e : ℕ × Leaf) → Among e es → page < e.0 + pages_of e.1.level → 512 * (page / 512) ≤ e.0
    begins e m p = let is = placed 0 e es h m in let f = is.first in by_level e.1.level e.0 (λ b. subst (λ (n : ℕ). 512 * (n / 512) ≡ n) f (is.aligned b)) p

-- where no block lies over a page, a removal from the page on takes what meets the span
pub without-plain : (page hi : ℕ) (es : List (ℕ × Leaf)) → IsKept 0 es → covering page (lookup (512 * (page / 512)) es) ≡ None → leaves_of (without page hi es) ≡ apart_from (span page hi) (leaves_of es)
without-plain page hi es h c = without-is_apart page page hi es (λ e m. same_tests page page hi e (placed 0 e es h m).first (reaches e) (begins e m))
  where
    reaches : (e : ℕ × Leaf) → page ≤ e.0 → page < e.0 + pages_of e.1.level
    reaches e l = let s = pages_some e.1.level in omega arith

    begins : (e : ℕ × Leaf) → Among e es → page < e.0 + pages_of e.1.level → page ≤ e.0
    begins e m p = elim (cases_lt e.0 page) [
      | inl a ↦ (
          let is = placed 0 e es h m in
          let first = is.first in
          elim (covered_from e.1.level e.1.first page is.aligned (omega arith) (omega arith)) [
            | inl b ↦ omega arith
            | inr b ↦ absurd (not_both (covers e.1 page) (grind (arith, nat_tests)) (covering_none page (lookup (512 * (page / 512)) es) e.1 c (ap (λ (i : ℕ). lookup i es) (sym b ∙ first) ∙ lookup-member 0 e es h m)))
          ])
      | inr a ↦ a
    ]

pub IsKept-lower : (lo low : ℕ) (es : List (ℕ × Leaf)) → low ≤ lo → IsKept lo es → IsKept low es
IsKept-lower lo low [] p h = tt
IsKept-lower lo low (x ∷ xs) p h = (omega (arith, h.0), h.1, h.2, h.3)

-- what a removal leaves is kept as before
pub IsKept-without : (lo from hi : ℕ) (es : List (ℕ × Leaf)) → IsKept lo es → IsKept lo (without from hi es)
IsKept-without lo from hi [] h = tt
IsKept-without lo from hi (x ∷ xs) h = cases (is_within from hi x) (IsKept-without (x.0 + pages_of x.1.level) from hi xs h.3)
  where
    cases : (b : Bool) → IsKept (x.0 + pages_of x.1.level) (without from hi xs) → IsKept lo (if b then without from hi xs else x ∷ without from hi xs)
    cases true q = IsKept-lower (x.0 + pages_of x.1.level) lo (without from hi xs) (omega (arith, h.0)) q
    cases false q = (h.0, h.1, h.2, q)

pub length-leaves_of : (es : List (ℕ × Leaf)) → length (leaves_of es) ≡ length es
length-leaves_of [] = refl
length-leaves_of (x ∷ xs) = omega (arith, length-leaves_of xs)

-- none of the leaves meets the span
abbrev pub NoneMeet : Extent → List Leaf → Type 0
NoneMeet s [] = Unit {0}
NoneMeet s (leaf ∷ leaves) = (meets_leaf leaf s ≡ false) × NoneMeet s leaves

pub none_meet : (s : Extent) (leaves : List Leaf) → NoneMeet s (apart_from s leaves)
none_meet s [] = tt
none_meet s (leaf ∷ leaves) = cases (meets_leaf leaf s) refl (none_meet s leaves)
  where
    cases : (b : Bool) → meets_leaf leaf s ≡ b → NoneMeet s (apart_from s leaves) → NoneMeet s (if b then apart_from s leaves else leaf ∷ apart_from s leaves)
    cases true t r = r
    cases false t r = (t, r)

-- two leaves that don't meet
record Lies (leaf : Leaf) (e : ℕ × Leaf) : Type 0 where
  below : leaf.first < e.0 → leaf.first + pages_of leaf.level ≤ e.0
  same : e.0 ≡ leaf.first → ⊥
  above : e.0 < leaf.first → e.0 + pages_of e.1.level ≤ leaf.first

lies : (leaf : Leaf) (e : ℕ × Leaf) → e.1.first ≡ e.0 → meets_leaf e.1 (extent_of leaf) ≡ false → Lies leaf e
lies leaf e f m =
    let p = pages_some leaf.level in
    let q = pages_some e.1.level in
    let n : (e.0 < leaf.first + pages_of leaf.level) → (leaf.first < e.0 + pages_of e.1.level) → ⊥ = λ a b. not_both (meets_leaf e.1 (extent_of leaf)) (grind (arith, nat_tests)) m in
    record {
      below = λ a. elim (cases_lt e.0 (leaf.first + pages_of leaf.level)) [ inl b ↦ absurd (n b (omega arith)) | inr b ↦ b ];
      same = λ a. n (omega arith) (omega arith);
      above = λ a. elim (cases_lt leaf.first (e.0 + pages_of e.1.level)) [ inl b ↦ absurd (n (omega arith) b) | inr b ↦ b ];
    }

-- a leaf that none meets is kept in its place
pub record IsPut (lo : ℕ) (leaf : Leaf) (es : List (ℕ × Leaf)) : Type 0 where
  pub kept : IsKept lo (put leaf.first leaf es)
  pub leaves : leaves_of (put leaf.first leaf es) ≡ place leaf (leaves_of es)

pub is_put : (lo : ℕ) (leaf : Leaf) (es : List (ℕ × Leaf)) → lo ≤ leaf.first → IsAligned leaf → IsKept lo es → NoneMeet (extent_of leaf) (leaves_of es) → IsPut lo leaf es
is_put lo leaf [] p a h n = record { kept = (p, refl, a, tt); leaves = refl }
is_put lo leaf (x ∷ xs) p a h n = cases (nat_lt leaf.first x.0) refl (λ q. is_put (x.0 + pages_of x.1.level) leaf xs q a h.3 n.1)
  where
    l : Lies leaf x
    l = lies leaf x h.1 n.0

    cases : (b : Bool) → nat_lt leaf.first x.0 ≡ b → (x.0 + pages_of x.1.level ≤ leaf.first → IsPut (x.0 + pages_of x.1.level) leaf xs) → IsPut lo leaf (x ∷ xs)
    cases true t r =
        let u : leaf.first < x.0 = grind (arith, nat_tests) in
        record {
          kept = rw t (p, refl, a, (l.below u, h.1, h.2, h.3));
          leaves = rw (t, ap (λ (n : ℕ). nat_lt leaf.first n) h.1 ∙ t) refl;
        }
    cases false t r =
        let u : x.0 ≤ leaf.first = grind (arith, nat_tests) in
        let v : x.0 < leaf.first = elim (cases_lt x.0 leaf.first) [ inl a ↦ a | inr a ↦ absurd (l.same (omega arith)) ] in
        let i = r (l.above v) in
        let ne : nat_eq x.0 leaf.first ≡ false = ne_eqb x.0 leaf.first l.same in
        record {
          kept = rw (t, ne) (h.0, h.1, h.2, i.kept);
          leaves = rw (t, ne, ap (λ (n : ℕ). nat_lt leaf.first n) h.1 ∙ t) (ap (λ (ls : List Leaf). x.1 ∷ ls) i.leaves);
        }
