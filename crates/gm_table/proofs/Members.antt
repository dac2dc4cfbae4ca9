-- Leaves that are kept under their first pages: which one is over a page, and which ones meet a span.
use Rattle.std.proofs.Common.{◌≡◌, ℕ, ◌+◌, ◌*◌, ◌/◌, ◌<◌, ◌≤◌, ◌⊎◌, inl, inr, List, [], ◌∷◌, refl, ap, sym, ◌∙◌, subst, arith, Bool, true, false}
use Rattle.std.specs.Prelude.{None, Some, nat_eq, if◌then◌else◌}
use Rattle.std.specs.declared.option.Option.{Option}
use Rattle.std.proofs.lemmas.Bool.{ne_eqb, eq-eqb}
use Rattle.std.proofs.lemmas.Bool.Decides.{nat_tests}
use Rattle.gm_base.specs.Leaf.{covers}
use Rattle.gm_base.specs.Values.{pages_of}
use Rattle.gm_base.specs.declared.leaf.Leaf.{Leaf}
use Rattle.gm_base.specs.declared.values.Level.{Level}
use Rattle.gm_base.specs.declared.values.Level.TheVariants.{Small, Block}
use Rattle.gm_radix.specs.Entries.{lookup}
use Rattle.gm_table.specs.Kept.{leaves_of, covering, IsKept}
use Rattle.gm_table.specs.Leaves.{leaf_over, LieApart, IsAligned}

-- an entry is one of the list
abbrev pub Among : ℕ × Leaf → List (ℕ × Leaf) → Type 0
Among e [] = ⊥
Among e (x ∷ xs) = (e ≡ x) ⊎ Among e xs

pub pages_some : (level : Level) → 0 < pages_of level
pages_some Small = omega arith
pages_some Block = omega arith

-- what is known of each entry
pub record IsPlaced (e : ℕ × Leaf) : Type 0 where
  pub first : e.1.first ≡ e.0
  pub aligned : IsAligned e.1

pub placed : (lo : ℕ) (e : ℕ × Leaf) (es : List (ℕ × Leaf)) → IsKept lo es → Among e es → IsPlaced e
placed lo e [] h p = absurd p
placed lo e (x ∷ xs) h (inl p) = subst (λ (y : ℕ × Leaf). IsPlaced y) (sym p) (record { first = h.1; aligned = h.2 })
placed lo e (x ∷ xs) h (inr p) = placed (x.0 + pages_of x.1.level) e xs h.3 p

pub at_least : (lo : ℕ) (e : ℕ × Leaf) (es : List (ℕ × Leaf)) → IsKept lo es → Among e es → lo ≤ e.0
at_least lo e [] h p = absurd p
at_least lo e (x ∷ xs) h (inl p) = rw p h.0
at_least lo e (x ∷ xs) h (inr p) = omega (arith, h.0, at_least (x.0 + pages_of x.1.level) e xs h.3 p)

-- of two entries the first ends before the second begins
pub apart_members : (lo : ℕ) (b e : ℕ × Leaf) (es : List (ℕ × Leaf)) → IsKept lo es → Among b es → Among e es → b.0 < e.0 → b.0 + pages_of b.1.level ≤ e.0
apart_members lo b e [] h p q l = absurd p
apart_members lo b e (x ∷ xs) h (inl p) (inl q) l = absurd (omega (arith, ap (λ (y : ℕ × Leaf). y.0) (p ∙ sym q)))
apart_members lo b e (x ∷ xs) h (inl p) (inr q) l = rw p (at_least (x.0 + pages_of x.1.level) e xs h.3 q)
apart_members lo b e (x ∷ xs) h (inr p) (inl q) l = absurd (omega (arith, ap (λ (y : ℕ × Leaf). y.0) q, at_least (x.0 + pages_of x.1.level) b xs h.3 p))
apart_members lo b e (x ∷ xs) h (inr p) (inr q) l = apart_members (x.0 + pages_of x.1.level) b e xs h.3 p q l

-- an entry is found under its page
pub lookup-member : (lo : ℕ) (e : ℕ × Leaf) (es : List (ℕ × Leaf)) → IsKept lo es → Among e es → lookup e.0 es ≡ Some e.1
lookup-member lo e [] h p = absurd p
lookup-member lo e (x ∷ xs) h (inl p) = rw (p, eq-eqb x.0 x.0 refl) refl
lookup-member lo e (x ∷ xs) h (inr p) =
    let pages = pages_some x.1.level in
    let above = at_least (x.0 + pages_of x.1.level) e xs h.3 p in
    rw (ne_eqb x.0 e.0 (λ q. omega arith)) (lookup-member (x.0 + pages_of x.1.level) e xs h.3 p)

-- what is found is an entry
pub member-lookup : (k : ℕ) (leaf : Leaf) (es : List (ℕ × Leaf)) → lookup k es ≡ Some leaf → Among (k, leaf) es
member-lookup k leaf [] h = absurd (cc)
member-lookup k leaf (x ∷ xs) h = cases (nat_eq x.0 k) refl h (member-lookup k leaf xs)
  where
    cases : (b : Bool) → nat_eq x.0 k ≡ b → (if b then Some x.1 else lookup k xs) ≡ Some leaf → (lookup k xs ≡ Some leaf → Among (k, leaf) xs) → Among (k, leaf) (x ∷ xs)
    cases true t g r =
        let key : x.0 ≡ k = grind (arith, nat_tests) in
        let value : x.1 ≡ leaf = cc in
        inl (ap (λ (n : ℕ). (n, leaf)) (sym key) ∙ ap (λ (l : Leaf). (x.0, l)) (sym value))
    cases false t g r = inr (r g)

-- the leaf of an entry that covers a page is the one over it
pub over_member : (lo page : ℕ) (e : ℕ × Leaf) (es : List (ℕ × Leaf)) → IsKept lo es → Among e es → covers e.1 page ≡ true → leaf_over (leaves_of es) page ≡ Some e.1
over_member lo page e [] h p c = absurd p
over_member lo page e (x ∷ xs) h (inl p) c = rw (ap (λ (y : ℕ × Leaf). covers y.1 page) (sym p) ∙ c) (ap (λ (y : ℕ × Leaf). Some y.1) (sym p))
over_member lo page e (x ∷ xs) h (inr p) c =
    let above = at_least (x.0 + pages_of x.1.level) e xs h.3 p in
    let first = (placed (x.0 + pages_of x.1.level) e xs h.3 p).first in
    rw (before x e page h.1 first above c) (over_member (x.0 + pages_of x.1.level) page e xs h.3 p c)
  where
    before : (x e : ℕ × Leaf) (page : ℕ) → x.1.first ≡ x.0 → e.1.first ≡ e.0 → x.0 + pages_of x.1.level ≤ e.0 → covers e.1 page ≡ true → covers x.1 page ≡ false
    before x e page f g a c = grind (arith, nat_tests)

none_over : (page : ℕ) (es : List (ℕ × Leaf)) → ((e : ℕ × Leaf) → Among e es → covers e.1 page ≡ false) → leaf_over (leaves_of es) page ≡ None
none_over page [] n = refl
none_over page (x ∷ xs) n = rw (n x (inl refl)) (none_over page xs (λ e p. n e (inr p)))

-- what `covering` tells
pub covering_some : (page : ℕ) (o : Option Leaf) (leaf : Leaf) → covering page o ≡ Some leaf → (o ≡ Some leaf) × (covers leaf page ≡ true)
covering_some page None leaf h = absurd (cc)
covering_some page (Some other) leaf h = cases (covers other page) refl h
  where
    cases : (b : Bool) → covers other page ≡ b → (if b then Some other else None) ≡ Some leaf → (Some other ≡ Some leaf) × (covers leaf page ≡ true)
    cases true t g = (g, (let same : other ≡ leaf = cc in subst (λ (l : Leaf). covers l page ≡ true) same t))
    cases false t g = absurd (cc)

pub covering_none : (page : ℕ) (o : Option Leaf) (leaf : Leaf) → covering page o ≡ None → o ≡ Some leaf → covers leaf page ≡ false
covering_none page None leaf h e = absurd (cc)
covering_none page (Some other) leaf h e = cases (covers other page) refl h
  where
    cases : (b : Bool) → covers other page ≡ b → (if b then Some other else None) ≡ None → covers leaf page ≡ false
    cases true t g = absurd (cc)
    cases false t g = let same : other ≡ leaf = cc in subst (λ (l : Leaf). covers l page ≡ false) same t

-- a leaf that is found under any page and covers this one is the one over it
pub over_found : (k page : ℕ) (leaf : Leaf) (es : List (ℕ × Leaf)) → IsKept 0 es → covering page (lookup k es) ≡ Some leaf → leaf_over (leaves_of es) page ≡ Some leaf
over_found k page leaf es h c =
    let found = covering_some page (lookup k es) leaf c in
    over_member 0 page (k, leaf) es h (member-lookup k leaf es found.0) found.1

-- a leaf that covers a page begins at the page, or at its block
pub covered_from : (level : Level) (first page : ℕ) → (level ≡ Block → 512 * (first / 512) ≡ first) → first ≤ page → page < first + pages_of level → (first ≡ page) ⊎ (first ≡ 512 * (page / 512))
covered_from Small first page a l u = inl (omega arith)
covered_from Block first page a l u = inr (let b = a refl in omega arith)

pub not_both : (b : Bool) → b ≡ true → b ≡ false → ⊥
not_both b t f = absurd (cc)

-- where neither the page's entry nor its block's covers it, no leaf does
pub over_none : (page : ℕ) (es : List (ℕ × Leaf)) → IsKept 0 es → covering page (lookup page es) ≡ None → covering page (lookup (512 * (page / 512)) es) ≡ None → leaf_over (leaves_of es) page ≡ None
over_none page es h p q = none_over page es (λ e m. cases e m (covers e.1 page) refl)
  where
    found : (e : ℕ × Leaf) (k : ℕ) → Among e es → e.0 ≡ k → covering page (lookup k es) ≡ None → covers e.1 page ≡ false
    found e k m s n = covering_none page (lookup k es) e.1 n (ap (λ (i : ℕ). lookup i es) (sym s) ∙ lookup-member 0 e es h m)

    cases : (e : ℕ × Leaf) → Among e es → (b : Bool) → covers e.1 page ≡ b → covers e.1 page ≡ false
    cases e m false t = t
    cases e m true t =
        let is = placed 0 e es h m in
        let first = is.first in
        let low : e.1.first ≤ page = grind (arith, nat_tests) in
        let high : page < e.1.first + pages_of e.1.level = grind (arith, nat_tests) in
        elim (covered_from e.1.level e.1.first page is.aligned low high) [
          | inl a ↦ found e page m (sym first ∙ a) p
          | inr a ↦ found e (512 * (page / 512)) m (sym first ∙ a) q
        ]

-- the second look-up decides
pub over_last : (page : ℕ) (es : List (ℕ × Leaf)) → IsKept 0 es → covering page (lookup page es) ≡ None → covering page (lookup (512 * (page / 512)) es) ≡ leaf_over (leaves_of es) page
over_last page es h p = cases (covering page (lookup (512 * (page / 512)) es)) refl
  where
    cases : (o : Option Leaf) → covering page (lookup (512 * (page / 512)) es) ≡ o → o ≡ leaf_over (leaves_of es) page
    cases None e = sym (over_none page es h p e)
    cases (Some leaf) e = sym (over_found (512 * (page / 512)) page leaf es h e)

pub lie_apart : (lo : ℕ) (es : List (ℕ × Leaf)) → IsKept lo es → LieApart lo (leaves_of es)
lie_apart lo [] h = tt
lie_apart lo (x ∷ xs) h = (rw h.1 h.0, rw h.1 (lie_apart (x.0 + pages_of x.1.level) xs h.3))
