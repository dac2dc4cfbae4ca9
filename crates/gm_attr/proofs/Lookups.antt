-- Sets of blocks, as lists of entries: which blocks are in a set after a put and after a removal.
use Rattle.std.proofs.Common.{◌≡◌, ◌≢◌, ℕ, ◌+◌, ◌≤◌, List, [], ◌∷◌, Bool, true, false, not, ◌&&◌, ◌||◌, cond, Option, None, Some, refl, sym, ◌∙◌, ap, arith}
use Rattle.std.specs.Prelude.{nat_eq, nat_lt, nat_le, is_some}
use Rattle.std.proofs.lemmas.Bool.Decides.{nat_tests}
use Rattle.gm_radix.specs.Entries.{lookup, put, without, is_within}

-- the list of a set
abbrev pub Blocks : Type 0
Blocks = List (ℕ × Unit {0})

turned : (a b : ℕ) → nat_eq a b ≡ nat_eq b a
turned a b = grind (arith, nat_tests)

pub lookup-put : (k block : ℕ) (es : Blocks) → lookup k (put block tt es) ≡ cond (nat_eq k block) (Some tt) (lookup k es)
lookup-put k block [] = ap (λ (b : Bool). cond b (Some tt) None) (turned block k)
lookup-put k block (e ∷ es) = cases (nat_lt block e.0) (nat_eq e.0 block) refl refl (lookup-put k block es)
  where
    same : nat_eq e.0 block ≡ true → nat_eq e.0 k ≡ nat_eq k block
    same p = grind (arith, nat_tests)

    inner : (s t : Bool) → cond s (Some e.1) (cond t (Some tt) (lookup k es)) ≡ cond t (Some tt) (cond s (Some e.1) (lookup k es))
    inner true true = refl
    inner true false = refl
    inner false true = refl
    inner false false = refl

    replaced : (t : Bool) → nat_eq k block ≡ t → nat_eq e.0 block ≡ true → cond t (Some tt) (lookup k es) ≡ cond t (Some tt) (cond (nat_eq e.0 k) (Some e.1) (lookup k es))
    replaced true p q = refl
    replaced false p q = ap (λ (b : Bool). cond b (Some e.1) (lookup k es)) (sym (same q ∙ p))

    cases : (s t : Bool) → nat_lt block e.0 ≡ s → nat_eq e.0 block ≡ t → lookup k (put block tt es) ≡ cond (nat_eq k block) (Some tt) (lookup k es) → lookup k (cond s ((block, tt) ∷ e ∷ es) (cond t ((block, tt) ∷ es) (e ∷ put block tt es))) ≡ cond (nat_eq k block) (Some tt) (lookup k (e ∷ es))
    cases true t p q h = ap (λ (b : Bool). cond b (Some tt) (lookup k (e ∷ es))) (turned block k)
    cases false true p q h = ap (λ (b : Bool). cond b (Some tt) (lookup k es)) (turned block k) ∙ replaced (nat_eq k block) refl q
    cases false false p q h = ap (λ (o : Option (Unit {0})). cond (nat_eq e.0 k) (Some e.1) o) h ∙ inner (nat_eq e.0 k) (nat_eq k block)

pub lookup-without : (k lo hi : ℕ) (es : Blocks) → lookup k (without lo hi es) ≡ cond (nat_le lo k && nat_lt k hi) None (lookup k es)
lookup-without k lo hi [] = nothing (nat_le lo k && nat_lt k hi) None
  where
    nothing : (b : Bool) (o : Option (Unit {0})) → o ≡ cond b o o
    nothing true o = refl
    nothing false o = refl
lookup-without k lo hi (e ∷ es) = cases (is_within lo hi e) (nat_eq e.0 k) refl refl (lookup-without k lo hi es)
  where
    same : nat_eq e.0 k ≡ true → is_within lo hi e ≡ (nat_le lo k && nat_lt k hi)
    same p = grind (arith, nat_tests)

    cases : (s t : Bool) → is_within lo hi e ≡ s → nat_eq e.0 k ≡ t → lookup k (without lo hi es) ≡ cond (nat_le lo k && nat_lt k hi) None (lookup k es) → lookup k (cond s (without lo hi es) (e ∷ without lo hi es)) ≡ cond (nat_le lo k && nat_lt k hi) None (cond t (Some e.1) (lookup k es))
    cases true true p q h = h ∙ (ap (λ (b : Bool). cond b None (lookup k es)) (sym (same q) ∙ p) ∙ sym (ap (λ (b : Bool). cond b None (Some e.1)) (sym (same q) ∙ p)))
    cases true false p q h = h
    cases false true p q h = ap (λ (b : Bool). cond b (Some e.1) (lookup k (without lo hi es))) q ∙ sym (ap (λ (b : Bool). cond b None (Some e.1)) (sym (same q) ∙ p))
    cases false false p q h = ap (λ (b : Bool). cond b (Some e.1) (lookup k (without lo hi es))) q ∙ h

same : (block : ℕ) → nat_eq block block ≡ true
same block = grind (arith, nat_tests)

alone : (block : ℕ) → (nat_le block block && nat_lt block (block + 1)) ≡ true
alone block = grind (arith, nat_tests)

apart : (k block : ℕ) → k ≢ block → (nat_le block k && nat_lt k (block + 1)) ≡ false
apart k block ne = grind (arith, nat_tests)

-- the block itself and the others, after a put
pub put_here : (block : ℕ) (es : Blocks) → lookup block (put block tt es) ≡ Some tt
put_here block es = lookup-put block block es ∙ ap (λ (b : Bool). cond b (Some tt) (lookup block es)) (same block)

differ : (k block : ℕ) → k ≢ block → nat_eq k block ≡ false
differ k block ne = grind (arith, nat_tests)

pub put_other : (k block : ℕ) (es : Blocks) → k ≢ block → lookup k (put block tt es) ≡ lookup k es
put_other k block es ne = lookup-put k block es ∙ ap (λ (b : Bool). cond b (Some tt) (lookup k es)) (differ k block ne)

-- and after its removal
pub dropped_here : (block : ℕ) (es : Blocks) → lookup block (without block (block + 1) es) ≡ None
dropped_here block es = lookup-without block block (block + 1) es ∙ ap (λ (b : Bool). cond b None (lookup block es)) (alone block)

pub dropped_other : (k block : ℕ) (es : Blocks) → k ≢ block → lookup k (without block (block + 1) es) ≡ lookup k es
dropped_other k block es ne = lookup-without k block (block + 1) es ∙ ap (λ (b : Bool). cond b None (lookup k es)) (apart k block ne)

-- a removal takes the blocks of its range
pub is_some-without : (k lo hi : ℕ) (es : Blocks) → is_some (lookup k (without lo hi es)) ≡ (not (nat_le lo k && nat_lt k hi) && is_some (lookup k es))
is_some-without k lo hi es = ap (λ (o : Option (Unit {0})). is_some o) (lookup-without k lo hi es) ∙ cases (nat_le lo k && nat_lt k hi)
  where
    cases : (b : Bool) → is_some (cond b None (lookup k es)) ≡ (not b && is_some (lookup k es))
    cases true = refl
    cases false = refl

-- a put adds its block to a range that ends before it
pub is_some-put : (k first block : ℕ) (es : Blocks) (old : Bool) → first ≤ block → is_some (lookup k es) ≡ ((nat_le first k && nat_lt k block) || old) → is_some (lookup k (put block tt es)) ≡ ((nat_le first k && nat_lt k (block + 1)) || old)
is_some-put k first block es old f h =
    ap (λ (o : Option (Unit {0})). is_some o) (lookup-put k block es) ∙ cases (nat_eq k block) refl
  where
    at_block : nat_eq k block ≡ true → (nat_le first k && nat_lt k (block + 1)) ≡ true
    at_block p = grind (arith, nat_tests)

    elsewhere : nat_eq k block ≡ false → (nat_le first k && nat_lt k block) ≡ (nat_le first k && nat_lt k (block + 1))
    elsewhere p = ap (λ (b : Bool). nat_le first k && b) (less p)
      where
        less : nat_eq k block ≡ false → nat_lt k block ≡ nat_lt k (block + 1)
        less p = grind (arith, nat_tests)

    cases : (b : Bool) → nat_eq k block ≡ b → is_some (cond b (Some tt) (lookup k es)) ≡ ((nat_le first k && nat_lt k (block + 1)) || old)
    cases true p = sym (ap (λ (b : Bool). b || old) (at_block p))
    cases false p = h ∙ ap (λ (b : Bool). b || old) (elsewhere p)
