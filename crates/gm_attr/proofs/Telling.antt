-- Kinds and the calls that set them.
use Rattle.std.proofs.Common.{◌≡◌, ◌≢◌, ℕ, zero, suc, ◌+◌, ◌-◌, ◌<◌, ◌≤◌, List, Bool, true, false, ◌&&◌, cond, Option, None, Some, refl, sym, ◌∙◌, ap, arith}
use Rattle.std.specs.Prelude.{nat_eq, nat_lt, nat_le, MatchBool, is_some}
use mathlib.Core.Bool.{beq}
use Rattle.std.proofs.lemmas.Bool.Decides.{nat_tests}
use Rattle.gm_base.specs.Extent.{Extent, holds}
use Rattle.gm_base.specs.Values.{same_kind}
use Rattle.gm_base.specs.declared.values.Kind.{Kind}
use Rattle.gm_base.specs.declared.values.Kind.TheVariants.{Private, Shared}
use Rattle.gm_flat.specs.Attribute.{attr_of}
use Rattle.gm_flat.specs.Calls.{all_have}
use Rattle.gm_flat.specs.FlatState.{AttrCall}
use Rattle.gm_ranges.specs.Runs.{turned}
use Rattle.gm_attr.specs.Flags.{FlagIs}
use Rattle.gm_attr.specs.Kinds.{AllHave, IsMixed, IsUniform, SomeOther, kind_if}

-- the kinds of a choice
pub kind_of_choice : (h value old : Bool) → kind_if (cond h value old) ≡ cond h (kind_if value) (kind_if old)
kind_of_choice true value old = refl
kind_of_choice false value old = refl

-- what a flag says of the kinds
pub told_by_flag : (edges : List ℕ) (block : ℕ) (o : Option (Unit {0})) → FlagIs edges block o → MatchBool (is_some o) (IsMixed (λ (page : ℕ). kind_if (turned false edges page)) block) (IsUniform (λ (page : ℕ). kind_if (turned false edges page)) block)
told_by_flag edges block None f = λ page other p o. ap kind_if (f.1 page p ∙ sym (f.1 other o))
told_by_flag edges block (Some flag) f = (f.0, f.1, f.2, f.3, ap kind_if f.4, ap kind_if f.5)

-- the same of kinds that are equal page by page
pub told_by_kinds : (kind known : ℕ → Kind) (block : ℕ) (b : Bool) → ((page : ℕ) → kind page ≡ known page) → MatchBool b (IsMixed kind block) (IsUniform kind block) → MatchBool b (IsMixed known block) (IsUniform known block)
told_by_kinds kind known block true same m = (m.0, m.1, m.2, m.3, sym (same m.0) ∙ m.4, sym (same m.1) ∙ m.5)
told_by_kinds kind known block false same m = λ page other p o. sym (same page) ∙ (m page other p o ∙ same other)

different : (value wanted : Bool) → value ≢ wanted → kind_if value ≡ kind_if wanted → ⊥
different true true ne e = ne refl
different true false ne e = cc
different false true ne e = cc
different false false ne e = ne refl

first_held : (lo hi : ℕ) → lo < hi → (nat_le lo lo && nat_lt lo hi) ≡ true
first_held lo hi l = grind (arith, nat_tests)

other : (edges : List ℕ) (span : Extent) (value wanted : Bool) (kind : Kind) → value ≢ wanted → kind_if wanted ≡ kind → span.lo < span.hi → ((page : ℕ) → holds span page ≡ true → turned false edges page ≡ value) → SomeOther (λ (page : ℕ). kind_if (turned false edges page)) span kind
other edges span value wanted kind ne is some all =
    (span.lo, first_held span.lo span.hi some, (λ e. different value wanted ne (ap kind_if (sym (all span.lo (first_held span.lo span.hi some))) ∙ (e ∙ sym is))))

-- every page has the one value, or the wanted kind is another
pub all_or_other : (edges : List ℕ) (span : Extent) (value wanted : Bool) (kind : Kind) → kind_if wanted ≡ kind → span.lo < span.hi → ((page : ℕ) → holds span page ≡ true → turned false edges page ≡ value) → MatchBool (beq value wanted) (AllHave (λ (page : ℕ). kind_if (turned false edges page)) span kind) (SomeOther (λ (page : ℕ). kind_if (turned false edges page)) span kind)
all_or_other edges span true true kind is some all = λ page held. ap kind_if (all page held) ∙ is
all_or_other edges span true false kind is some all = other edges span true false kind (λ e. absurd cc) is some all
all_or_other edges span false true kind is some all = other edges span false true kind (λ e. absurd cc) is some all
all_or_other edges span false false kind is some all = λ page held. ap kind_if (all page held) ∙ is

-- where two pages differ one has another kind than the wanted one
pub one_other : (edges : List ℕ) (span : Extent) (kind : Kind) → ((page : ℕ) × (other : ℕ) × (holds span page ≡ true) × (holds span other ≡ true) × (turned false edges page ≡ true) × (turned false edges other ≡ false)) → SomeOther (λ (page : ℕ). kind_if (turned false edges page)) span kind
one_other edges span Private two = (two.1, two.3, (λ e. apart (sym (ap kind_if two.5) ∙ e)))
  where
    apart : kind_if false ≡ Private → ⊥
    apart e = cc
one_other edges span Shared two = (two.0, two.2, (λ e. apart (sym (ap kind_if two.4) ∙ e)))
  where
    apart : kind_if true ≡ Shared → ⊥
    apart e = cc

same_true : (a b : Kind) → a ≡ b → same_kind a b ≡ true
same_true Private Private e = refl
same_true Private Shared e = absurd cc
same_true Shared Private e = absurd cc
same_true Shared Shared e = refl

same_false : (a b : Kind) → (a ≡ b → ⊥) → same_kind a b ≡ false
same_false Private Private e = absurd (e refl)
same_false Private Shared e = refl
same_false Shared Private e = refl
same_false Shared Shared e = absurd (e refl)

-- the count of pages from one on all have a kind
all_true : (kind : Kind) (lo n : ℕ) (calls : List AttrCall) → ((k : ℕ) → k < n → attr_of (lo + k) calls ≡ kind) → all_have kind lo n calls ≡ true
all_true kind lo zero calls h = refl
all_true kind lo (suc n) calls h =
    ap (λ (b : Bool). b && all_have kind lo n calls) (same_true (attr_of (lo + n) calls) kind (h n (omega arith))) ∙ all_true kind lo n calls (λ k l. h k (omega arith))

all_false : (kind : Kind) (lo n k : ℕ) (calls : List AttrCall) → k < n → (attr_of (lo + k) calls ≡ kind → ⊥) → all_have kind lo n calls ≡ false
all_false kind lo zero k calls l h = absurd (omega arith)
all_false kind lo (suc n) k calls l h = cases (nat_eq k n) refl (λ m. all_false kind lo n k calls m h)
  where
    and_false : (a : Bool) → (a && false) ≡ false
    and_false true = refl
    and_false false = refl

    cases : (b : Bool) → nat_eq k n ≡ b → (k < n → all_have kind lo n calls ≡ false) → (same_kind (attr_of (lo + n) calls) kind && all_have kind lo n calls) ≡ false
    cases true p rest =
        let is : k ≡ n = grind (arith, nat_tests) in
        ap (λ (b : Bool). b && all_have kind lo n calls) (same_false (attr_of (lo + n) calls) kind (λ e. h (ap (λ (m : ℕ). attr_of (lo + m) calls) is ∙ e)))
    cases false p rest =
        let less : k < n = grind (arith, nat_tests) in
        ap (λ (b : Bool). same_kind (attr_of (lo + n) calls) kind && b) (rest less) ∙ and_false (same_kind (attr_of (lo + n) calls) kind)

-- the answer over the calls
pub all_have_is : (kind : ℕ → Kind) (span : Extent) (wanted : Kind) (calls : List AttrCall) → ((page : ℕ) → kind page ≡ attr_of page calls) → (b : Bool) → MatchBool b (AllHave kind span wanted) (SomeOther kind span wanted) → b ≡ all_have wanted span.lo (span.hi - span.lo) calls
all_have_is kind span wanted calls tells true m =
    sym (all_true wanted span.lo (span.hi - span.lo) calls (λ k l. sym (tells (span.lo + k)) ∙ m (span.lo + k) (held span.lo span.hi k l)))
  where
    held : (lo hi k : ℕ) → k < hi - lo → (nat_le lo (lo + k) && nat_lt (lo + k) hi) ≡ true
    held lo hi k l = grind (arith, nat_tests)
all_have_is kind span wanted calls tells false m =
    sym (all_false wanted span.lo (span.hi - span.lo) (m.0 - span.lo) calls (below span.lo span.hi m.0 m.1) (λ e. m.2 (tells m.0 ∙ (ap (λ (p : ℕ). attr_of p calls) (back span.lo span.hi m.0 m.1) ∙ e))))
  where
    below : (lo hi page : ℕ) → (nat_le lo page && nat_lt page hi) ≡ true → page - lo < hi - lo
    below lo hi page h = let q : (lo ≤ page) × (page < hi) = grind (arith, nat_tests) in omega arith

    back : (lo hi page : ℕ) → (nat_le lo page && nat_lt page hi) ≡ true → page ≡ lo + (page - lo)
    back lo hi page h = let q : (lo ≤ page) × (page < hi) = grind (arith, nat_tests) in omega arith
