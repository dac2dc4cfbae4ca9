-- Taking away what meets each span in turn takes away what meets one of them.
use Rattle.std.proofs.Common.{◌≡◌, ℕ, ◌+◌, ◌<◌, List, [], ◌∷◌, length, drop, get_or, refl, ap, ◌∙◌, Bool, true, false, ◌||◌, add-one}
use Rattle.std.specs.Prelude.{None, Some, if◌then◌else◌}
use Rattle.std.specs.declared.option.Option.{Option}
use Rattle.std.proofs.Math.Seq.{drop-cons}
use Rattle.gm_base.specs.Extent.{Extent}
use Rattle.gm_base.specs.Leaf.{meets_leaf}
use Rattle.gm_base.specs.declared.leaf.Leaf.{Leaf}
use Rattle.gm_table.specs.Leaves.{apart_from, unless_met}
use Rattle.gm_mmu.specs.Served.{meets_one, apart_from_all, unless_one_met}

pub apart_from_all-none : (leaves : List Leaf) → apart_from_all [] leaves ≡ leaves
apart_from_all-none [] = refl
apart_from_all-none (leaf ∷ leaves) = ap (λ (ls : List Leaf). leaf ∷ ls) (apart_from_all-none leaves)

pub apart_from_all-first : (s : Extent) (spans : List Extent) (leaves : List Leaf) → apart_from_all (s ∷ spans) leaves ≡ apart_from_all spans (apart_from s leaves)
apart_from_all-first s spans [] = refl
apart_from_all-first s spans (leaf ∷ leaves) = cases (meets_leaf leaf s) (apart_from_all-first s spans leaves)
  where
    inner : (b : Bool) {u : List Leaf} → u ≡ apart_from_all spans (apart_from s leaves) → (if b then u else leaf ∷ u) ≡ (if b then apart_from_all spans (apart_from s leaves) else leaf ∷ apart_from_all spans (apart_from s leaves))
    inner true q = q
    inner false q = ap (λ (ls : List Leaf). leaf ∷ ls) q

    cases : (b : Bool) {u : List Leaf} → u ≡ apart_from_all spans (apart_from s leaves) → (if b || meets_one spans leaf then u else leaf ∷ u) ≡ apart_from_all spans (if b then apart_from s leaves else leaf ∷ apart_from s leaves)
    cases true q = q
    cases false q = inner (meets_one spans leaf) q

-- the step of a loop over the spans
pub apart_from_all-step : (spans : List Extent) (i : ℕ) (d : Extent) (leaves : List Leaf) → i < length spans → apart_from_all (drop i spans) leaves ≡ apart_from_all (drop (i + 1) spans) (apart_from (get_or spans i d) leaves)
apart_from_all-step spans i d leaves h =
    ap (λ (ss : List Extent). apart_from_all ss leaves) (drop-cons spans i d h) ∙ rw (← add-one) (apart_from_all-first (get_or spans i d) (drop (i + 1) spans) leaves)

pub unless_one_met-none : (o : Option Leaf) → unless_one_met [] o ≡ o
unless_one_met-none None = refl
unless_one_met-none (Some leaf) = refl

unless_one_met-first : (s : Extent) (spans : List Extent) (o : Option Leaf) → unless_one_met (s ∷ spans) o ≡ unless_one_met spans (unless_met s o)
unless_one_met-first s spans None = refl
unless_one_met-first s spans (Some leaf) = cases (meets_leaf leaf s)
  where
    cases : (b : Bool) → (if b || meets_one spans leaf then None else Some leaf) ≡ unless_one_met spans (if b then None else Some leaf)
    cases true = refl
    cases false = refl

-- the same step for the leaf over a page
pub unless_one_met-step : (spans : List Extent) (i : ℕ) (d : Extent) (o : Option Leaf) → i < length spans → unless_one_met (drop i spans) o ≡ unless_one_met (drop (i + 1) spans) (unless_met (get_or spans i d) o)
unless_one_met-step spans i d o h =
    ap (λ (ss : List Extent). unless_one_met ss o) (drop-cons spans i d h) ∙ rw (← add-one) (unless_one_met-first (get_or spans i d) (drop (i + 1) spans) o)

pub ruleset zapping = (apart_from_all-none, apart_from_all-step, unless_one_met-none, unless_one_met-step)
