-- What it means that ranges meet.
use Rattle.std.proofs.Common.{◌≡◌, ◌↔◌, ℕ, ◌<◌, ◌≤◌, Bool, true, false, ◌&&◌, refl, ap, ◌∙◌, arith}
use Rattle.std.specs.Prelude.{nat_lt, nat_le}
use Rattle.std.proofs.lemmas.Bool.Decides.{nat_tests}
use Rattle.gm_base.specs.Extent.{meets}
use Rattle.gm_file.specs.declared.ranges.BoundRange.{BoundRange}
use Rattle.gm_file.specs.Ranges.{meets_range}

-- the later of the two first indexes is shared, if one is
shared : (lo hi from to : ℕ) → from < to → (nat_lt lo hi && (nat_lt from hi && nat_lt lo to)) ≡ true → (index : ℕ) × (lo ≤ index) × (index < hi) × (from ≤ index) × (index < to)
shared lo hi from to some h = later (nat_le lo from) refl
  where
    later : (b : Bool) → nat_le lo from ≡ b → (index : ℕ) × (lo ≤ index) × (index < hi) × (from ≤ index) × (index < to)
    later true p = (from, grind (arith, nat_tests), grind (arith, nat_tests), omega arith, some)
    later false p = (lo, omega arith, grind (arith, nat_tests), grind (arith, nat_tests), grind (arith, nat_tests))

meeting : (lo hi from to index : ℕ) → lo ≤ index → index < hi → from ≤ index → index < to → (nat_lt lo hi && (nat_lt from hi && nat_lt lo to)) ≡ true
meeting lo hi from to index a b c d = grind (arith, nat_tests)

pub meets_range_is : (lo hi : ℕ) (r : BoundRange) → r.lo < r.hi → (meets_range lo hi r ≡ true) ↔ ((index : ℕ) × (lo ≤ index) × (index < hi) × (r.lo ≤ index) × (index < r.hi))
meets_range_is lo hi r some = (λ h. shared lo hi r.lo r.hi some h, λ s. meeting lo hi r.lo r.hi s.0 s.1 s.2 s.3 s.4)

swapped : (lo hi from to : ℕ) → lo < hi → (nat_lt lo hi && (nat_lt from hi && nat_lt lo to)) ≡ (nat_lt lo to && nat_lt from hi)
swapped lo hi from to some = ap (λ (b : Bool). b && (nat_lt from hi && nat_lt lo to)) is_some_range ∙ turned (nat_lt from hi) (nat_lt lo to)
  where
    is_some_range : nat_lt lo hi ≡ true
    is_some_range = grind (arith, nat_tests)

    turned : (a b : Bool) → (a && b) ≡ (b && a)
    turned true true = refl
    turned true false = refl
    turned false true = refl
    turned false false = refl

pub meets_is : (lo hi : ℕ) (r : BoundRange) → lo < hi → meets_range lo hi r ≡ meets (record { lo = lo; hi = hi }) (record { lo = r.lo; hi = r.hi })
meets_is lo hi r some = swapped lo hi r.lo r.hi some
