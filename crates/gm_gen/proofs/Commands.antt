-- What a command is, by the draw that says so.
use Rattle.std.proofs.Common.{◌≡◌, ℕ, ◌<◌, ◌≤◌, Bool, true, false, ltb, eqb, cond, refl, ap, arith}
use Rattle.std.proofs.lemmas.Bool.Decides.{nat_tests}
use Rattle.gm_gen.specs.Draws.{next, picked}
use Rattle.gm_gen.specs.Workload.{Step, access_drawn, command_by, command_drawn, conversion_drawn, hole_drawn, population_drawn}

choose : (a b c : Bool) (p q r s : Step) → a ≡ true → cond a p (cond b q (cond c r s)) ≡ p
choose true b c p q r s e = refl
choose false b c p q r s e = absurd cc

choose_second : (a b c : Bool) (p q r s : Step) → a ≡ false → b ≡ true → cond a p (cond b q (cond c r s)) ≡ q
choose_second false true c p q r s e f = refl
choose_second true b c p q r s e f = absurd cc
choose_second false false c p q r s e f = absurd cc

choose_third : (a b c : Bool) (p q r s : Step) → a ≡ false → b ≡ false → c ≡ true → cond a p (cond b q (cond c r s)) ≡ r
choose_third false false true p q r s e f h = refl
choose_third true b c p q r s e f h = absurd cc
choose_third false true c p q r s e f h = absurd cc
choose_third false false false p q r s e f h = absurd cc

choose_last : (a b c : Bool) (p q r s : Step) → a ≡ false → b ≡ false → c ≡ false → cond a p (cond b q (cond c r s)) ≡ s
choose_last false false false p q r s e f h = refl
choose_last true b c p q r s e f h = absurd cc
choose_last false true c p q r s e f h = absurd cc
choose_last false false true p q r s e f h = absurd cc

pub is_access : (what x : ℕ) → ltb what 5 ≡ true → command_by what x ≡ access_drawn x
is_access what x e = choose (ltb what 5) (eqb what 5) (eqb what 6) (access_drawn x) (conversion_drawn x) (hole_drawn x) (population_drawn x) e

pub is_conversion : (what x : ℕ) → ltb what 5 ≡ false → eqb what 5 ≡ true → command_by what x ≡ conversion_drawn x
is_conversion what x e f = choose_second (ltb what 5) (eqb what 5) (eqb what 6) (access_drawn x) (conversion_drawn x) (hole_drawn x) (population_drawn x) e f

pub is_hole : (what x : ℕ) → ltb what 5 ≡ false → eqb what 5 ≡ false → eqb what 6 ≡ true → command_by what x ≡ hole_drawn x
is_hole what x e f h = choose_third (ltb what 5) (eqb what 5) (eqb what 6) (access_drawn x) (conversion_drawn x) (hole_drawn x) (population_drawn x) e f h

pub is_population : (what x : ℕ) → ltb what 5 ≡ false → eqb what 5 ≡ false → eqb what 6 ≡ false → command_by what x ≡ population_drawn x
is_population what x e f h = choose_last (ltb what 5) (eqb what 5) (eqb what 6) (access_drawn x) (conversion_drawn x) (hole_drawn x) (population_drawn x) e f h

-- a command, by its first draw
pub command_is : (what x y : ℕ) → y ≡ next x → what ≡ picked 8 y → command_by what y ≡ command_drawn x
command_is what x y e f = rw (f, e) refl

below_is : (a b : ℕ) → b ≤ a → ltb a b ≡ false
below_is a b h = grind (arith, nat_tests)

not_is : (a b : ℕ) → (a ≡ b → ⊥) → eqb a b ≡ false
not_is a b h = grind (arith, nat_tests)

pub is_last : (what x : ℕ) → 5 ≤ what → (what ≡ 5 → ⊥) → (what ≡ 6 → ⊥) → command_by what x ≡ population_drawn x
is_last what x h k l = is_population what x (below_is what 5 h) (not_is what 5 k) (not_is what 6 l)
