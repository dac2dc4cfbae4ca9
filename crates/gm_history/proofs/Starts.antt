-- The last start up to a serial.
use Rattle.std.proofs.Common.{◌≡◌, ℕ, ◌+◌, ◌<◌, ◌≤◌, List, [], ◌∷◌, ◌++◌, Option, None, Some, false, arith, refl}
use Rattle.std.specs.Prelude.{IsSome}
use Rattle.std.specs.declared.ops.Bound.TheVariants.{Included, Unbounded}
use Rattle.std.specs.Ordering.{nat_cmp, is_gt}
use Rattle.std.specs.BTreeMap.{BTreeMap, get}
use Rattle.std.specs.BTreeMap.Range.{IsRangeOf}
use Rattle.std.proofs.lemmas.Grind.{common_steps}
use Rattle.std.proofs.lemmas.Map.Keys.{le_from_not_gt, ge_from_not_lt}
use Rattle.gm_history.specs.Frames.{NoStart, IsLastStart}

not_gt : (a b : ℕ) → a ≤ b → is_gt (nat_cmp a b) ≡ false
not_gt a b h = grind (arith, common_steps)

-- a start that stands there would be no later
none_later : (o : Option (Option ℕ)) (start q : ℕ) → start + 1 ≤ q → (IsSome o → q ≤ start) → o ≡ None
none_later None start q h k = refl
none_later (Some v) start q h k = let l : q ≤ start = k refl in absurd (omega (arith, l))

pub last_of : (m : BTreeMap ℕ (Option ℕ)) (serial : ℕ) (r t : List (ℕ × Option ℕ)) (start : ℕ) (frame : Option ℕ) → IsRangeOf nat_cmp Unbounded (Included serial) m r → r ≡ t ++ (start, frame) ∷ [] → IsLastStart (get nat_cmp m) serial start frame
last_of m serial r t start frame h e =
    let a = h.3 (start, frame) t e in
    record {
      start_is = a.1;
      up_to = le_from_not_gt start serial a.0.1;
      no_later = λ q lo hi. none_later (get nat_cmp m q) start q lo (λ some. ge_from_not_lt start q (h.4 (start, frame) t e q (tt, not_gt q serial hi) some));
    }
