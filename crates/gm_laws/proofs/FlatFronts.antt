-- The flat state at a position is that of the entries before it.
use Rattle.std.proofs.Common.{◌<◌, Bool, List, [], arith, cond, false, leb, length, refl, suc, sym, true, ℕ, ◌∙◌, ◌∷◌, ◌≡◌}
use Rattle.std.proofs.lemmas.Bool.Decides.{nat_tests}
use Rattle.gm_flat.specs.FlatState.{Flat}
use Rattle.gm_flat.specs.Replay.{flat, flat_at}
use Rattle.gm_flat.specs.declared.entry.Entry.{Entry}
use Rattle.gm_laws.specs.Fronts.{front}

all_of : (t : Bool) (i : ℕ) (e : Entry) (past : List Entry) (old : Flat) → leb (suc (length past)) i ≡ t → old ≡ flat (front i past) → cond (leb i (length past)) old (flat (e ∷ past)) ≡ flat (cond t (e ∷ past) (front i past))
all_of true i e past old h k = let x : leb i (length past) ≡ false = over (length past) i h in rw x refl
  where
    over : (n i : ℕ) → leb (suc n) i ≡ true → leb i n ≡ false
    over n i h = grind (arith, nat_tests)
all_of false i e past old h k = let x : leb i (length past) ≡ true = within (length past) i h in rw x k
  where
    within : (n i : ℕ) → leb (suc n) i ≡ false → leb i n ≡ true
    within n i h = grind (arith, nat_tests)

pub flat_of_front : (i : ℕ) (past : List Entry) → flat_at i past ≡ flat (front i past)
flat_of_front i [] = refl
flat_of_front i (e ∷ past) = all_of (leb (suc (length past)) i) i e past (flat_at i past) refl (flat_of_front i past)
