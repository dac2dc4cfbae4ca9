-- Where entries stand.
use Rattle.std.proofs.Common.{◌<◌, Bool, List, [], ap, arith, false, inl, inr, length, refl, suc, sym, true, ℕ, ◌∙◌, ◌∷◌, ◌≡◌}
use Rattle.gm_flat.specs.declared.entry.Entry.{Entry}
use Rattle.gm_laws.specs.Stands.{HasNone, IsLast, NoneAfter, Stands}

pub stands_lt : (e : Entry) (past history : List Entry) → Stands e past history → length past < length history
stands_lt e past [] s = absurd s
stands_lt e past (d ∷ history) s = elim s [
  | inl x ↦ same_lt past history x.1
  | inr y ↦ more (length past) (length history) (stands_lt e past history y)
]
  where
    same_lt : (past history : List Entry) → history ≡ past → length past < suc (length history)
    same_lt past history e = let x : length history ≡ length past = ap length e in omega arith

    more : (a b : ℕ) → a < b → a < suc b
    more a b h = omega arith

pub last_here : (test : Entry → Bool) (e : Entry) (past : List Entry) → test e ≡ true → IsLast test e past (e ∷ past)
last_here test e past t =
    record {
      stands = inl (refl, refl);
      passes = t;
      last = λ d before s lt. elim s [
        | inl x ↦ absurd (not_after past before x.1 lt)
        | inr y ↦ absurd (before_it (length before) (length past) (stands_lt d before past y) lt)
      ];
    }
  where
    not_after : (past before : List Entry) → past ≡ before → length past < length before → ⊥
    not_after past before e lt = let x : length past ≡ length before = ap length e in omega arith

    before_it : (a b : ℕ) → a < b → b < a → ⊥
    before_it a b h k = omega arith

pub none_after_skip : (n : ℕ) (test : Entry → Bool) (x : Entry) (past : List Entry) → test x ≡ false → NoneAfter n test past → NoneAfter n test (x ∷ past)
none_after_skip n test x past t f d before s lt = elim s [
  | inl y ↦ ap test (sym y.0) ∙ t
  | inr y ↦ f d before y lt
]

pub last_skip : (test : Entry → Bool) (x e : Entry) (before past : List Entry) → test x ≡ false → IsLast test e before past → IsLast test e before (x ∷ past)
last_skip test x e before past t l = record { stands = inr l.stands; passes = l.passes; last = none_after_skip (length before) test x past t l.last }

pub none_skip : (test : Entry → Bool) (x : Entry) (past : List Entry) → test x ≡ false → HasNone test past → HasNone test (x ∷ past)
none_skip test x past t f d before s = elim s [
  | inl y ↦ ap test (sym y.0) ∙ t
  | inr y ↦ f d before y
]

-- what is after the newest entry
pub none_after_here : (test : Entry → Bool) (e : Entry) (past : List Entry) → NoneAfter (length past) test (e ∷ past)
none_after_here test e past d before s lt = elim s [
  | inl x ↦ absurd (not_after past before x.1 lt)
  | inr y ↦ absurd (before_it (length before) (length past) (stands_lt d before past y) lt)
]
  where
    not_after : (past before : List Entry) → past ≡ before → length past < length before → ⊥
    not_after past before e lt = let x : length past ≡ length before = ap length e in omega arith

    before_it : (a b : ℕ) → a < b → b < a → ⊥
    before_it a b h k = omega arith

pub none_after_less : (n : ℕ) (test : Entry → Bool) (x : Entry) (past : List Entry) → NoneAfter n test (x ∷ past) → NoneAfter n test past
none_after_less n test x past f d before s lt = f d before (inr s) lt

pub newest_none : (n : ℕ) (test : Entry → Bool) (x : Entry) (past : List Entry) → n < length past → NoneAfter n test (x ∷ past) → test x ≡ false
newest_none n test x past lt f = f x past (inl (refl, refl)) lt
