-- Decimals are read back, where no digit follows.
use Rattle.std.proofs.Common.{◌≡◌, ℕ, ◌+◌, ◌%◌, ◌^◌, ◌<◌, List, [], ◌∷◌, ◌++◌, Bool, true, false, ◌&&◌, leb, refl, sym, ◌∙◌, ap, arith}
use Rattle.std.specs.Fmt.{decimal}
use Rattle.std.proofs.lemmas.Fmt.{decimal_by_steps, decimal_injective}
use Rattle.std.proofs.lemmas.Bool.{both_ways}
use Rattle.std.proofs.lemmas.Bool.Decides.{nat_tests}

abbrev pub is_digit : ℕ → Bool
is_digit b = leb 48 b && leb b 57

-- the text begins with no digit
abbrev pub NoDigit : List ℕ → Type 0
NoDigit [] = Unit {0}
NoDigit (b ∷ x) = is_digit b ≡ false

abbrev AllDigit : List ℕ → Type 0
AllDigit [] = Unit {0}
AllDigit (b ∷ ds) = (is_digit b ≡ true) × AllDigit ds

-- one digit or more
abbrev IsDigits : List ℕ → Type 0
IsDigits [] = ⊥
IsDigits (b ∷ ds) = (is_digit b ≡ true) × AllDigit ds

digit_is : (d : ℕ) → d < 10 → is_digit (48 + d) ≡ true
digit_is d h = grind (arith, nat_tests)

all_push : (ds : List ℕ) (b : ℕ) → AllDigit ds → is_digit b ≡ true → AllDigit (ds ++ b ∷ [])
all_push [] b h e = (e, tt)
all_push (d ∷ ds) b h e = (h.0, all_push ds b h.1 e)

digits_push : (ds : List ℕ) (b : ℕ) → IsDigits ds → is_digit b ≡ true → IsDigits (ds ++ b ∷ [])
digits_push [] b h e = absurd h
digits_push (d ∷ ds) b h e = (h.0, all_push ds b h.1 e)

last_digit : (n : ℕ) → n % 10 < 10
last_digit n = omega arith

decimal_digits : (n : ℕ) → n < 2 ^ 64 → IsDigits (decimal n)
decimal_digits n h =
    decimal_by_steps (λ (m : ℕ) (ds : List ℕ). IsDigits ds) (λ m lt. (digit_is m lt, tt))
    (λ m ds le k. digits_push ds (48 + m % 10) k (digit_is (m % 10) (last_digit m))) n h

all_digits : (ds : List ℕ) → IsDigits ds → AllDigit ds
all_digits [] h = absurd h
all_digits (d ∷ ds) h = h

-- the digits end where the first other byte stands
split : (ds es x y : List ℕ) → AllDigit ds → AllDigit es → NoDigit x → NoDigit y → ds ++ x ≡ es ++ y → (ds ≡ es) × (x ≡ y)
split [] [] x y p q hx hy e = (refl, e)
split [] (d ∷ es) [] y p q hx hy e = absurd (clash e)
  where
    clash : {b : ℕ} {l : List ℕ} → [] ≡ b ∷ l → ⊥
    clash e = cc
split [] (d ∷ es) (b ∷ x) y p q hx hy e =
    let same : b ≡ d = cc in
    absurd (both_ways (is_digit b) hx (ap is_digit same ∙ q.0))
split (d ∷ ds) [] x [] p q hx hy e = absurd (clash e)
  where
    clash : {b : ℕ} {l : List ℕ} → b ∷ l ≡ [] → ⊥
    clash e = cc
split (d ∷ ds) [] x (b ∷ y) p q hx hy e =
    let same : b ≡ d = cc in
    absurd (both_ways (is_digit b) hy (ap is_digit same ∙ p.0))
split (d ∷ ds) (c ∷ es) x y p q hx hy e =
    let same : d ≡ c = cc in
    let rest : ds ++ x ≡ es ++ y = cc in
    let r = split ds es x y p.1 q.1 hx hy rest in
    (ap (λ (b : ℕ). b ∷ ds) same ∙ ap (λ (l : List ℕ). c ∷ l) r.0, r.1)

pub decimal_apart : (m n : ℕ) (x y : List ℕ) → m < 2 ^ 64 → n < 2 ^ 64 → NoDigit x → NoDigit y → decimal m ++ x ≡ decimal n ++ y → (m ≡ n) × (x ≡ y)
decimal_apart m n x y hm hn hx hy e =
    let r = split (decimal m) (decimal n) x y (all_digits (decimal m) (decimal_digits m hm)) (all_digits (decimal n) (decimal_digits n hn)) hx hy e in
    (decimal_injective m n hm hn r.0, r.1)

-- a decimal begins with a digit
first_is : (ds y x : List ℕ) (b : ℕ) → IsDigits ds → ds ++ y ≡ b ∷ x → is_digit b ≡ true
first_is [] y x b h e = absurd h
first_is (d ∷ ds) y x b h e =
    let same : d ≡ b = cc in
    ap is_digit (sym same) ∙ h.0

pub decimal_first : (n b : ℕ) (y x : List ℕ) → n < 2 ^ 64 → decimal n ++ y ≡ b ∷ x → is_digit b ≡ true
decimal_first n b y x h e = first_is (decimal n) y x b (decimal_digits n h) e
