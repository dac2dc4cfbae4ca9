-- Texts of words and fields in turn, where each word begins with a byte that is no digit, are read back field by field.
use Rattle.std.proofs.Common.{◌≡◌, ℕ, List, [], ◌∷◌, ◌++◌, Bool, true, false, not, ◌&&◌, eqb, Option, None, Some, refl, sym, ◌∙◌, ap, subst, append_assoc, eq-eqb}
use Rattle.std.specs.Prelude.{codes}
use Rattle.std.specs.Fmt.{decimal}
use Rattle.std.proofs.lemmas.List.{append_cancel_left}
use Rattle.std.proofs.lemmas.Bool.{and_parts, both_ways}
use Rattle.gm_base.specs.declared.values.Kind.{Kind}
use Rattle.gm_base.specs.declared.values.Kind.TheVariants.{Private, Shared}
use Rattle.gm_base.specs.declared.values.Level.{Level}
use Rattle.gm_base.specs.declared.values.Level.TheVariants.{Small, Block}
use Rattle.gm_flat.specs.InTypes.{IsU64, IsMaybeU64}
use Rattle.gm_text.specs.Text.{bit_text, kind_text, level_text, maybe_text}
use Rattle.gm_text.proofs.Decimals.{NoDigit, is_digit, decimal_apart, decimal_first}

pub data Field : Type 0 where
  Num : (n : ℕ) → Field
  Maybe : (n : Option ℕ) → Field
  OfKind : (kind : Kind) → Field
  OfLevel : (level : Level) → Field
  Bit : (b : Bool) → Field

abbrev pub field_text : Field → List ℕ
field_text (Num n) = decimal n
field_text (Maybe n) = maybe_text n
field_text (OfKind kind) = kind_text kind
field_text (OfLevel level) = level_text level
field_text (Bit b) = bit_text b

-- two fields of one sort with numbers below 2^64
abbrev pub Alike : Field → Field → Type 0
Alike (Num m) (Num n) = IsU64 m × IsU64 n
Alike (Maybe m) (Maybe n) = IsMaybeU64 m × IsMaybeU64 n
Alike (OfKind k) (OfKind l) = Unit {0}
Alike (OfLevel k) (OfLevel l) = Unit {0}
Alike (Bit b) (Bit c) = Unit {0}
Alike _ g = ⊥

pub heads : {A : Type 0} (a b : ℕ) (x y : List ℕ) → eqb a b ≡ false → a ∷ x ≡ b ∷ y → A
heads a b x y e h =
    let same : a ≡ b = cc in
    absurd (both_ways (eqb a b) e (ap (λ (n : ℕ). eqb a n) (sym same) ∙ self a))
  where
    self : (n : ℕ) → eqb n n ≡ true
    self n = eq-eqb n n refl

maybe_apart : (m n : Option ℕ) (x y : List ℕ) → IsMaybeU64 m → IsMaybeU64 n → NoDigit x → NoDigit y → maybe_text m ++ x ≡ maybe_text n ++ y → (m ≡ n) × (x ≡ y)
maybe_apart None None x y p q hx hy e = (refl, append_cancel_left (codes "-") x y e)
maybe_apart None (Some n) x y p q hx hy e = absurd (both_ways (is_digit 45) refl (decimal_first n 45 y x q (sym e)))
maybe_apart (Some m) None x y p q hx hy e = absurd (both_ways (is_digit 45) refl (decimal_first m 45 x y p e))
maybe_apart (Some m) (Some n) x y p q hx hy e =
    let r = decimal_apart m n x y p q hx hy e in
    (ap (λ (k : ℕ). Some k) r.0, r.1)

kind_apart : (k l : Kind) (x y : List ℕ) → kind_text k ++ x ≡ kind_text l ++ y → (k ≡ l) × (x ≡ y)
kind_apart Private Private x y e = (refl, append_cancel_left (codes "private") x y e)
kind_apart Shared Shared x y e = (refl, append_cancel_left (codes "shared") x y e)
kind_apart Private Shared x y e = heads 112 115 _ _ refl e
kind_apart Shared Private x y e = heads 115 112 _ _ refl e

level_apart : (k l : Level) (x y : List ℕ) → level_text k ++ x ≡ level_text l ++ y → (k ≡ l) × (x ≡ y)
level_apart Small Small x y e = (refl, append_cancel_left (codes "4k") x y e)
level_apart Block Block x y e = (refl, append_cancel_left (codes "2m") x y e)
level_apart Small Block x y e = heads 52 50 _ _ refl e
level_apart Block Small x y e = heads 50 52 _ _ refl e

bit_apart : (b c : Bool) (x y : List ℕ) → bit_text b ++ x ≡ bit_text c ++ y → (b ≡ c) × (x ≡ y)
bit_apart true true x y e = (refl, append_cancel_left (codes "1") x y e)
bit_apart false false x y e = (refl, append_cancel_left (codes "0") x y e)
bit_apart true false x y e = heads 49 48 _ _ refl e
bit_apart false true x y e = heads 48 49 _ _ refl e

field_apart : (f g : Field) (x y : List ℕ) → Alike f g → NoDigit x → NoDigit y → field_text f ++ x ≡ field_text g ++ y → (f ≡ g) × (x ≡ y)
field_apart (Num m) (Num n) x y h hx hy e = let r = decimal_apart m n x y h.0 h.1 hx hy e in (ap (λ (k : ℕ). Num k) r.0, r.1)
field_apart (Maybe m) (Maybe n) x y h hx hy e = let r = maybe_apart m n x y h.0 h.1 hx hy e in (ap (λ (k : Option ℕ). Maybe k) r.0, r.1)
field_apart (OfKind k) (OfKind l) x y h hx hy e = let r = kind_apart k l x y e in (ap (λ (z : Kind). OfKind z) r.0, r.1)
field_apart (OfLevel k) (OfLevel l) x y h hx hy e = let r = level_apart k l x y e in (ap (λ (z : Level). OfLevel z) r.0, r.1)
field_apart (Bit b) (Bit c) x y h hx hy e = let r = bit_apart b c x y e in (ap (λ (z : Bool). Bit z) r.0, r.1)
field_apart f g x y h hx hy e = absurd h

-- words and fields in turn
abbrev pub weave : List (List ℕ) → List Field → List ℕ
weave (w ∷ ws) (f ∷ fs) = w ++ (field_text f ++ weave ws fs)
weave ws fs = []

-- each word begins with a byte that is no digit
abbrev begins : List ℕ → Bool
begins [] = false
begins (b ∷ w) = not (is_digit b)

abbrev pub all_begin : List (List ℕ) → Bool
all_begin [] = true
all_begin (w ∷ ws) = begins w && all_begin ws

-- one word and two like fields at each place
abbrev pub Matches : List (List ℕ) → List Field → List Field → Type 0
Matches [] [] [] = Unit {0}
Matches (w ∷ ws) (f ∷ fs) (g ∷ gs) = Alike f g × Matches ws fs gs
Matches ws fs gs = ⊥

word_begins : (w x : List ℕ) → begins w ≡ true → NoDigit (w ++ x)
word_begins [] x e = absurd (both_ways false refl e)
word_begins (b ∷ w) x e = flip (is_digit b) e
  where
    flip : (t : Bool) → not t ≡ true → t ≡ false
    flip true e = absurd (both_ways false refl e)
    flip false e = refl

weave_left : (ws : List (List ℕ)) (fs gs : List Field) (x : List ℕ) → Matches ws fs gs → all_begin ws ≡ true → NoDigit x → NoDigit (weave ws fs ++ x)
weave_left [] [] [] x m s h = h
weave_left (w ∷ ws) (f ∷ fs) (g ∷ gs) x m s h = subst NoDigit (sym (append_assoc w (field_text f ++ weave ws fs) x)) (word_begins w ((field_text f ++ weave ws fs) ++ x) (and_parts (begins w) (all_begin ws) s).0)
weave_left ws fs gs x m s h = absurd m

weave_right : (ws : List (List ℕ)) (fs gs : List Field) (x : List ℕ) → Matches ws fs gs → all_begin ws ≡ true → NoDigit x → NoDigit (weave ws gs ++ x)
weave_right [] [] [] x m s h = h
weave_right (w ∷ ws) (f ∷ fs) (g ∷ gs) x m s h = subst NoDigit (sym (append_assoc w (field_text g ++ weave ws gs) x)) (word_begins w ((field_text g ++ weave ws gs) ++ x) (and_parts (begins w) (all_begin ws) s).0)
weave_right ws fs gs x m s h = absurd m

grouped : (w t r x : List ℕ) → (w ++ (t ++ r)) ++ x ≡ w ++ (t ++ (r ++ x))
grouped w t r x = append_assoc w (t ++ r) x ∙ ap (λ (l : List ℕ). w ++ l) (append_assoc t r x)

pub weave_apart : (ws : List (List ℕ)) (fs gs : List Field) (x y : List ℕ) → Matches ws fs gs → all_begin ws ≡ true → NoDigit x → NoDigit y → weave ws fs ++ x ≡ weave ws gs ++ y → (fs ≡ gs) × (x ≡ y)
weave_apart [] [] [] x y m s hx hy e = (refl, e)
weave_apart (w ∷ ws) (f ∷ fs) (g ∷ gs) x y m s hx hy e =
    let rest : all_begin ws ≡ true = (and_parts (begins w) (all_begin ws) s).1 in
    let e1 : field_text f ++ (weave ws fs ++ x) ≡ field_text g ++ (weave ws gs ++ y) = append_cancel_left w _ _ (sym (grouped w (field_text f) (weave ws fs) x) ∙ (e ∙ grouped w (field_text g) (weave ws gs) y)) in
    let r = field_apart f g (weave ws fs ++ x) (weave ws gs ++ y) m.0 (weave_left ws fs gs x m.1 rest hx) (weave_right ws fs gs y m.1 rest hy) e1 in
    let q = weave_apart ws fs gs x y m.1 rest hx hy r.1 in
    (ap (λ (z : Field). z ∷ fs) r.0 ∙ ap (λ (l : List Field). g ∷ l) q.0, q.1)
weave_apart ws fs gs x y m s hx hy e = absurd m
