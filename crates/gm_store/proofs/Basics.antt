-- Small facts on tests, choices and lists.
use Rattle.std.proofs.Common.{◌≡◌, ◌≢◌, ℕ, ◌<◌, List, Bool, true, false, length, get_or, set, Option, Some, None, arith, refl, sym, subst, eqb, inl, inr}
use Rattle.std.specs.Prelude.{IfNone, IfSome}
use Rattle.std.proofs.lemmas.Bool.{cases_Bool, eqb-false, eqb-true, eq-eqb}
use Rattle.std.proofs.lemmas.Bool.Decides.{nat_tests}
use Rattle.std.proofs.lemmas.List.{get_or-set_other, get_or-set_same}

pub self : (v : ℕ) → eqb v v ≡ true
self v = eq-eqb v v refl

pub differ : (a b : ℕ) → a ≢ b → eqb a b ≡ false
differ a b h = elim (cases_Bool (eqb a b)) [ inl e ↦ absurd (h (eqb-true a b e)) | inr e ↦ e ]

pub flipped : (a b : ℕ) (t : Bool) → eqb a b ≡ t → eqb b a ≡ t
flipped a b true e = grind (arith, nat_tests)
flipped a b false e = grind (arith, nat_tests)

pub not_some : {A B : Type 0} (x : A) → None ≡ Some x → B
not_some x e = absurd (cc)

pub some_is : {A : Type 0} (x y : A) → Some x ≡ Some y → x ≡ y
some_is x y e = cc

-- an element of a list of which one is replaced
pub set_here : {A : Type 0} (xs : List A) (i k : ℕ) (x d : A) → i < length xs → i ≡ k → get_or (set xs i x) k d ≡ x
set_here xs i k x d lt e = subst (λ (n : ℕ). get_or (set xs i x) n d ≡ x) e (get_or-set_same xs i x d lt)

pub set_else : {A : Type 0} (xs : List A) (i k : ℕ) (x d : A) → eqb i k ≡ false → get_or (set xs i x) k d ≡ get_or xs k d
set_else xs i k x d ne = get_or-set_other xs i k x d (λ s. eqb-false i k ne (sym s))

-- what holds holds where there is nothing
pub where_none : {A : Type 0} (P : Type 0) (o : Option A) → P → IfNone o P
where_none P None p = p
where_none P (Some x) p = tt

pub where_some : {A : Type 0} (P Q : A → Type 0) (o : Option A) → ((x : A) → P x → Q x) → IfSome o P → IfSome o Q
where_some P Q None f p = tt
where_some P Q (Some x) f p = f x p
