-- The number of open brackets among the first n callers.
use Rattle.std.proofs.Common.{◌+◌, ◌<◌, None, Option, Some, ap, arith, cond, eq-eqb, eqb, false, inl, inr, ne_eqb, refl, suc, zero, ℕ, ◌∙◌, ◌≡◌, ◌≤◌}
use Rattle.std.proofs.lemmas.Bool.{cases_order}
use Rattle.gm_flat.specs.Histories.{Bracket}

abbrev pub one : Option Bracket → ℕ
one None = 0
one (Some b) = 1

abbrev pub tally : ℕ → (ℕ → Option Bracket) → ℕ
tally zero f = 0
tally (suc k) f = one (f k) + tally k f

abbrev pub put : ℕ → Option Bracket → (ℕ → Option Bracket) → ℕ → Option Bracket
put d x f = λ c. cond (eqb d c) x (f c)

tally_above : (n d : ℕ) (x : Option Bracket) (f : ℕ → Option Bracket) → n ≤ d → tally n (put d x f) ≡ tally n f
tally_above zero d x f h = refl
tally_above (suc k) d x f h =
    let e : eqb d k ≡ false = ne_eqb d k (λ e. omega arith) in
    let ih : tally k (put d x f) ≡ tally k f = tally_above k d x f (omega arith) in
    rw e (ap (λ (m : ℕ). one (f k) + m) ih)

put_same : (k : ℕ) (x : Option Bracket) (f : ℕ → Option Bracket) → put k x f k ≡ x
put_same k x f = rw (eq-eqb k k refl) refl

put_other : (d k : ℕ) (x : Option Bracket) (f : ℕ → Option Bracket) → (d ≡ k → ⊥) → put d x f k ≡ f k
put_other d k x f ne = rw (ne_eqb d k ne) refl

pub tally_put : (n d : ℕ) (x : Option Bracket) (f : ℕ → Option Bracket) → d < n → tally n (put d x f) + one (f d) ≡ tally n f + one x
tally_put zero d x f h = absurd (omega arith)
tally_put (suc k) d x f h =
    elim (cases_order d k) [
      | inl e ↦ tally_put_same k d x f e (tally_above k d x f (omega arith))
      | inr r ↦ elim r [
        | inl lt ↦ tally_put_less k d x f (λ (e : d ≡ k). omega arith) (tally_put k d x f lt)
        | inr gt ↦ absurd (omega arith)
      ]
    ]
  where
    tally_put_same : (k d : ℕ) (x : Option Bracket) (f : ℕ → Option Bracket) → d ≡ k → tally k (put d x f) ≡ tally k f → (one (put d x f k) + tally k (put d x f)) + one (f d) ≡ (one (f k) + tally k f) + one x
    tally_put_same k d x f e h =
        let a : one (put d x f k) ≡ one x = rw e (ap one (put_same k x f)) in
        let b : one (f d) ≡ one (f k) = rw e refl in
        omega arith

    tally_put_less : (k d : ℕ) (x : Option Bracket) (f : ℕ → Option Bracket) → (d ≡ k → ⊥) → tally k (put d x f) + one (f d) ≡ tally k f + one x → (one (put d x f k) + tally k (put d x f)) + one (f d) ≡ (one (f k) + tally k f) + one x
    tally_put_less k d x f ne h =
        let a : one (put d x f k) ≡ one (f k) = ap one (put_other d k x f ne) in
        omega arith

one_some : (o : Option Bracket) (b : Bracket) → o ≡ Some b → one o ≡ 1
one_some o b e = rw e refl

one_none : (o : Option Bracket) → o ≡ None → one o ≡ 0
one_none o e = rw e refl

-- an open bracket counts
pub tally_one : (n c : ℕ) (b : Bracket) (f : ℕ → Option Bracket) → c < n → f c ≡ Some b → 1 ≤ tally n f
tally_one n c b f h e =
    let p : tally n (put c None f) + one (f c) ≡ tally n f + 0 = tally_put n c None f h in
    let q : one (f c) ≡ 1 = one_some (f c) b e in
    omega arith

-- two open brackets count twice
pub tally_two : (n c d : ℕ) (a b : Bracket) (f : ℕ → Option Bracket) → c < n → d < n → (d ≡ c → ⊥) → f c ≡ Some a → f d ≡ Some b → 2 ≤ tally n f
tally_two n c d a b f hc hd ne ec ed =
    let p : tally n (put d None f) + one (f d) ≡ tally n f + 0 = tally_put n d None f hd in
    let q : one (f d) ≡ 1 = one_some (f d) b ed in
    let r : 1 ≤ tally n (put d None f) = tally_one n c a (put d None f) hc (put_other d c None f ne ∙ ec) in
    omega arith

pub tally_open : (n d : ℕ) (b : Bracket) (f : ℕ → Option Bracket) → d < n → f d ≡ None → tally n (put d (Some b) f) ≡ suc (tally n f)
tally_open n d b f h e =
    let p : tally n (put d (Some b) f) + one (f d) ≡ tally n f + 1 = tally_put n d (Some b) f h in
    let q : one (f d) ≡ 0 = one_none (f d) e in
    omega arith

pub tally_shut : (n d : ℕ) (b : Bracket) (f : ℕ → Option Bracket) → d < n → f d ≡ Some b → suc (tally n (put d None f)) ≡ tally n f
tally_shut n d b f h e =
    let p : tally n (put d None f) + one (f d) ≡ tally n f + 0 = tally_put n d None f h in
    let q : one (f d) ≡ 1 = one_some (f d) b e in
    omega arith

-- a change that opens and shuts none
pub tally_same : (n : ℕ) (f g : ℕ → Option Bracket) → ((c : ℕ) → one (f c) ≡ one (g c)) → tally n f ≡ tally n g
tally_same zero f g h = refl
tally_same (suc k) f g h = let a : one (f k) ≡ one (g k) = h k in let b : tally k f ≡ tally k g = tally_same k f g h in omega arith
