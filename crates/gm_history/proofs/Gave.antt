-- A run that is put among the starts gives its frames, and no others change.
use Rattle.std.proofs.Common.{◌≡◌, ℕ, zero, suc, ◌+◌, ◌-◌, ◌^◌, ◌<◌, ◌≤◌, ◌⊎◌, inl, inr, List, ◌∷◌, Bool, true, false, ◌&&◌, cond, eqb, leb, ltb, Option, None, Some, Result, Ok, Err, refl, sym, ◌∙◌, ap, arith}
use Rattle.std.proofs.lemmas.Bool.Decides.{nat_tests}
use Rattle.gm_history.specs.declared.given.Run.{Run}
use Rattle.gm_history.specs.Given.{gives, frame_given}
use Rattle.std.specs.Prelude.{OnOk}
use Rattle.gm_history.specs.Frames.{NoStart, IsLastStart, IsCleared, TellsFrames, frame_from}

abbrev Starts : Type 0
Starts = ℕ → Option (Option ℕ)

none_some : {A B : Type 0} {v : A} → None ≡ Some v → B
none_some e = absurd (clash e)
  where
    clash : {A : Type 0} {v : A} → None ≡ Some v → ⊥
    clash e = cc

some_is : {A : Type 0} {v w : A} → Some v ≡ Some w → v ≡ w
some_is e = cc

-- numbers from one on up to another, and the other
up_to : (q n : ℕ) → q ≤ suc n → (q ≤ n) ⊎ (q ≡ suc n)
up_to q n h = cases (leb q n) refl
  where
    cases : (t : Bool) → leb q n ≡ t → (q ≤ n) ⊎ (q ≡ suc n)
    cases true e = inl (grind (arith, nat_tests))
    cases false e = inr (grind (arith, nat_tests))

-- there is a last start up to a serial, or none at all
abbrev Found : Starts → ℕ → Type 0
Found f n = NoStart f 0 n ⊎ ((k : ℕ) × (v : Option ℕ) × IsLastStart f n k v)

find_step : (f : Starts) (n : ℕ) (o : Option (Option ℕ)) → f (suc n) ≡ o → Found f n → Found f (suc n)
find_step f n (Some v) e h = inr (suc n, v, record { start_is = e; up_to = omega arith; no_later = λ q lo hi. absurd (omega arith) })
find_step f n None e (inl none) = inl (λ q lo hi. elim (up_to q n hi) [ inl l ↦ none q lo l | inr s ↦ ap f s ∙ e ])
find_step f n None e (inr x) =
    let last = x.2 in
    inr (x.0, x.1, record { start_is = last.start_is; up_to = omega (arith, last.up_to); no_later = λ q lo hi. elim (up_to q n hi) [ inl l ↦ last.no_later q lo l | inr s ↦ ap f s ∙ e ] })

find_first : (f : Starts) (o : Option (Option ℕ)) → f 0 ≡ o → Found f 0
find_first f None e = inl (λ q lo hi. let z : q ≡ 0 = omega arith in ap f z ∙ e)
find_first f (Some v) e = inr (0, v, record { start_is = e; up_to = omega arith; no_later = λ q lo hi. absurd (omega arith) })

find_last : (f : Starts) (n : ℕ) → Found f n
find_last f zero = find_first f (f 0) refl
find_last f (suc n) = find_step f n (f (suc n)) refl (find_last f n)

from_from : (v : Option ℕ) (a b c : ℕ) → a + b ≡ c → frame_from (frame_from v a) b ≡ frame_from v c
from_from None a b c h = refl
from_from (Some frame) a b c h = let e : frame + a + b ≡ frame + c = omega (arith, h) in ap (λ (n : ℕ). Some n) e

either : (q n : ℕ) → (q ≤ n) ⊎ (n + 1 ≤ q)
either q n = cases (leb q n) refl
  where
    cases : (b : Bool) → leb q n ≡ b → (q ≤ n) ⊎ (n + 1 ≤ q)
    cases true e = inl (grind (arith, nat_tests))
    cases false e = inr (grind (arith, nat_tests))

-- where no start stands between, frames go on
carry_by : (f : Starts) (runs : List Run) (t s : ℕ) → TellsFrames f runs → t ≤ s → s < 2 ^ 64 → NoStart f (t + 1) s → Found f t → frame_given runs s ≡ frame_from (frame_given runs t) (s - t)
carry_by f runs t s tells le small free (inl none) =
    tells.no_start s small (λ q lo hi. elim (either q t) [ inl l ↦ none q lo l | inr m ↦ free q m hi ])
    ∙ ap (λ (o : Option ℕ). frame_from o (s - t)) (sym (tells.no_start t (omega arith) none))
carry_by f runs t s tells le small free (inr x) =
    let last = x.2 in
    let later : IsLastStart f s x.0 x.1 = record { start_is = last.start_is; up_to = omega (arith, last.up_to); no_later = λ q lo hi. elim (either q t) [ inl l ↦ last.no_later q lo l | inr m ↦ free q m hi ] } in
    let sum : (t - x.0) + (s - t) ≡ s - x.0 = omega (arith, last.up_to) in
    tells.by_start s x.0 x.1 small later
    ∙ sym (from_from x.1 (t - x.0) (s - t) (s - x.0) sum)
    ∙ ap (λ (o : Option ℕ). frame_from o (s - t)) (sym (tells.by_start t x.0 x.1 (omega arith) last))

carry : (f : Starts) (runs : List Run) (t s : ℕ) → TellsFrames f runs → t ≤ s → s < 2 ^ 64 → NoStart f (t + 1) s → frame_given runs s ≡ frame_from (frame_given runs t) (s - t)
carry f runs t s tells le small free = carry_by f runs t s tells le small free (find_last f t)

-- a serial that the run gives, and another one
cond_true : (t : Bool) (a b : Option ℕ) → t ≡ true → cond t a b ≡ a
cond_true true a b h = refl
cond_true false a b h = absurd cc

cond_false : (t : Bool) (a b : Option ℕ) → t ≡ false → cond t a b ≡ b
cond_false true a b h = absurd cc
cond_false false a b h = refl

inside : (r : Run) (runs : List Run) (s : ℕ) → r.serial ≤ s → s < r.serial + r.pages → frame_given (r ∷ runs) s ≡ Some (r.frame + (s - r.serial))
inside r runs s lo hi = cond_true (gives r s) (Some (r.frame + (s - r.serial))) (frame_given runs s) (is_true r.serial r.pages s lo hi)
  where
    is_true : (a n s : ℕ) → a ≤ s → s < a + n → (leb a s && ltb s (a + n)) ≡ true
    is_true a n s lo hi = grind (arith, nat_tests)

outside : (r : Run) (runs : List Run) (s : ℕ) → (s < r.serial) ⊎ (r.serial + r.pages ≤ s) → frame_given (r ∷ runs) s ≡ frame_given runs s
outside r runs s out = cond_false (gives r s) (Some (r.frame + (s - r.serial))) (frame_given runs s) (is_false r.serial r.pages s out)
  where
    is_false : (a n s : ℕ) → (s < a) ⊎ (a + n ≤ s) → (leb a s && ltb s (a + n)) ≡ false
    is_false a n s (inl l) = grind (arith, nat_tests)
    is_false a n s (inr l) = grind (arith, nat_tests)

-- the starts after the run was put among them
record Put (f g : ℕ → Option (Option ℕ)) (runs : List Run) (r : Run) : Type 0 where
  pub here : g r.serial ≡ Some (Some r.frame)
  pub gone : NoStart g (r.serial + 1) (r.serial + (r.pages - 1))
  pub next : r.serial + r.pages < 2 ^ 64 → g (r.serial + r.pages) ≡ Some (frame_given runs (r.serial + r.pages))
  pub before : (q : ℕ) → q < r.serial → g q ≡ f q
  pub after : (q : ℕ) → r.serial + r.pages < q → g q ≡ f q

record InRange (r : Run) : Type 0 where
  pub some : 0 < r.pages
  pub serials : r.serial + r.pages ≤ 2 ^ 64
  pub frames : r.frame + r.pages ≤ 2 ^ 32

-- where a serial stands
data Where (r : Run) (q : ℕ) : Type 0 where
  Below : q < r.serial → Where r q
  First : q ≡ r.serial → Where r q
  Within : r.serial + 1 ≤ q → q ≤ r.serial + (r.pages - 1) → Where r q
  Next : q ≡ r.serial + r.pages → Where r q
  Above : r.serial + r.pages < q → Where r q

place : (r : Run) (q : ℕ) → 0 < r.pages → Where r q
place r q h = by (ltb q r.serial) (eqb q r.serial) (ltb q (r.serial + r.pages)) (eqb q (r.serial + r.pages)) refl refl refl refl
  where
    by : (a b c d : Bool) → ltb q r.serial ≡ a → eqb q r.serial ≡ b → ltb q (r.serial + r.pages) ≡ c → eqb q (r.serial + r.pages) ≡ d → Where r q
    by true b c d e f g k = Below (grind (arith, nat_tests))
    by false true c d e f g k = First (grind (arith, nat_tests))
    by false false true d e f g k = Within (grind (arith, nat_tests)) (grind (arith, nat_tests))
    by false false false true e f g k = Next (grind (arith, nat_tests))
    by false false false false e f g k = Above (grind (arith, nat_tests))

-- no start stands at the run's first serial, which is a start
below_run : (f g : Starts) (runs : List Run) (r : Run) (lo s : ℕ) → Put f g runs r → lo ≤ r.serial → NoStart g lo s → s < r.serial
below_run f g runs r lo s p l free = by (ltb s r.serial) refl
  where
    by : (t : Bool) → ltb s r.serial ≡ t → s < r.serial
    by true e = grind (arith, nat_tests)
    by false e = let k : r.serial ≤ s = grind (arith, nat_tests) in none_some (sym (free r.serial l k) ∙ p.here)

-- nor at the one after it
in_run : (f g : Starts) (runs : List Run) (r : Run) (s : ℕ) → Put f g runs r → InRange r → s < 2 ^ 64 → NoStart g (r.serial + 1) s → s < r.serial + r.pages
in_run f g runs r s p i small free = by (ltb s (r.serial + r.pages)) refl
  where
    by : (t : Bool) → ltb s (r.serial + r.pages) ≡ t → s < r.serial + r.pages
    by true e = grind (arith, nat_tests)
    by false e =
        let k : r.serial + r.pages ≤ s = grind (arith, nat_tests) in
        let l : r.serial + 1 ≤ r.serial + r.pages = omega (arith, i.some) in
        let m : r.serial + r.pages < 2 ^ 64 = omega arith in
        none_some (sym (free (r.serial + r.pages) l k) ∙ p.next m)

no_start_on : (f g : Starts) (runs : List Run) (r : Run) (s : ℕ) → Put f g runs r → TellsFrames f runs → s < 2 ^ 64 → NoStart g 0 s → frame_given (r ∷ runs) s ≡ None
no_start_on f g runs r s p tells small free =
    let l : s < r.serial = below_run f g runs r 0 s p (omega arith) free in
    outside r runs s (inl l) ∙ tells.no_start s small (λ q lo hi. sym (p.before q (omega arith)) ∙ free q lo hi)

by_start_on : (f g : Starts) (runs : List Run) (r : Run) (s k : ℕ) (v : Option ℕ) → Put f g runs r → InRange r → TellsFrames f runs → s < 2 ^ 64 → IsLastStart g s k v → Where r k → frame_given (r ∷ runs) s ≡ frame_from v (s - k)
by_start_on f g runs r s k v p i tells small last (Below l) =
    let m : s < r.serial = below_run f g runs r (k + 1) s p (omega arith) last.no_later in
    outside r runs s (inl m) ∙ tells.by_start s k v small (record { start_is = sym (p.before k l) ∙ last.start_is; up_to = last.up_to; no_later = λ q lo hi. sym (p.before q (omega arith)) ∙ last.no_later q lo hi })
by_start_on f g runs r s k v p i tells small last (First e) =
    let free : NoStart g (r.serial + 1) s = λ q lo hi. last.no_later q (omega arith) hi in
    let hi : s < r.serial + r.pages = in_run f g runs r s p i small free in
    let lo : r.serial ≤ s = omega (arith, last.up_to) in
    let same : v ≡ Some r.frame = some_is (sym last.start_is ∙ ap g e ∙ p.here) in
    inside r runs s lo hi ∙ ap (λ (n : ℕ). Some (r.frame + (s - n))) (sym e) ∙ ap (λ (o : Option ℕ). frame_from o (s - k)) (sym same)
by_start_on f g runs r s k v p i tells small last (Within l m) = none_some (sym (p.gone k l m) ∙ last.start_is)
by_start_on f g runs r s k v p i tells small last (Next e) =
    let at : r.serial + r.pages ≤ s = omega (arith, last.up_to) in
    let fits : r.serial + r.pages < 2 ^ 64 = omega arith in
    let same : v ≡ frame_given runs (r.serial + r.pages) = some_is (sym last.start_is ∙ ap g e ∙ p.next fits) in
    outside r runs s (inr at)
    ∙ carry f runs (r.serial + r.pages) s tells at small (λ q lo hi. sym (p.after q (omega arith)) ∙ last.no_later q (omega arith) hi)
    ∙ ap (λ (n : ℕ). frame_from (frame_given runs (r.serial + r.pages)) (s - n)) (sym e)
    ∙ ap (λ (o : Option ℕ). frame_from o (s - k)) (sym same)
by_start_on f g runs r s k v p i tells small last (Above l) =
    let at : r.serial + r.pages ≤ s = omega (arith, last.up_to) in
    outside r runs s (inr at) ∙ tells.by_start s k v small (record { start_is = sym (p.after k l) ∙ last.start_is; up_to = last.up_to; no_later = λ q lo hi. sym (p.after q (omega arith)) ∙ last.no_later q lo hi })

small_on : (runs : List Run) (r : Run) (s frame : ℕ) → InRange r → ((n : ℕ) → frame_given runs s ≡ Some n → n < 2 ^ 32) → frame_given (r ∷ runs) s ≡ Some frame → frame < 2 ^ 32
small_on runs r s frame i old e = by (gives r s) refl e
  where
    within : (a n f s x : ℕ) → (leb a s && ltb s (a + n)) ≡ true → f + n ≤ 2 ^ 32 → f + (s - a) ≡ x → x < 2 ^ 32
    within a n f s x h k e = grind (arith, nat_tests)

    by : (t : Bool) → gives r s ≡ t → cond t (Some (r.frame + (s - r.serial))) (frame_given runs s) ≡ Some frame → frame < 2 ^ 32
    by true h k = within r.serial r.pages r.frame s frame h i.frames (some_is k)
    by false h k = old frame k

-- the run's first serial starts with its frame
put_is : (g h : Starts) (s : ℕ) (frame : ℕ) → ((q : ℕ) → h q ≡ cond (eqb s q) (Some (Some frame)) (g q)) → h s ≡ Some (Some frame)
put_is g h s frame p = p s ∙ pick (eqb s s) (same s) (Some (Some frame)) (g s)
  where
    same : (s : ℕ) → eqb s s ≡ true
    same s = grind (arith, nat_tests)

    pick : (t : Bool) → t ≡ true → (a b : Option (Option ℕ)) → cond t a b ≡ a
    pick true e a b = refl
    pick false e a b = absurd cc

put_off : (g h : Starts) (s : ℕ) (frame : ℕ) → ((q : ℕ) → h q ≡ cond (eqb s q) (Some (Some frame)) (g q)) → (q : ℕ) → eqb s q ≡ false → h q ≡ g q
put_off g h s frame p q e = p q ∙ pick (eqb s q) e (Some (Some frame)) (g q)
  where
    pick : (t : Bool) → t ≡ false → (a b : Option (Option ℕ)) → cond t a b ≡ b
    pick true e a b = absurd cc
    pick false e a b = refl

more_is_not : (s q : ℕ) → s < q → eqb s q ≡ false
more_is_not s q h = grind (arith, nat_tests)

less_is_not : (s q : ℕ) → q < s → eqb s q ≡ false
less_is_not s q h = grind (arith, nat_tests)

put_in : (f g h : Starts) (runs : List Run) (r : Run) → InRange r → IsCleared f g runs r → ((q : ℕ) → h q ≡ cond (eqb r.serial q) (Some (Some r.frame)) (g q)) → Put f h runs r
put_in f g h runs r i c p =
    let off = put_off g h r.serial r.frame p in
    record {
      here = put_is g h r.serial r.frame p;
      gone = λ q lo hi. off q (more_is_not r.serial q (omega arith)) ∙ c.gone q (omega arith) hi;
      next = λ l. off (r.serial + r.pages) (more_is_not r.serial (r.serial + r.pages) (omega (arith, i.some))) ∙ c.next l;
      before = λ q l. off q (less_is_not r.serial q l) ∙ c.before q l;
      after = λ q l. off q (more_is_not r.serial q (omega arith)) ∙ c.after q l;
    }

gave : (f g : Starts) (runs : List Run) (r : Run) → TellsFrames f runs → InRange r → Put f g runs r → TellsFrames g (r ∷ runs)
gave f g runs r tells i p =
    record {
      no_start = λ s small free. no_start_on f g runs r s p tells small free;
      by_start = λ s k v small last. by_start_on f g runs r s k v p i tells small last (place r k i.some);
      small = λ s frame e. small_on runs r s frame i (tells.small s) e;
    }

pub gave_run : {T E : Type 0} (o : Result T E) (f g h : ℕ → Option (Option ℕ)) (runs : List Run) (r : Run) → TellsFrames f runs → 0 < r.pages → r.serial + r.pages ≤ 2 ^ 64 → r.frame + r.pages ≤ 2 ^ 32 → IsCleared f g runs r → OnOk o ((q : ℕ) → h q ≡ cond (eqb r.serial q) (Some (Some r.frame)) (g q)) → OnOk o (TellsFrames h (r ∷ runs))
gave_run (Ok x) f g h runs r tells a b d c p =
    let i : InRange r = record { some = a; serials = b; frames = d } in
    gave f h runs r tells i (put_in f g h runs r i c p)
gave_run (Err e) f g h runs r tells a b d c p = tt
