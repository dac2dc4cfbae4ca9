-- Lemmas on calls that append text, one after another.
use Rattle.std.proofs.Common.{◌≡◌, ℕ, ◌≤◌, List, [], ◌∷◌, ◌++◌, None, Some, refl, append_assoc, append-nil, sym, ◌∙◌, ap, arith, subst, length, ◌<◌, Ok, Err, IfSome, MatchResult}
use Rattle.std.specs.declared.result.Result.{Result}
use Rattle.std.specs.declared.option.Option.{Option}
use Rattle.gm_io.specs.Causes.{HasCause, Rose}
use Rattle.gm_io.specs.Held.{Gains, GainsFront, Wrote, Grows, total}
use Rattle.gm_io.specs.Adds.{Outlet, Adds, outlet}
use Rattle.gm_io.proofs.Held.{Gains-nil, Gains_kept, GainsFront_longer, Wrote_after, Grows-trans, told_later}

-- the failure of a later call is one of both
HasCause_after : {T E : Type 0} (a b c : ℕ) (r : Result T E) → a ≤ b → HasCause b c r → HasCause a c r
HasCause_after a b c (Ok v) h k = let l : b ≤ c = k.later in record { later = omega arith; failed = tt }
HasCause_after a b c (Err e) h k = let l : b ≤ c = k.later in let f : Rose b c = k.failed in record { later = omega arith; failed = omega arith }

-- a call that did all, and one after it, whose result is returned
pub Adds_after : {T U E : Type 0} (a b c : Outlet) (text more : List ℕ) (v : T) (r : Result U E) → Adds {T = T} {E = E} a b text (Ok v) → Adds b c more r → Adds a c (text ++ more) r
Adds_after a b c text more v r p q = record {
  wrote = Wrote_after _ _ _ text more r p.wrote q.wrote;
  grows = Grows-trans _ _ _ p.grows q.grows;
  cause = HasCause_after _ _ _ r p.cause.later q.cause;
}

-- a call that failed, before more that wasn't tried
pub Adds_longer : {T U E : Type 0} (a b : Outlet) (text more : List ℕ) (e : E) → Adds {T = T} {E = E} a b text (Err e) → Adds {T = U} {E = E} a b (text ++ more) (Err e)
Adds_longer a b text more e p = record {
  wrote = GainsFront_longer _ _ text more p.wrote;
  grows = p.grows;
  cause = record { later = p.cause.later; failed = p.cause.failed };
}

-- nothing was appended
pub Adds-nil : {T E : Type 0} (a : Outlet) (v : T) → Adds {T = T} {E = E} a a [] (Ok v)
Adds-nil a v = record {
  wrote = Gains-nil (total a.held a.waiting);
  grows = record { more = []; gains = Gains-nil a.held };
  cause = record { later = omega arith; failed = tt };
}

append_cancel : (xs ys zs : List ℕ) → xs ++ ys ≡ xs ++ zs → ys ≡ zs
append_cancel [] ys zs e = e
append_cancel (x ∷ xs) ys zs e = append_cancel xs ys zs (cc)

-- of what was appended the sink has a front, and the rest waits
appended : (xs zs more v text : List ℕ) → zs ++ v ≡ (xs ++ []) ++ text → zs ≡ xs ++ more → text ≡ more ++ v
appended xs zs more v text p q =
    append_cancel xs text (more ++ v) (ap (λ (t : List ℕ). t ++ text) (sym (append-nil xs)) ∙ sym p ∙ ap (λ (t : List ℕ). t ++ v) q ∙ append_assoc xs more v)

-- what waits or wasn't appended is missing, and it isn't empty
front_of : (a c : Option (List ℕ)) (v text undone : List ℕ) → Gains (total a []) (total c v) text → Grows a c → IfSome c (λ _. 0 < length (v ++ undone)) → GainsFront a c (text ++ undone)
front_of None None v text undone p q h = record { front = []; rest = text ++ undone; split = refl; short = tt; gains = tt }
front_of (Some xs) None v text undone p q h = record { front = []; rest = text ++ undone; split = refl; short = tt; gains = tt }
front_of None (Some zs) v text undone p q h = absurd q.gains
front_of (Some xs) (Some zs) v text undone p q h = record {
  front = q.more;
  rest = v ++ undone;
  split = ap (λ (t : List ℕ). t ++ undone) (appended xs zs q.more v text p q.gains) ∙ append_assoc q.more v undone;
  short = h;
  gains = q.gains;
}

untotal : (c : Option (List ℕ)) (w rest : List ℕ) → IfSome (total c w) (λ _. 0 < length rest) → IfSome c (λ _. 0 < length rest)
untotal None w rest h = tt
untotal (Some xs) w rest h = h

waits : (c : Option (List ℕ)) (v : List ℕ) → 0 < length v → IfSome c (λ _. 0 < length (v ++ []))
waits None v h = tt
waits (Some xs) v h = subst (λ (l : List ℕ). 0 < length l) (sym (append-nil v)) h

total-nil : (a : Option (List ℕ)) → total a [] ≡ a
total-nil None = refl
total-nil (Some xs) = ap (λ (x : List ℕ). Some x) (append-nil xs)

-- all was appended, and then what waited was put, as far as the sink took it
pub Wrote_put : {T U E : Type 0} (a b c : Option (List ℕ)) (w v : List ℕ) (f k : ℕ) (text : List ℕ) (u : T) (r : Result U E) → Adds {T = T} {E = E} (outlet a [] f) (outlet b w k) text (Ok u) → Gains (total b w) (total c v) [] → MatchResult r (λ _. v ≡ []) (λ _. 0 < length v) → Grows b c → Wrote a c text r
Wrote_put a b c w v f k text u (Ok x) p same empty grows =
    let all : Gains (total a []) (total c v) text = Gains_kept _ _ _ text p.wrote same in
    subst (λ (o : Option (List ℕ)). Gains o c text) (total-nil a)
    (subst (λ (o : Option (List ℕ)). Gains (total a []) o text) (total-nil c)
    (subst (λ (x : List ℕ). Gains (total a []) (total c x) text) empty all))
Wrote_put a b c w v f k text u (Err e) p same empty grows =
    subst (λ (t : List ℕ). GainsFront a c t) (append-nil text)
    (front_of a c v text [] (Gains_kept _ _ _ text p.wrote same) (Grows-trans a b c p.grows grows) (waits c v empty))

-- a front was appended, of which the sink has a front
pub Wrote_fails : {T E : Type 0} (a b : Option (List ℕ)) (w : List ℕ) (f k : ℕ) (text : List ℕ) (e : E) → Adds {T = T} {E = E} (outlet a [] f) (outlet b w k) text (Err e) → GainsFront a b text
Wrote_fails a b w f k text e p =
    let parts : GainsFront (total a []) (total b w) text = p.wrote in
    subst (λ (t : List ℕ). GainsFront a b t) (sym parts.split)
    (front_of a b w parts.front parts.rest parts.gains p.grows (told_later b w parts.rest (untotal b w parts.rest parts.short)))
