-- Lemmas on what sinks hold.
use Rattle.std.proofs.Common.{◌≡◌, ℕ, ◌+◌, ◌-◌, ◌≤◌, List, [], ◌++◌, None, Some, length, take, drop, append_assoc, append-nil, sym, ◌∙◌, ap, arith, subst, take-append-drop, Ok, Err, MatchResult, IfSome, ◌<◌}
use Rattle.std.proofs.Math.Seq.{take-add}
use Rattle.std.proofs.lemmas.List.{drop-drop, length-append, length-drop, take_all}
use Rattle.std.specs.declared.result.Result.{Result}
use Rattle.std.specs.declared.option.Option.{Option}
use Rattle.gm_io.specs.Held.{Gains, GainsFront, Wrote, Grows, total}

pub Gains-nil : (a : Option (List ℕ)) → Gains a a []
Gains-nil None = tt
Gains-nil (Some xs) = sym (append-nil xs)

pub Gains-trans : (a b c : Option (List ℕ)) (bs cs : List ℕ) → Gains a b bs → Gains b c cs → Gains a c (bs ++ cs)
Gains-trans None None None bs cs p q = tt
Gains-trans (Some xs) None None bs cs p q = tt
Gains-trans (Some xs) (Some ys) None bs cs p q = tt
Gains-trans None (Some ys) None bs cs p q = tt
Gains-trans None (Some ys) (Some zs) bs cs p q = p
Gains-trans a None (Some zs) bs cs p q = absurd q
Gains-trans (Some xs) (Some ys) (Some zs) bs cs p q = grind (arith, append_assoc)

slice_more : (from at n : ℕ) (bytes : List ℕ) → from ≤ at → take (at + n - from) (drop from bytes) ≡ take (at - from) (drop from bytes) ++ take n (drop at bytes)
slice_more from at n bytes h =
    let e : at + n - from ≡ (at - from) + n = omega arith in
    let d : from + (at - from) ≡ at = omega arith in
    rw (e, take-add) (ap (λ (x : List ℕ). take (at - from) (drop from bytes) ++ take n x) (drop-drop (at - from) from bytes ∙ ap (λ (k : ℕ). drop k bytes) d))

-- a step of a loop that puts the bytes from an index on
pub Gains_more : (a b c : Option (List ℕ)) (from at n : ℕ) (bytes : List ℕ) → from ≤ at → Gains a b (take (at - from) (drop from bytes)) → Gains b c (take n (drop at bytes)) → Gains a c (take (at + n - from) (drop from bytes))
Gains_more a b c from at n bytes h p q = subst (λ (x : List ℕ). Gains a c x) (sym (slice_more from at n bytes h)) (Gains-trans a b c _ _ p q)

-- where the sink fails, what it took before
pub Gains_kept : (a b c : Option (List ℕ)) (bs : List ℕ) → Gains a b bs → Gains b c [] → Gains a c bs
Gains_kept a b c bs p q = subst (λ (x : List ℕ). Gains a c x) (append-nil bs) (Gains-trans a b c bs [] p q)

-- what holds anyway holds where a sink tells
told_anyway : (a : Option (List ℕ)) (n : ℕ) → 0 < n → IfSome a (λ _. 0 < n)
told_anyway None n h = tt
told_anyway (Some xs) n h = h

-- a rest that isn't empty stays so with more after it
pub told_longer : (a : Option (List ℕ)) (rest more : List ℕ) → IfSome a (λ _. 0 < length rest) → IfSome a (λ _. 0 < length (rest ++ more))
told_longer None rest more h = tt
told_longer (Some xs) rest more h = rw length-append (omega (arith, h))

-- and with more before it
pub told_later : (a : Option (List ℕ)) (more rest : List ℕ) → IfSome a (λ _. 0 < length rest) → IfSome a (λ _. 0 < length (more ++ rest))
told_later None more rest h = tt
told_later (Some xs) more rest h = rw length-append (omega (arith, h))

some_left : (n : ℕ) (bytes : List ℕ) → n < length bytes → 0 < length (drop n bytes)
some_left n bytes h = rw length-drop (omega (arith, h))

-- a front of the bytes, and not all of them
pub GainsFront_at : (a b : Option (List ℕ)) (n : ℕ) (bytes : List ℕ) → n < length bytes → Gains a b (take n bytes) → GainsFront a b bytes
GainsFront_at a b n bytes h p = record {
  front = take n bytes;
  rest = drop n bytes;
  split = sym (take-append-drop n bytes);
  short = told_anyway b (length (drop n bytes)) (some_left n bytes h);
  gains = p;
}

-- a front of the second text, after the first
pub GainsFront_after : (a b c : Option (List ℕ)) (text more : List ℕ) → Gains a b text → GainsFront b c more → GainsFront a c (text ++ more)
GainsFront_after a b c text more p q = record {
  front = text ++ q.front;
  rest = q.rest;
  split = let e : more ≡ q.front ++ q.rest = q.split in rw e (sym (append_assoc text q.front q.rest));
  short = q.short;
  gains = Gains-trans a b c text q.front p q.gains;
}

-- a front of a text is one of a longer text
pub GainsFront_longer : (a b : Option (List ℕ)) (text more : List ℕ) → GainsFront a b text → GainsFront a b (text ++ more)
GainsFront_longer a b text more q = record {
  front = q.front;
  rest = q.rest ++ more;
  split = let e : text ≡ q.front ++ q.rest = q.split in rw e (append_assoc q.front q.rest more);
  short = told_longer b q.rest more q.short;
  gains = q.gains;
}

-- two calls, one after the other, where the last one's `Result` is returned as it is
pub Wrote_after : {T E : Type 0} (a b c : Option (List ℕ)) (text more : List ℕ) (r : Result T E) → Gains a b text → Wrote b c more r → Wrote a c (text ++ more) r
Wrote_after a b c text more (Ok v) p q = Gains-trans a b c text more p q
Wrote_after a b c text more (Err e) p q = GainsFront_after a b c text more p q

whole : (bytes : List ℕ) (at : ℕ) → at ≡ length bytes → take (at - 0) (drop 0 bytes) ≡ bytes
whole bytes at h = let le : length bytes ≤ at - 0 = omega arith in take_all (at - 0) bytes le

less : (at n : ℕ) → at < n → at - 0 < n
less at n h = omega (arith, h)

-- all of the bytes from the start, or a front of them
pub Wrote_of_rest : {T E : Type 0} (a b : Option (List ℕ)) (bytes : List ℕ) (at : ℕ) (r : Result T E) → Gains a b (take (at - 0) (drop 0 bytes)) → MatchResult r (λ _. at ≡ length bytes) (λ _. at < length bytes) → Wrote a b bytes r
Wrote_of_rest a b bytes at (Ok v) p all = subst (λ (x : List ℕ). Gains a b x) (whole bytes at all) p
Wrote_of_rest a b bytes at (Err e) p all = GainsFront_at a b (at - 0) bytes (less at (length bytes) all) p

-- what grew twice grew
pub Grows-trans : (a b c : Option (List ℕ)) → Grows a b → Grows b c → Grows a c
Grows-trans a b c p q = record { more = p.more ++ q.more; gains = Gains-trans a b c p.more q.more p.gains q.gains }

-- where the sink takes a front of what waits, the two together stay
pub total_same : (a b : Option (List ℕ)) (waiting taken left : List ℕ) → waiting ≡ taken ++ left → Gains a b taken → Gains (total a waiting) (total b left) []
total_same None None w t l e p = tt
total_same (Some xs) None w t l e p = tt
total_same None (Some ys) w t l e p = p
total_same (Some xs) (Some ys) w t l e p = grind (arith, append_assoc, append-nil)

-- where more waits, the two together gain it
pub total_more : (a : Option (List ℕ)) (waiting more : List ℕ) → Gains (total a waiting) (total a (waiting ++ more)) more
total_more None w m = tt
total_more (Some xs) w m = sym (append_assoc xs w m)

-- a step of a loop over the bytes
pub Gains-step : (a b c : Option (List ℕ)) (at n : ℕ) (bytes : List ℕ) → Gains a b (take at bytes) → Gains b c (take n (drop at bytes)) → Gains a c (take (at + n) bytes)
Gains-step a b c at n bytes p q = rw take-add (Gains-trans a b c _ _ p q)
