-- Each entry of a right history stands in a turn by the tables.
use Rattle.std.proofs.Common.{◌++◌, ◌<◌, List, [], ap, append_assoc, arith, eq-eqb, eqb, false, inl, inr, ltb, refl, subst, suc, sym, true, ℕ, ◌∙◌, ◌∷◌, ◌≡◌, ◌≤◌, ◌⊎◌}
use Rattle.std.proofs.lemmas.Bool.{both_ways, cond-false, cond-true}
use Rattle.gm_base.specs.Scripts.{Orders}
use Rattle.gm_base.specs.declared.values.Actor.{Actor}
use Rattle.gm_flat.specs.Histories.{same_turn}
use Rattle.gm_flat.specs.Plays.{IsOfTurn, NoFall, before_number, turn_entries}
use Rattle.gm_flat.specs.RightHistory.{Each, Right}
use Rattle.gm_flat.specs.RightOrder.{IsTogether}
use Rattle.gm_flat.specs.declared.entry.Entry.{Entry}
use Rattle.gm_flat.specs.declared.entry.What.{What}
use Rattle.gm_laws.proofs.Fronts.{front_follows}
use Rattle.gm_laws.proofs.Kit.{by, by_test}
use Rattle.gm_laws.proofs.RightIsRuled.{ruled}
use Rattle.gm_laws.specs.Ruled.{Follows, Ruled}
use Rattle.gm_laws.specs.Stands.{Stands}
use Rattle.gm_laws.specs.Turns.{IsNewTurn, IsTurn, onto}
use Rattle.gm_determined.proofs.Bare.{cut_ruled, drops, fall_low, low_same, ruled_or, same_self, split, true_less, turn_or}

-- turn numbers don't fall
fall : (e : Entry) (past : List Entry) → IsTogether e past → NoFall e past
fall e [] t = tt
fall e (d ∷ p) (inl x) = equal d.turn e.turn x.0
  where
    equal : (a b : ℕ) → a ≡ b → a ≤ b
    equal a b h = omega arith
fall e (d ∷ p) (inr x) = less d.turn e.turn x
  where
    less : (a b : ℕ) → a < b → a ≤ b
    less a b h = omega arith

falls : (o : Orders) (h : List Entry) → Follows o h → Each NoFall h
falls o [] f = tt
falls o (e ∷ past) f = (fall e past f.0.together, falls o past f.1)

below : (e : Entry) (past h : List Entry) (d : Entry) → Each NoFall (d ∷ h) → Stands e past h → e.turn ≤ d.turn
below e past [] d f s = absurd s
below e past (c ∷ h) d f (inl s) = subst (λ (x : Entry). x.turn ≤ d.turn) s.0 f.0
below e past (c ∷ h) d f (inr s) = chain e.turn c.turn d.turn (below e past h c f.1 s) f.0
  where
    chain : (a b c : ℕ) → a ≤ b → b ≤ c → a ≤ c
    chain a b c h k = omega arith

-- and begin at 1
one_or_more : (o : Orders) (e : Entry) (past : List Entry) → Follows o (e ∷ past) → 1 ≤ e.turn
one_or_more o e [] f = f.0.together
one_or_more o e (d ∷ p) f = go d.turn e.turn (one_or_more o d p f.1) (fall e (d ∷ p) f.0.together)
  where
    go : (a b : ℕ) → 1 ≤ a → a ≤ b → 1 ≤ b
    go a b h k = omega arith

positive : (o : Orders) (e : Entry) (past h : List Entry) → Follows o h → Stands e past h → 1 ≤ e.turn
positive o e past h f s = let x = front_follows o e past h s f in one_or_more o e past x

-- the entries of a turn are of one actor
abbrev HeadIs : ℕ → Actor → List Entry → Type 0
HeadIs k a [] = Unit {0}
HeadIs k a (d ∷ p) = (d.turn < k) ⊎ ((d.turn ≡ k) × (d.actor ≡ a))

next_head : (o : Orders) (k : ℕ) (a : Actor) (d : Entry) (p : List Entry) → Follows o (d ∷ p) → HeadIs k a (d ∷ p) → HeadIs k a p
next_head o k a d [] f h = tt
next_head o k a d (c ∷ q) f h = go f.0.together h
  where
    lower : (a b k : ℕ) → a ≡ b → b < k → a < k
    lower a b k e h = omega arith

    under : (a b k : ℕ) → a < b → b < k → a < k
    under a b k e h = omega arith

    at : (a b k : ℕ) → a < b → b ≡ k → a < k
    at a b k e h = omega arith

    go : IsTogether d (c ∷ q) → HeadIs k a (d ∷ (c ∷ q)) → HeadIs k a (c ∷ q)
    go (inl x) (inl y) = inl (lower c.turn d.turn k x.0 y)
    go (inl x) (inr y) = inr (x.0 ∙ y.0, x.1 ∙ y.1)
    go (inr x) (inl y) = inl (under c.turn d.turn k x y)
    go (inr x) (inr y) = inl (at c.turn d.turn k x y.0)

from_head : (o : Orders) (k : ℕ) (a : Actor) (h : List Entry) → Follows o h → HeadIs k a h → Each (IsOfTurn k a) h
from_head o k a [] f h = tt
from_head o k a (d ∷ p) f h = (own h, from_head o k a p f.1 (next_head o k a d p f h))
  where
    clash : (a b : ℕ) → a < b → a ≡ b → ⊥
    clash a b h e = omega arith

    own : HeadIs k a (d ∷ p) → d.turn ≡ k → d.actor ≡ a
    own (inl x) e = absurd (clash d.turn k x e)
    own (inr x) e = x.1

one_actor : (o : Orders) (e : Entry) (past h : List Entry) → Follows o h → Stands e past h → Each (IsOfTurn e.turn e.actor) h
one_actor o e past [] f s = tt
one_actor o e past (d ∷ p) f (inl s) = from_head o e.turn e.actor (d ∷ p) f (inr (ap (λ (x : Entry). x.turn) s.0, ap (λ (x : Entry). x.actor) s.0))
one_actor o e past (d ∷ []) f (inr s) = absurd s
one_actor o e past (d ∷ (c ∷ q)) f (inr s) = let x = one_actor o e past (c ∷ q) f.1 s in (own x.0 f.0.together, x)
  where
    low : e.turn ≤ c.turn
    low = at_top s
      where
        same : (a b : ℕ) → a ≡ b → b ≤ a
        same a b h = omega arith

        at_top : Stands e past (c ∷ q) → e.turn ≤ c.turn
        at_top (inl y) = same c.turn e.turn (ap (λ (x : Entry). x.turn) y.0)
        at_top (inr y) = below e past q c (falls o (c ∷ q) f.1) y

    clash : (a b k : ℕ) → k ≤ a → a < b → b ≡ k → ⊥
    clash a b k h l e = omega arith

    own : (c.turn ≡ e.turn → c.actor ≡ e.actor) → IsTogether d (c ∷ q) → d.turn ≡ e.turn → d.actor ≡ e.actor
    own h (inl y) k = sym y.1 ∙ h (y.0 ∙ k)
    own h (inr y) k = absurd (clash c.turn d.turn e.turn low y k)

-- where an entry stands in its turn
pub record Placed (e : Entry) (past h : List Entry) : Type 0 where
  pub before : List What
  pub after : List What
  pub entries : turn_entries e.turn h ≡ before ++ e.what ∷ after
  pub stands : past ≡ onto e.turn e.actor before (before_number e.turn h)

placed_last : (e : Entry) (past : List Entry) → Each NoFall (e ∷ past) → Each (IsOfTurn e.turn e.actor) (e ∷ past) → Placed e past (e ∷ past)
placed_last e past f g =
    let k = e.turn in
    record {
      before = turn_entries k past;
      after = [];
      entries = cond-true (eqb k k) (turn_entries k past ++ e.what ∷ []) (turn_entries k past) (same_self k);
      stands = sym (low_same (suc k) past (fall_low (suc k) e past f.0 (own k))) ∙ (split k e.actor past f.1 g.1 ∙ ap (λ (p : List Entry). onto k e.actor (turn_entries k past) p) (sym (drops k e past (self k))));
    }
  where
    own : (n : ℕ) → n < suc n
    own n = omega arith

    self : (n : ℕ) → n ≤ n
    self n = omega arith

placed_before : (e : Entry) (past : List Entry) (d : Entry) (h : List Entry) → e.turn ≤ d.turn → Placed e past h → Placed e past (d ∷ h)
placed_before e past d h l x =
    let k = e.turn in
    let stands : past ≡ onto k e.actor x.before (before_number k (d ∷ h)) = x.stands ∙ ap (λ (p : List Entry). onto k e.actor x.before p) (sym (drops k d h l)) in
    by_test (eqb d.turn k)
    (λ y. record {
      before = x.before;
      after = x.after ++ d.what ∷ [];
      entries = cond-true (eqb d.turn k) (turn_entries k h ++ d.what ∷ []) (turn_entries k h) y ∙ (ap (λ (ws : List What). ws ++ d.what ∷ []) x.entries ∙ append_assoc x.before (e.what ∷ x.after) (d.what ∷ []));
      stands = stands;
    })
    (λ n. record {
      before = x.before;
      after = x.after;
      entries = cond-false (eqb d.turn k) (turn_entries k h ++ d.what ∷ []) (turn_entries k h) n ∙ x.entries;
      stands = stands;
    })

placed : (e : Entry) (past h : List Entry) → Each NoFall h → Each (IsOfTurn e.turn e.actor) h → Stands e past h → Placed e past h
placed e past [] f g s = absurd s
placed e past (d ∷ h) f g (inl s) =
    subst (λ (p : List Entry). Placed e past (d ∷ p)) (sym s.1)
    (subst (λ (x : Entry). Placed e past (x ∷ past)) (sym s.0)
    (placed_last e past
    (subst (λ (p : List Entry). Each NoFall (e ∷ p)) s.1 (subst (λ (x : Entry). Each NoFall (x ∷ h)) s.0 f))
    (subst (λ (p : List Entry). Each (IsOfTurn e.turn e.actor) (e ∷ p)) s.1 (subst (λ (x : Entry). Each (IsOfTurn e.turn e.actor) (x ∷ h)) s.0 g))))
placed e past (d ∷ h) f g (inr s) = placed_before e past d h (below e past h d f s) (placed e past h f.1 g.1 s)

-- its turn
new_at : (k : ℕ) (h : List Entry) → 1 ≤ k → IsNewTurn k (before_number k h)
new_at k [] l = l
new_at k (e ∷ past) l = by_test (ltb e.turn k)
    (λ y. subst (IsNewTurn k) (sym (cond-true (ltb e.turn k) (e ∷ past) (before_number k past) y)) (true_less e.turn k y))
    (λ n. subst (IsNewTurn k) (sym (cond-false (ltb e.turn k) (e ∷ past) (before_number k past) n)) (new_at k past l))

not_none : (xs : List What) (w : What) (ys : List What) → xs ++ w ∷ ys ≡ [] → ⊥
not_none [] w ys e = cc
not_none (x ∷ xs) w ys e = cc

pub record InTurn (o : Orders) (e : Entry) (past h : List Entry) : Type 0 where
  pub place : Placed e past h
  pub turn : IsTurn o e.turn e.actor (turn_entries e.turn h) (before_number e.turn h)
  pub rules : Ruled o (before_number e.turn h)
  pub whole : before_number (suc e.turn) h ≡ onto e.turn e.actor (turn_entries e.turn h) (before_number e.turn h)

pub in_turn : (o : Orders) (e : Entry) (past h : List Entry) → Right o h → Stands e past h → InTurn o e past h
in_turn o e past h r s =
    let k = e.turn in
    let a = e.actor in
    let q = ruled o h r in
    let f = falls o h q.follows in
    let g = one_actor o e past h q.follows s in
    let place = placed e past h f g s in
    let after = split k a h f g in
    let new = new_at k h (positive o e past h q.follows s) in
    let rules : Ruled o (onto k a (turn_entries k h) (before_number k h)) = subst (Ruled o) after (cut_ruled o (suc k) h q.follows (λ l. q)) in
    record {
      place = place;
      turn = turn_or o k a (turn_entries k h) (before_number k h) new rules (λ n. not_none place.before e.what place.after (sym place.entries ∙ n));
      rules = ruled_or o k a (turn_entries k h) (before_number k h) new rules;
      whole = after;
    }

-- what begins its turn stands right after what stands before the turn
onto_same : (k : ℕ) (a : Actor) (e : Entry) (w : What) (ws : List What) (p : List Entry) → e.turn ≡ k → same_turn e (onto k a (w ∷ ws) p) ≡ true
onto_same k a e w [] p h = eq-eqb k e.turn (sym h)
onto_same k a e w (v ∷ ws) p h = onto_same k a e v ws (by k a w ∷ p) h

nothing_before : (e : Entry) (ws : List What) (past p : List Entry) → past ≡ onto e.turn e.actor ws p → same_turn e past ≡ false → ws ≡ []
nothing_before e [] past p h n = refl
nothing_before e (w ∷ ws) past p h n = absurd (both_ways (same_turn e past) n (ap (λ (q : List Entry). same_turn e q) h ∙ onto_same e.turn e.actor e w ws p refl))

pub record BeginsTurn (o : Orders) (e : Entry) (past h : List Entry) (after : List What) : Type 0 where
  pub before_is : before_number e.turn h ≡ past
  pub entries : turn_entries e.turn h ≡ e.what ∷ after
  pub turn : IsTurn o e.turn e.actor (e.what ∷ after) past
  pub rules : Ruled o past

pub begins_by : (o : Orders) (e : Entry) (past h : List Entry) (x : InTurn o e past h) → x.place.before ≡ [] → BeginsTurn o e past h x.place.after
begins_by o e past h x none =
    let k = e.turn in
    let b : before_number k h ≡ past = sym (x.place.stands ∙ ap (λ (ws : List What). onto k e.actor ws (before_number k h)) none) in
    let s : turn_entries k h ≡ e.what ∷ x.place.after = x.place.entries ∙ ap (λ (ws : List What). ws ++ e.what ∷ x.place.after) none in
    record {
      before_is = b;
      entries = s;
      turn = subst (λ (p : List Entry). IsTurn o k e.actor (e.what ∷ x.place.after) p) b (subst (λ (ws : List What). IsTurn o k e.actor ws (before_number k h)) s x.turn);
      rules = subst (Ruled o) b x.rules;
    }

pub begins : (o : Orders) (e : Entry) (past h : List Entry) → Right o h → Stands e past h → same_turn e past ≡ false → (after : List What) × BeginsTurn o e past h after
begins o e past h r s n = let x = in_turn o e past h r s in (x.place.after, begins_by o e past h x (nothing_before e x.place.before past (before_number e.turn h) x.place.stands n))

-- what stands before a turn number stands in the history
pub stands_cut : (k : ℕ) (e : Entry) (past h : List Entry) → Stands e past (before_number k h) → Stands e past h
stands_cut k e past [] s = s
stands_cut k e past (d ∷ h) s = by_test (ltb d.turn k)
    (λ y. subst (Stands e past) (cond-true (ltb d.turn k) (d ∷ h) (before_number k h) y) s)
    (λ n. inr (stands_cut k e past h (subst (Stands e past) (cond-false (ltb d.turn k) (d ∷ h) (before_number k h) n) s)))
