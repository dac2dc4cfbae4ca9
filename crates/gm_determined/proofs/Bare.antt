-- A history without spare room is determined by its orders and its turns.
use Rattle.std.proofs.Common.{◌++◌, ◌<◌, List, Some, [], ap, append-nil, append_assoc, arith, eq-eqb, eqb, false, inl, inr, length, ltb, refl, subst, suc, sym, true, zero, ℕ, ◌∙◌, ◌∷◌, ◌≡◌, ◌≤◌, ◌⊎◌}
use Rattle.std.proofs.lemmas.Bool.{both_ways, cond-false, cond-true}
use Rattle.std.proofs.lemmas.Bool.Decides.{nat_tests}
use Rattle.gm_base.specs.Scripts.{Orders}
use Rattle.gm_base.specs.declared.script.Turn.{Turn}
use Rattle.gm_base.specs.declared.script.Turn.TheVariants.{Kick, Next}
use Rattle.gm_base.specs.declared.values.Actor.{Actor}
use Rattle.gm_base.specs.declared.values.Setup.{Setup}
use Rattle.gm_flat.specs.Histories.{before_turn, newest_turn, same_turn}
use Rattle.gm_flat.specs.Mappings.{pending}
use Rattle.gm_flat.specs.Plays.{IsHere, IsOfTurn, IsPlayed, NoFall, actor_of, before_number, turn_at, turn_entries}
use Rattle.gm_flat.specs.RightHistory.{Each, Right}
use Rattle.gm_flat.specs.RightOrder.{IsWhole, is_row}
use Rattle.gm_flat.specs.declared.entry.Entry.{Entry}
use Rattle.gm_flat.specs.declared.entry.What.{What}
use Rattle.gm_flat.specs.declared.entry.What.TheVariants.{Flush}
use Rattle.gm_laws.proofs.Kit.{by, by_test}
use Rattle.gm_laws.proofs.RightIsRuled.{ruled}
use Rattle.gm_laws.proofs.TurnsKeep.{new_turn}
use Rattle.gm_laws.specs.Ruled.{Follows, Ruled}
use Rattle.gm_laws.specs.Turns.{EachMay, IsNewTurn, IsTurn, onto}
use Rattle.gm_determined.specs.Determined.{AreHere, HasTurn, IsItsTurns, PlaysAnyAt, roomless_turn, stamps}
use Rattle.gm_determined.proofs.Turn.{kick_is, turn_here, turn_stamped}

pub same_self : (t : ℕ) → eqb t t ≡ true
same_self t = eq-eqb t t refl

less_true : (a b : ℕ) → a < b → ltb a b ≡ true
less_true a b h = grind (arith, nat_tests)

less_false : (a b : ℕ) → b ≤ a → ltb a b ≡ false
less_false a b h = grind (arith, nat_tests)

pub true_less : (a b : ℕ) → ltb a b ≡ true → a < b
true_less a b h = grind (arith, nat_tests)

false_less : (a b : ℕ) → ltb a b ≡ false → b ≤ a
false_less a b h = grind (arith, nat_tests)

unlike : (a b : ℕ) → a < b → eqb a b ≡ false
unlike a b h = grind (arith, nat_tests)

-- what stands before a turn number
keeps : (k : ℕ) (e : Entry) (past : List Entry) → e.turn < k → before_number k (e ∷ past) ≡ e ∷ past
keeps k e past h = cond-true (ltb e.turn k) (e ∷ past) (before_number k past) (less_true e.turn k h)

pub drops : (k : ℕ) (e : Entry) (past : List Entry) → k ≤ e.turn → before_number k (e ∷ past) ≡ before_number k past
drops k e past h = cond-false (ltb e.turn k) (e ∷ past) (before_number k past) (less_false e.turn k h)

abbrev HeadLow : ℕ → List Entry → Type 0
HeadLow k [] = Unit {0}
HeadLow k (d ∷ p) = d.turn < k

new_after : (k : ℕ) (e : Entry) (past : List Entry) → HeadLow k past → k ≤ e.turn → same_turn e past ≡ false
new_after k e [] l h = refl
new_after k e (d ∷ p) l h = unlike d.turn e.turn (omega arith)

pub cut_ruled : (o : Orders) (k : ℕ) (h : List Entry) → Follows o h → (HeadLow k h → Ruled o h) → Ruled o (before_number k h)
cut_ruled o k [] f w = w tt
cut_ruled o k (e ∷ past) f w = by_test (ltb e.turn k)
    (λ y. subst (Ruled o) (sym (cond-true (ltb e.turn k) (e ∷ past) (before_number k past) y)) (w (true_less e.turn k y)))
    (λ n. subst (Ruled o) (sym (cond-false (ltb e.turn k) (e ∷ past) (before_number k past) n)) (cut_ruled o k past f.1 (λ l.
    let new = new_after k e past l (false_less e.turn k n) in
    record { follows = f.1; row = f.0.row new; freed = f.0.freed new })))

cut_each : (P : Entry → List Entry → Type 0) (k : ℕ) (h : List Entry) → Each P h → Each P (before_number k h)
cut_each P k [] x = tt
cut_each P k (e ∷ past) x = by_test (ltb e.turn k)
    (λ y. subst (Each P) (sym (cond-true (ltb e.turn k) (e ∷ past) (before_number k past) y)) x)
    (λ n. subst (Each P) (sym (cond-false (ltb e.turn k) (e ∷ past) (before_number k past) n)) (cut_each P k past x.1))

cut_new : (k : ℕ) (h : List Entry) → IsNewTurn (suc k) (before_number (suc k) h)
cut_new k [] = omega arith
cut_new k (e ∷ past) = by_test (ltb e.turn (suc k))
    (λ y. subst (IsNewTurn (suc k)) (sym (cond-true (ltb e.turn (suc k)) (e ∷ past) (before_number (suc k) past) y)) (true_less e.turn (suc k) y))
    (λ n. subst (IsNewTurn (suc k)) (sym (cond-false (ltb e.turn (suc k)) (e ∷ past) (before_number (suc k) past) n)) (cut_new k past))

-- a history is its turns, one onto another
pub fall_low : (k : ℕ) (e : Entry) (past : List Entry) → NoFall e past → e.turn < k → HeadLow k past
fall_low k e [] f h = tt
fall_low k e (d ∷ p) f h = omega arith

pub low_same : (k : ℕ) (past : List Entry) → HeadLow k past → before_number k past ≡ past
low_same k [] h = refl
low_same k (d ∷ p) h = keeps k d p h

none_of : (k : ℕ) (past : List Entry) → Each NoFall past → HeadLow k past → turn_entries k past ≡ []
none_of k [] f h = refl
none_of k (e ∷ past) f h = cond-false (eqb e.turn k) (turn_entries k past ++ e.what ∷ []) (turn_entries k past) (unlike e.turn k h) ∙ none_of k past f.1 (fall_low k e past f.0 h)

onto_more : (t : ℕ) (a : Actor) (ws : List What) (w : What) (past : List Entry) → onto t a (ws ++ w ∷ []) past ≡ by t a w ∷ onto t a ws past
onto_more t a [] w past = refl
onto_more t a (x ∷ ws) w past = onto_more t a ws w (by t a x ∷ past)

entry_is : (e : Entry) (t : ℕ) (a : Actor) → e.turn ≡ t → e.actor ≡ a → e ≡ by t a e.what
entry_is e t a p q = ap (λ (n : ℕ). by n e.actor e.what) p ∙ ap (λ (x : Actor). by t x e.what) q

pub split : (k : ℕ) (a : Actor) (h : List Entry) → Each NoFall h → Each (IsOfTurn k a) h → before_number (suc k) h ≡ onto k a (turn_entries k h) (before_number k h)
split k a [] f g = refl
split k a (e ∷ past) f g = elim (three e.turn k) [
  | inl lt ↦
      keeps (suc k) e past (more e.turn k lt) ∙ sym (ap (λ (ws : List What). onto k a ws (before_number k (e ∷ past))) (none_of k (e ∷ past) f lt) ∙ keeps k e past lt)
  | inr (inl same) ↦
      keeps (suc k) e past (here e.turn k same) ∙ (ap (λ (x : Entry). x ∷ past) (entry_is e k a same (g.0 same)) ∙ (ap (λ (p : List Entry). by k a e.what ∷ p) (sym (low_same (suc k) past (fall_low (suc k) e past f.0 (here e.turn k same))) ∙ split k a past f.1 g.1) ∙ (sym (onto_more k a (turn_entries k past) e.what (before_number k past)) ∙ (ap (λ (ws : List What). onto k a ws (before_number k past)) (sym (cond-true (eqb e.turn k) (turn_entries k past ++ e.what ∷ []) (turn_entries k past) (eq-eqb e.turn k same))) ∙ ap (λ (p : List Entry). onto k a (turn_entries k (e ∷ past)) p) (sym (drops k e past (at_least e.turn k same)))))))
  | inr (inr gt) ↦
      drops (suc k) e past gt ∙ (split k a past f.1 g.1 ∙ (ap (λ (ws : List What). onto k a ws (before_number k past)) (sym (cond-false (eqb e.turn k) (turn_entries k past ++ e.what ∷ []) (turn_entries k past) (other e.turn k gt))) ∙ ap (λ (p : List Entry). onto k a (turn_entries k (e ∷ past)) p) (sym (drops k e past (past_it e.turn k gt)))))
]
  where
    three : (a b : ℕ) → (a < b) ⊎ ((a ≡ b) ⊎ (suc b ≤ a))
    three a b = grind (arith, nat_tests)

    more : (a b : ℕ) → a < b → a < suc b
    more a b h = omega arith

    here : (a b : ℕ) → a ≡ b → a < suc b
    here a b h = omega arith

    at_least : (a b : ℕ) → a ≡ b → b ≤ a
    at_least a b h = omega arith

    past_it : (a b : ℕ) → suc b ≤ a → b ≤ a
    past_it a b h = omega arith

    other : (a b : ℕ) → suc b ≤ a → eqb a b ≡ false
    other a b h = grind (arith, nat_tests)

-- the turn by the tables
onto_may : (o : Orders) (t : ℕ) (a : Actor) (ws : List What) (p : List Entry) → Follows o (onto t a ws p) → EachMay o t a ws p × Follows o p
onto_may o t a [] p f = (tt, f)
onto_may o t a (w ∷ ws) p f = let x = onto_may o t a ws (by t a w ∷ p) f in ((x.1.0.may, x.0), x.1.1)

onto_here : (t : ℕ) (a : Actor) (ws : List What) (p : List Entry) → Each (λ e q. IsHere e.what (same_turn e q) q) (onto t a ws p) → AreHere t a ws p × Each (λ e q. IsHere e.what (same_turn e q) q) p
onto_here t a [] p f = (tt, f)
onto_here t a (w ∷ ws) p f = let x = onto_here t a ws (by t a w ∷ p) f in ((x.1.0, x.0), x.1.1)

onto_row : (s : Setup) (t : ℕ) (a : Actor) (ws pre : List What) (w : What) (p past : List Entry) → newest_turn (by t a w ∷ p) ≡ pre → before_turn (by t a w ∷ p) ≡ past → IsWhole s (onto t a ws (by t a w ∷ p)) → is_row s a (pre ++ ws) past ≡ true
onto_row s t a [] pre w p past n b h =
    subst (λ (xs : List What). is_row s a xs past ≡ true) (sym (append-nil pre))
    (subst (λ (xs : List What). is_row s a xs past ≡ true) n (subst (λ (q : List Entry). is_row s a (newest_turn (by t a w ∷ p)) q ≡ true) b h))
onto_row s t a (x ∷ ws) pre w p past n b h =
    subst (λ (xs : List What). is_row s a xs past ≡ true) (append_assoc pre (x ∷ []) ws)
    (onto_row s t a ws (pre ++ x ∷ []) x (by t a w ∷ p) past
    (cond-true (eqb t t) (newest_turn (by t a w ∷ p) ++ x ∷ []) (x ∷ []) (same_self t) ∙ ap (λ (xs : List What). xs ++ x ∷ []) n)
    (cond-true (eqb t t) (before_turn (by t a w ∷ p)) (by t a w ∷ p) (same_self t) ∙ b) h)

is_turn : (o : Orders) (t : ℕ) (a : Actor) (w : What) (ws : List What) (past : List Entry) → IsNewTurn t past → Ruled o (onto t a (w ∷ ws) past) → IsTurn o t a (w ∷ ws) past × Ruled o past
is_turn o t a w ws past n r =
    let x = onto_may o t a ws (by t a w ∷ past) r.follows in
    let new : same_turn (by t a w) past ≡ false = new_turn t a w past n in (
      record {
        actor_is = x.1.0.actor_is;
        new = n;
        row = onto_row o.setup t a ws (w ∷ []) w past past (cond-false (same_turn (by t a w) past) (newest_turn past ++ w ∷ []) (w ∷ []) new) (cond-false (same_turn (by t a w) past) (before_turn past) past new) r.row;
        each_may = (x.1.0.may, x.0);
        freed = r.freed;
      },
      record { follows = x.1.1; row = x.1.0.row new; freed = x.1.0.freed new },
    )

-- one turn of two histories
cons_nil : {A : Type 0} (w : What) (ws : List What) → w ∷ ws ≡ [] → A
cons_nil w ws e = absurd (go e)
  where
    go : w ∷ ws ≡ [] → ⊥
    go e = cc

record Turned (o : Orders) (t : ℕ) (a : Actor) (ws : List What) (past : List Entry) : Type 0 where
  new : IsNewTurn t past
  rules : Ruled o (onto t a ws past)
  bare : roomless_turn ws ≡ ws

next_same : (o : Orders) (t : ℕ) (a : Actor) (ws gs : List What) (past : List Entry) → IsPlayed o (Next a) ws past → IsPlayed o (Next a) gs past → Turned o t a ws past → Turned o t a gs past → stamps ws ≡ stamps gs → ws ≡ gs
next_same o t a [] [] past p q x y st = refl
next_same o t a [] (g ∷ gs) past p q x y st = cons_nil g gs (q.1.1 (p.1.0 refl))
next_same o t a (w ∷ ws) [] past p q x y st = cons_nil w ws (p.1.1 (q.1.0 refl))
next_same o t a (w ∷ ws) (g ∷ gs) past p q x y st =
    let u = is_turn o t a w ws past x.new x.rules in
    let v = is_turn o t a g gs past y.new y.rules in
    sym x.bare ∙ (turn_stamped o t a (w ∷ ws) (g ∷ gs) past u.1 u.0 v.0 st (p.0 ∙ sym q.0) ∙ y.bare)

next_here : (o : Orders) (t : ℕ) (a : Actor) (ws gs : List What) (past : List Entry) → IsPlayed o (Next a) ws past → IsPlayed o (Next a) gs past → Turned o t a ws past → Turned o t a gs past → AreHere t a ws past → AreHere t a gs past → stamps ws ≡ stamps gs
next_here o t a [] [] past p q x y h i = refl
next_here o t a [] (g ∷ gs) past p q x y h i = cons_nil g gs (q.1.1 (p.1.0 refl))
next_here o t a (w ∷ ws) [] past p q x y h i = cons_nil w ws (p.1.1 (q.1.0 refl))
next_here o t a (w ∷ ws) (g ∷ gs) past p q x y h i =
    let u = is_turn o t a w ws past x.new x.rules in
    let v = is_turn o t a g gs past y.new y.rules in
    turn_here o t a (w ∷ ws) (g ∷ gs) past u.1 u.0 v.0 p.0 q.0 h i

kick_same : (o : Orders) (v : ℕ) (ws gs : List What) (past : List Entry) → IsPlayed o (Kick v) ws past → IsPlayed o (Kick v) gs past → ws ≡ gs
kick_same o v ws gs past p q = by_test (pending v past) (λ y. full ws p y ∙ sym (full gs q y)) (λ n. p.1.1 n ∙ sym (q.1.1 n))
  where
    full : (ws : List What) → IsPlayed o (Kick v) ws past → pending v past ≡ true → ws ≡ Flush ∷ []
    full ws p y = elim p.0 [ inl e ↦ absurd (both_ways (pending v past) (p.1.0 e) y) | inr k ↦ kick_is ws k ]

entries_same : (o : Orders) (k : ℕ) (t : Turn) (ws gs : List What) (past : List Entry) → IsPlayed o t ws past → IsPlayed o t gs past → Turned o k (actor_of t) ws past → Turned o k (actor_of t) gs past → stamps ws ≡ stamps gs → ws ≡ gs
entries_same o k (Next a) ws gs past p q x y st = next_same o k a ws gs past p q x y st
entries_same o k (Kick v) ws gs past p q x y st = kick_same o v ws gs past p q

entries_here : (o : Orders) (k : ℕ) (t : Turn) (ws gs : List What) (past : List Entry) → IsPlayed o t ws past → IsPlayed o t gs past → Turned o k (actor_of t) ws past → Turned o k (actor_of t) gs past → AreHere k (actor_of t) ws past → AreHere k (actor_of t) gs past → stamps ws ≡ stamps gs
entries_here o k (Next a) ws gs past p q x y h i = next_here o k a ws gs past p q x y h i
entries_here o k (Kick v) ws gs past p q x y h i = ap stamps (kick_same o v ws gs past p q)

abbrev pub IsBare : List Entry → Type 0
IsBare h = (k : ℕ) → roomless_turn (turn_entries k h) ≡ turn_entries k h

turned : (o : Orders) (n : ℕ) (a : Actor) (h : List Entry) → Ruled o h → Each NoFall h → Each (IsOfTurn (suc n) a) h → IsBare h → Turned o (suc n) a (turn_entries (suc n) h) (before_number (suc n) h)
turned o n a h r f g b =
    record {
      new = cut_new n h;
      rules = subst (Ruled o) (split (suc n) a h f g) (cut_ruled o (suc (suc n)) h r.follows (λ l. r));
      bare = b (suc n);
    }

abbrev pub AllHere : List Entry → Type 0
AllHere h = Each (λ e p. IsHere e.what (same_turn e p) p) h

turn_is_here : (n : ℕ) (a : Actor) (h : List Entry) → Each NoFall h → Each (IsOfTurn (suc n) a) h → AllHere h → AreHere (suc n) a (turn_entries (suc n) h) (before_number (suc n) h)
turn_is_here n a h f g i = (onto_here (suc n) a (turn_entries (suc n) h) (before_number (suc n) h) (subst (Each (λ e p. IsHere e.what (same_turn e p) p)) (split (suc n) a h f g) (cut_each (λ e p. IsHere e.what (same_turn e p) p) (suc (suc n)) h i))).0

-- all turns
turn_some : (ts : List Turn) (n : ℕ) → n < length ts → (t : Turn) × (turn_at ts n ≡ Some t)
turn_some [] n h = absurd (none n h)
  where
    none : (n : ℕ) → n < 0 → ⊥
    none n h = omega arith
turn_some (t ∷ ts) zero h = (t, refl)
turn_some (t ∷ ts) (suc n) h = turn_some ts n (omega arith)

none_before : (m : ℕ) (h : List Entry) → Each (λ e p. (1 ≤ e.turn) × (e.turn ≤ m)) h → before_number 1 h ≡ []
none_before m [] f = refl
none_before m (e ∷ past) f = drops 1 e past f.0.0 ∙ none_before m past f.1

all_before : (m : ℕ) (h : List Entry) → Each (λ e p. (1 ≤ e.turn) × (e.turn ≤ m)) h → before_number (suc m) h ≡ h
all_before m [] f = refl
all_before m (e ∷ past) f = keeps (suc m) e past (under e.turn m f.0.1)
  where
    under : (a b : ℕ) → a ≤ b → a < suc b
    under a b h = omega arith

-- a history without spare room, right and of these turns
pub record Played (o : Orders) (ts : List Turn) (h : List Entry) : Type 0 where
  pub rules : Ruled o h
  pub plays : PlaysAnyAt o ts h
  pub bare : IsBare h

own_turn : (o : Orders) (ts : List Turn) (g : List Entry) (n : ℕ) (t : Turn) → Played o ts g → turn_at ts n ≡ Some t → Turned o (suc n) (actor_of t) (turn_entries (suc n) g) (before_number (suc n) g)
own_turn o ts g n t x e = turned o n (actor_of t) g x.rules x.plays.no_fall (x.plays.each_turn n t e).of_actor x.bare

-- the stamps of a turn are the same, where the pasts are
abbrev pub SameStamps : List Turn → List Entry → List Entry → Type 0
SameStamps ts g h = (n : ℕ) (t : Turn) → turn_at ts n ≡ Some t → before_number (suc n) g ≡ before_number (suc n) h → stamps (turn_entries (suc n) g) ≡ stamps (turn_entries (suc n) h)

pub here_stamps : (o : Orders) (ts : List Turn) (g h : List Entry) → Played o ts g → Played o ts h → AllHere g → AllHere h → SameStamps ts g h
here_stamps o ts g h x y i j = λ n t e ih.
    entries_here o (suc n) t (turn_entries (suc n) g) (turn_entries (suc n) h) (before_number (suc n) h)
    (subst (λ (z : List Entry). IsPlayed o t (turn_entries (suc n) g) z) ih (x.plays.each_turn n t e).played) (y.plays.each_turn n t e).played
    (subst (λ (z : List Entry). Turned o (suc n) (actor_of t) (turn_entries (suc n) g) z) ih (own_turn o ts g n t x e)) (own_turn o ts h n t y e)
    (subst (λ (z : List Entry). AreHere (suc n) (actor_of t) (turn_entries (suc n) g) z) ih (turn_is_here n (actor_of t) g x.plays.no_fall (x.plays.each_turn n t e).of_actor i))
    (turn_is_here n (actor_of t) h y.plays.no_fall (y.plays.each_turn n t e).of_actor j)

step_same : (o : Orders) (ts : List Turn) (g h : List Entry) → Played o ts g → Played o ts h → SameStamps ts g h → (n : ℕ) (t : Turn) → turn_at ts n ≡ Some t → before_number (suc n) g ≡ before_number (suc n) h → before_number (suc (suc n)) g ≡ before_number (suc (suc n)) h
step_same o ts g h x y st n t e ih =
    let a = actor_of t in
    let p = x.plays.each_turn n t e in
    let q = y.plays.each_turn n t e in
    let same : turn_entries (suc n) g ≡ turn_entries (suc n) h = entries_same o (suc n) t (turn_entries (suc n) g) (turn_entries (suc n) h) (before_number (suc n) h)
    (subst (λ (z : List Entry). IsPlayed o t (turn_entries (suc n) g) z) ih p.played) q.played
    (subst (λ (z : List Entry). Turned o (suc n) a (turn_entries (suc n) g) z) ih (own_turn o ts g n t x e)) (own_turn o ts h n t y e) (st n t e ih) in
    split (suc n) a g x.plays.no_fall p.of_actor ∙ (ap (λ (ws : List What). onto (suc n) a ws (before_number (suc n) g)) same ∙ (ap (λ (z : List Entry). onto (suc n) a (turn_entries (suc n) h) z) ih ∙ sym (split (suc n) a h y.plays.no_fall q.of_actor)))

upto_same : (o : Orders) (ts : List Turn) (g h : List Entry) → Played o ts g → Played o ts h → SameStamps ts g h → (n : ℕ) → n ≤ length ts → before_number (suc n) g ≡ before_number (suc n) h
upto_same o ts g h x y st zero l = none_before (length ts) g x.plays.in_range ∙ sym (none_before (length ts) h y.plays.in_range)
upto_same o ts g h x y st (suc n) l =
    let t = turn_some ts n l in
    step_same o ts g h x y st n t.0 t.1 (upto_same o ts g h x y st n (omega arith))

pub bare_same : (o : Orders) (ts : List Turn) (g h : List Entry) → Played o ts g → Played o ts h → SameStamps ts g h → g ≡ h
bare_same o ts g h x y st = sym (all_before (length ts) g x.plays.in_range) ∙ (upto_same o ts g h x y st (length ts) (omega arith) ∙ all_before (length ts) h y.plays.in_range)

-- a right history is its turns
pub turn_or : (o : Orders) (t : ℕ) (a : Actor) (ws : List What) (past : List Entry) → IsNewTurn t past → Ruled o (onto t a ws past) → (ws ≡ [] → ⊥) → IsTurn o t a ws past
turn_or o t a [] past n r e = absurd (e refl)
turn_or o t a (w ∷ ws) past n r e = (is_turn o t a w ws past n r).0

pub ruled_or : (o : Orders) (t : ℕ) (a : Actor) (ws : List What) (past : List Entry) → IsNewTurn t past → Ruled o (onto t a ws past) → Ruled o past
ruled_or o t a [] past n r = r
ruled_or o t a (w ∷ ws) past n r = (is_turn o t a w ws past n r).1

has_turn : (o : Orders) (n : ℕ) (a : Actor) (h : List Entry) → Ruled o h → Each NoFall h → Each (IsOfTurn (suc n) a) h → HasTurn o n a h
has_turn o n a h r f g =
    let after = split (suc n) a h f g in
    let rules : Ruled o (onto (suc n) a (turn_entries (suc n) h) (before_number (suc n) h)) = subst (Ruled o) after (cut_ruled o (suc (suc n)) h r.follows (λ l. r)) in
    record {
      before = ruled_or o (suc n) a (turn_entries (suc n) h) (before_number (suc n) h) (cut_new n h) rules;
      after = after;
      by_tables = λ e. turn_or o (suc n) a (turn_entries (suc n) h) (before_number (suc n) h) (cut_new n h) rules e;
    }

pub its_turns : (o : Orders) (ts : List Turn) (h : List Entry) → Right o h → PlaysAnyAt o ts h → IsItsTurns o ts h
its_turns o ts h r p =
    record {
      first = none_before (length ts) h p.in_range;
      each_turn = λ n t e. has_turn o n (actor_of t) h (ruled o h r) p.no_fall (p.each_turn n t e).of_actor;
      last = all_before (length ts) h p.in_range;
    }
