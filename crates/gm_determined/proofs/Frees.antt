-- The Frees of a turn are determined.
use Rattle.std.proofs.Common.{◌&&◌, ◌++◌, ◌+◌, ◌-◌, ◌<◌, Bool, List, Option, Some, [], ap, arith, eq-eqb, eqb, false, inl, inr, refl, subst, sym, true, ℕ, ◌∙◌, ◌∷◌, ◌≡◌, ◌≤◌, ◌⊎◌, ◌||◌}
use Rattle.std.proofs.lemmas.Bool.{both_ways, cases_lt, cond-false, cond-true}
use Rattle.gm_base.specs.Scripts.{Orders}
use Rattle.gm_base.specs.declared.values.Actor.{Actor}
use Rattle.gm_base.specs.declared.values.Actor.TheVariants.{Caller, Vcpu}
use Rattle.gm_base.specs.declared.values.Folio.{Folio}
use Rattle.gm_flat.specs.FlatState.{FolioState, Triple, is_live}
use Rattle.gm_flat.specs.Histories.{before_turn, newest_turn, same_turn}
use Rattle.gm_flat.specs.Replay.{flat}
use Rattle.gm_flat.specs.RightLives.{ComesAfter, FreeIsRight, IsPlaced, IsRunAt, frame_of, index_of_folio}
use Rattle.gm_flat.specs.RightOrder.{are_frees}
use Rattle.gm_flat.specs.declared.effect.Effect.{Effect}
use Rattle.gm_flat.specs.declared.entry.Entry.{Entry}
use Rattle.gm_flat.specs.declared.entry.What.{What}
use Rattle.gm_flat.specs.declared.entry.What.TheVariants.{Change, Free, Retry}
use Rattle.gm_laws.proofs.Fates.{idle, used_keep}
use Rattle.gm_laws.proofs.Kit.{by, by_test, some_same}
use Rattle.gm_laws.proofs.Lives.{frame_free, frame_live, live_stays}
use Rattle.gm_determined.proofs.Small.{effect_folios, false_true}
use Rattle.gm_laws.proofs.RuledIsRight.{ruled_lives}
use Rattle.gm_laws.proofs.Touches.{good}
use Rattle.gm_laws.proofs.TurnsKeep.{new_turn}
use Rattle.gm_laws.specs.May.{May}
use Rattle.gm_laws.specs.Ruled.{AllFreed, IsUsed, Ruled, loosened, loosens}
use Rattle.gm_laws.specs.Turns.{EachMay, IsNewTurn, onto}
use Rattle.gm_determined.proofs.Runs.{Comes, In, InAny, IsRun, Run, Runs, runs_same}

abbrev pub run_of : Folio → ℕ → Run
run_of fo n = record { serial = fo.serial; frame = fo.frame; pages = n }

abbrev pub runs_of : List What → List Run
runs_of [] = []
runs_of (Free fo n ∷ ws) = run_of fo n ∷ runs_of ws
runs_of (_ ∷ ws) = runs_of ws

abbrev frees_of : List Run → List What
frees_of [] = []
frees_of (r ∷ rs) = Free (record { serial = r.serial; frame = r.frame }) r.pages ∷ frees_of rs

frees_back : (ws : List What) → are_frees ws ≡ true → frees_of (runs_of ws) ≡ ws
frees_back [] e = refl
frees_back (Free fo n ∷ ws) e = ap (λ (xs : List What). Free fo n ∷ xs) (frees_back ws e)
frees_back (_ ∷ ws) e = false_true e

free_may : (o : Orders) (fo : Folio) (n : ℕ) (a : Actor) (p : List Entry) → May o (Free fo n) a p → FreeIsRight fo n p
free_may o fo n (Vcpu v) p m = m
free_may o fo n (Caller c) p m = m

same_self : (t : ℕ) → eqb t t ≡ true
same_self t = eq-eqb t t refl

-- what is freed is live before the turn, and unused after its first entry
abbrev Loose : ℕ → List Entry → List Entry → Type 0
Loose s past q = (is_live s (flat past).folios ≡ true) × (IsUsed s q → ⊥)

in_loose : (o : Orders) (t : ℕ) (a : Actor) (fs : List What) (past q p : List Entry) → are_frees fs ≡ true → EachMay o t a fs p → ((s : ℕ) → IsUsed s q → IsUsed s p) → ((s r : ℕ) → frame_of s (flat p).folios ≡ Some r → is_live s (flat past).folios ≡ true) → (s : ℕ) → InAny s (runs_of fs) → Loose s past q
in_loose o t a [] past q p e m u l s i = absurd i
in_loose o t a (Free fo n ∷ fs) past q p e m u l s (inl x) =
    let f = free_may o fo n a p m.0 in (
      subst (λ (j : ℕ). is_live j (flat past).folios ≡ true) x.2 (l (fo.serial + x.0) (fo.frame + x.0) (f.live x.0 x.1)),
      λ y. elim (subst (λ (j : ℕ). IsUsed j p) (sym x.2) (u s y)) [ inl c ↦ f.not_cached x.0 x.1 c | inr h ↦ f.not_held x.0 x.1 h ],
    )
in_loose o t a (Free fo n ∷ fs) past q p e m u l s (inr x) =
    in_loose o t a fs past q (by t a (Free fo n) ∷ p) e m.1 u (λ j r h. l j r (frame_free n fo.serial j r (flat p).folios h)) s x
in_loose o t a (_ ∷ ws) past q p e m u l s i = false_true e

-- what is live and not freed stays so
is_in : (s : ℕ) (r : Run) → In s r ⊎ (In s r → ⊥)
is_in s r = elim (cases_lt s r.serial) [
  | inl a ↦ inr (λ x. low r.serial x.0 s a x.2)
  | inr a ↦ elim (cases_lt s (r.serial + r.pages)) [
    | inl b ↦ let d = diff r.serial s a in inl (d.0, less r.serial s r.pages d.0 d.1 b, d.1)
    | inr b ↦ inr (λ x. high r.serial x.0 r.pages s b x.1 x.2)
  ]
]
  where
    low : (a k s : ℕ) → s < a → a + k ≡ s → ⊥
    low a k s h e = omega arith

    high : (a k n s : ℕ) → a + n ≤ s → k < n → a + k ≡ s → ⊥
    high a k n s h l e = omega arith

    less : (a s n k : ℕ) → a + k ≡ s → s < a + n → k < n
    less a s n k e h = omega arith

    diff : (a s : ℕ) → a ≤ s → (k : ℕ) × (a + k ≡ s)
    diff a s h = (s - a, back a s h)
      where
        back : (a s : ℕ) → a ≤ s → a + (s - a) ≡ s
        back a s h = omega arith

loose_in : (t : ℕ) (a : Actor) (fs : List What) (p : List Entry) (s : ℕ) → are_frees fs ≡ true → is_live s (flat p).folios ≡ true → InAny s (runs_of fs) ⊎ (is_live s (flat (onto t a fs p)).folios ≡ true)
loose_in t a [] p s e l = inr l
loose_in t a (Free fo n ∷ fs) p s e l = go (is_in s (run_of fo n)) (λ h. loose_in t a fs (by t a (Free fo n) ∷ p) s e h)
  where
    go : In s (run_of fo n) ⊎ (In s (run_of fo n) → ⊥) → (is_live s (flat (by t a (Free fo n) ∷ p)).folios ≡ true → InAny s (runs_of fs) ⊎ (is_live s (flat (onto t a fs (by t a (Free fo n) ∷ p))).folios ≡ true)) → InAny s (run_of fo n ∷ runs_of fs) ⊎ (is_live s (flat (onto t a fs (by t a (Free fo n) ∷ p))).folios ≡ true)
    go (inl i) f = inl (inl i)
    go (inr i) f = elim (f (live_stays n fo.serial s (flat p).folios (λ k lt q. i (k, lt, q)) l)) [ inl x ↦ inl (inr x) | inr x ↦ inr x ]
loose_in t a (_ ∷ ws) p s e l = false_true e

-- the readings of a turn that goes on with Frees
onto_used : (t : ℕ) (a : Actor) (fs : List What) (p : List Entry) (s : ℕ) → are_frees fs ≡ true → IsUsed s (onto t a fs p) → IsUsed s p
onto_used t a [] p s e u = u
onto_used t a (Free fo n ∷ fs) p s e u = onto_used t a fs (by t a (Free fo n) ∷ p) s e u
onto_used t a (_ ∷ ws) p s e u = false_true e

onto_loosened : (t : ℕ) (a : Actor) (fs : List What) (w : What) (p : List Entry) → are_frees fs ≡ true → loosened (by t a w ∷ p) ≡ true → loosened (onto t a fs (by t a w ∷ p)) ≡ true
onto_loosened t a [] w p e l = l
onto_loosened t a (Free fo n ∷ fs) w p e l = onto_loosened t a fs (Free fo n) (by t a w ∷ p) e (both (eqb t t) (loosened (by t a w ∷ p)) (same_self t) l)
  where
    both : (x y : Bool) → x ≡ true → y ≡ true → (false || (x && y)) ≡ true
    both true true a b = refl
    both true false a b = b
    both false y a b = a
onto_loosened t a (_ ∷ ws) w p e l = false_true e

onto_before : (t : ℕ) (a : Actor) (fs : List What) (w : What) (p : List Entry) → are_frees fs ≡ true → before_turn (onto t a fs (by t a w ∷ p)) ≡ before_turn (by t a w ∷ p)
onto_before t a [] w p e = refl
onto_before t a (Free fo n ∷ fs) w p e = onto_before t a fs (Free fo n) (by t a w ∷ p) e ∙ cond-true (eqb t t) (before_turn (by t a w ∷ p)) (by t a w ∷ p) (same_self t)
onto_before t a (_ ∷ ws) w p e = false_true e

first_loosened : (t : ℕ) (a : Actor) (w : What) (p : List Entry) → loosens w ≡ true → loosened (by t a w ∷ p) ≡ true
first_loosened t a w p l = one (loosens w) (same_turn (by t a w) p && loosened p) l
  where
    one : (x y : Bool) → x ≡ true → (x || y) ≡ true
    one true y e = refl
    one false y e = false_true e

first_before : (t : ℕ) (a : Actor) (w : What) (p : List Entry) → IsNewTurn t p → before_turn (by t a w ∷ p) ≡ p
first_before t a w p n = cond-false (same_turn (by t a w) p) (before_turn p) p (new_turn t a w p n)

first_newest : (t : ℕ) (a : Actor) (w : What) (p : List Entry) → IsNewTurn t p → newest_turn (by t a w ∷ p) ≡ w ∷ []
first_newest t a w p n = cond-false (same_turn (by t a w) p) (newest_turn p ++ w ∷ []) (w ∷ []) (new_turn t a w p n)

loose_all : (o : Orders) (t : ℕ) (a : Actor) (w : What) (fs : List What) (past : List Entry) → Ruled o past → IsNewTurn t past → May o w a past → (flat (by t a w ∷ past)).folios ≡ (flat past).folios → are_frees fs ≡ true → AllFreed (onto t a fs (by t a w ∷ past)) → (s : ℕ) → Loose s past (by t a w ∷ past) → InAny s (runs_of fs)
loose_all o t a w fs past r n m same e freed s l =
    let rest = (ruled_lives o past r).1 in
    let used : IsUsed s past = rest.live_is_used s l.0 in
    by_test (loosens w)
    (λ y.
    let q = by t a w ∷ past in
    let before : before_turn (onto t a fs q) ≡ past = onto_before t a fs w past e ∙ first_before t a w past n in
    go (freed (onto_loosened t a fs w past e (first_loosened t a w past y)) s (subst (IsUsed s) (sym before) used))
    (loose_in t a fs q s e (ap (λ (xs : List FolioState). is_live s xs) same ∙ l.0)))
    (λ y. absurd (l.1 (used_keep o t w a past s y (idle o past r.follows) (good o past r.follows) m used)))
  where
    go : IsUsed s (onto t a fs (by t a w ∷ past)) ⊎ (is_live s (flat (onto t a fs (by t a w ∷ past))).folios ≡ false) → InAny s (runs_of fs) ⊎ (is_live s (flat (onto t a fs (by t a w ∷ past))).folios ≡ true) → InAny s (runs_of fs)
    go x (inl i) = i
    go (inl u) (inr v) = absurd (l.1 (onto_used t a fs (by t a w ∷ past) s e u))
    go (inr u) (inr v) = absurd (both_ways (is_live s (flat (onto t a fs (by t a w ∷ past))).folios) u v)

-- after a Change: the frees are placed by the indexes before it
abbrev ix_of : List Entry → ℕ → Option ℕ
ix_of past s = index_of_folio s (flat past).cache

abbrev fr_of : List Entry → ℕ → Option ℕ
fr_of q s = frame_of s (flat q).folios

abbrev AfterLast : ℕ → Folio → ℕ → Folio → List Triple → Type 0
AfterLast index last n folio cache = (before : ℕ) × IsRunAt before last n cache × (before + n ≤ index) × ((before + n ≡ index) × (last.serial + n ≡ folio.serial) × (last.frame + n ≡ folio.frame) → ⊥)

after_last : (index n : ℕ) (last folio : Folio) (cache : List Triple) (pre : List What) → ComesAfter index folio cache (pre ++ Free last n ∷ []) → AfterLast index last n folio cache
after_last index n last folio cache [] h = h
after_last index n last folio cache (Free g m ∷ []) h = h
after_last index n last folio cache (Free g m ∷ (v ∷ pre)) h = after_last index n last folio cache (v ∷ pre) h
after_last index n last folio cache (_ ∷ pre) h = after_last index n last folio cache pre h

-- what the turn is so far
record SoFar (t : ℕ) (a : Actor) (e : Effect) (past q : List Entry) (pre : List What) (w : What) (p : List Entry) : Type 0 where
  newest : newest_turn (by t a w ∷ p) ≡ Change e ∷ pre
  before : before_turn (by t a w ∷ p) ≡ past
  frames : (s r : ℕ) → frame_of s (flat (by t a w ∷ p)).folios ≡ Some r → fr_of q s ≡ Some r

so_next : (t : ℕ) (a : Actor) (e : Effect) (past q : List Entry) (pre : List What) (w : What) (p : List Entry) (fo : Folio) (n : ℕ) → SoFar t a e past q pre w p → SoFar t a e past q (pre ++ Free fo n ∷ []) (Free fo n) (by t a w ∷ p)
so_next t a e past q pre w p fo n h =
    record {
      newest = cond-true (eqb t t) (newest_turn (by t a w ∷ p) ++ Free fo n ∷ []) (Free fo n ∷ []) (same_self t) ∙ ap (λ (xs : List What). xs ++ Free fo n ∷ []) h.newest;
      before = cond-true (eqb t t) (before_turn (by t a w ∷ p)) (by t a w ∷ p) (same_self t) ∙ h.before;
      frames = λ s r x. h.frames s r (frame_free n fo.serial s r (flat (by t a w ∷ p)).folios x);
    }

abbrev Placed : Folio → ℕ → List What → List Triple → Type 0
Placed folio pages pre cache = (index : ℕ) × IsRunAt index folio pages cache × ComesAfter index folio cache pre

placed : (o : Orders) (t : ℕ) (a : Actor) (e : Effect) (past q : List Entry) (pre : List What) (w : What) (p : List Entry) (fo : Folio) (n : ℕ) → SoFar t a e past q pre w p → May o (Free fo n) a (by t a w ∷ p) → Placed fo n pre (flat past).cache
placed o t a e past q pre w p fo n h m =
    subst (λ (x : List Entry). IsPlaced fo n (Change e ∷ pre) (flat x).cache) h.before
    (subst (λ (xs : List What). IsPlaced fo n xs (flat (before_turn (by t a w ∷ p))).cache) h.newest (free_may o fo n a (by t a w ∷ p) m).placed)

is_run : (o : Orders) (t : ℕ) (a : Actor) (e : Effect) (past q : List Entry) (pre : List What) (w : What) (p : List Entry) (fo : Folio) (n : ℕ) → SoFar t a e past q pre w p → (m : May o (Free fo n) a (by t a w ∷ p)) → (x : Placed fo n pre (flat past).cache) → IsRun (ix_of past) (fr_of q) x.0 (run_of fo n)
is_run o t a e past q pre w p fo n h m x =
    let f = free_may o fo n a (by t a w ∷ p) m in
    record { some = f.some; index = x.1; frame = λ k lt. h.frames (fo.serial + k) (fo.frame + k) (f.live k lt) }

comes : (o : Orders) (t : ℕ) (a : Actor) (e : Effect) (fs : List What) (past q : List Entry) (pre : List What) (w : What) (p : List Entry) (fo : Folio) (n i : ℕ) → are_frees fs ≡ true → SoFar t a e past q (pre ++ Free fo n ∷ []) w p → EachMay o t a fs (by t a w ∷ p) → IsRun (ix_of past) (fr_of q) i (run_of fo n) → Comes (ix_of past) i (run_of fo n) (runs_of fs)
comes o t a e [] past q pre w p fo n i y h m r = tt
comes o t a e (Free g k ∷ fs) past q pre w p fo n i y h m r =
    let x = placed o t a e past q (pre ++ Free fo n ∷ []) w p g k h m.0 in
    let z : AfterLast x.0 fo n g (flat past).cache = after_last x.0 n fo g (flat past).cache pre x.2 in
    let f = free_may o g k a (by t a w ∷ p) m.0 in
    let same : z.0 ≡ i = first_at (ix_of past) fo.serial z.0 i (z.1 0 r.some) (r.index 0 r.some) in
    (x.0, at_zero (ix_of past) g.serial x.0 (x.1 0 f.some), subst (λ (b : ℕ). b + n ≤ x.0) same z.2, λ j. z.3 (ap (λ (b : ℕ). b + n) same ∙ j.index, j.serial, j.frame))
  where
    at_zero : (f : ℕ → Option ℕ) (s i : ℕ) → f (s + 0) ≡ Some (i + 0) → f s ≡ Some i
    at_zero f s i e = ap f (plus s) ∙ (e ∙ ap (λ (n : ℕ). Some n) (sym (plus i)))
      where
        plus : (n : ℕ) → n ≡ n + 0
        plus n = omega arith

    first_at : (f : ℕ → Option ℕ) (s i j : ℕ) → f (s + 0) ≡ Some (i + 0) → f (s + 0) ≡ Some (j + 0) → i ≡ j
    first_at f s i j a b = minus i j (some_same (i + 0) (j + 0) (sym a ∙ b))
      where
        minus : (i j : ℕ) → i + 0 ≡ j + 0 → i ≡ j
        minus i j e = omega arith
comes o t a e (_ ∷ fs) past q pre w p fo n i y h m r = false_true y

runs_from : (o : Orders) (t : ℕ) (a : Actor) (e : Effect) (fs : List What) (past q : List Entry) (pre : List What) (w : What) (p : List Entry) → are_frees fs ≡ true → SoFar t a e past q pre w p → EachMay o t a fs (by t a w ∷ p) → Runs (ix_of past) (fr_of q) (runs_of fs)
runs_from o t a e [] past q pre w p y h m = tt
runs_from o t a e (Free fo n ∷ fs) past q pre w p y h m =
    let x = placed o t a e past q pre w p fo n h m.0 in
    let r = is_run o t a e past q pre w p fo n h m.0 x in
    let g = so_next t a e past q pre w p fo n h in
    (x.0, r, comes o t a e fs past q pre (Free fo n) (by t a w ∷ p) fo n x.0 y g m.1 r, runs_from o t a e fs past q (pre ++ Free fo n ∷ []) (Free fo n) (by t a w ∷ p) y g m.1)
runs_from o t a e (_ ∷ fs) past q pre w p y h m = false_true y

-- after a Retry: at most one folio
record RetrySoFar (t : ℕ) (a : Actor) (q : List Entry) (pre : List What) (w : What) (p : List Entry) : Type 0 where
  newest : newest_turn (by t a w ∷ p) ≡ Retry ∷ pre
  frames : (s r : ℕ) → frame_of s (flat (by t a w ∷ p)).folios ≡ Some r → fr_of q s ≡ Some r

retry_second : (o : Orders) (t : ℕ) (a : Actor) (fs : List What) (q : List Entry) (v : What) (w : What) (p : List Entry) → are_frees fs ≡ true → RetrySoFar t a q (v ∷ []) w p → EachMay o t a fs (by t a w ∷ p) → fs ≡ []
retry_second o t a [] q v w p y h m = refl
retry_second o t a (Free fo n ∷ fs) q v w p y h m = absurd (subst (λ (xs : List What). IsPlaced fo n xs (flat (before_turn (by t a w ∷ p))).cache) h.newest (free_may o fo n a (by t a w ∷ p) m.0).placed)
retry_second o t a (_ ∷ fs) q v w p y h m = false_true y

retry_runs : (o : Orders) (t : ℕ) (a : Actor) (fs : List What) (q : List Entry) (w : What) (p : List Entry) → are_frees fs ≡ true → RetrySoFar t a q [] w p → EachMay o t a fs (by t a w ∷ p) → Runs (λ s. Some s) (fr_of q) (runs_of fs)
retry_runs o t a [] q w p y h m = tt
retry_runs o t a (Free fo n ∷ fs) q w p y h m =
    let f = free_may o fo n a (by t a w ∷ p) m.0 in
    let none : fs ≡ [] = retry_second o t a fs q (Free fo n) (Free fo n) (by t a w ∷ p) y (record {
      newest = cond-true (eqb t t) (newest_turn (by t a w ∷ p) ++ Free fo n ∷ []) (Free fo n ∷ []) (same_self t) ∙ ap (λ (xs : List What). xs ++ Free fo n ∷ []) h.newest;
      frames = λ s r x. h.frames s r (frame_free n fo.serial s r (flat (by t a w ∷ p)).folios x);
    }) m.1 in
    subst (λ (xs : List What). Runs (λ s. Some s) (fr_of q) (run_of fo n ∷ runs_of xs)) (sym none)
    (fo.serial, record { some = f.some; index = λ k lt. refl; frame = λ k lt. h.frames (fo.serial + k) (fo.frame + k) (f.live k lt) }, tt, tt)
retry_runs o t a (_ ∷ fs) q w p y h m = false_true y

-- the entries that may come before Frees
abbrev pub IsFreer : What → Type 0
IsFreer (Change e) = Unit {0}
IsFreer Retry = Unit {0}
IsFreer _ = ⊥

record Placing (t : ℕ) (a : Actor) (w : What) (past : List Entry) : Type 0 where
  ix : ℕ → Option ℕ
  runs : (o : Orders) (fs : List What) → are_frees fs ≡ true → EachMay o t a fs (by t a w ∷ past) → Runs ix (fr_of (by t a w ∷ past)) (runs_of fs)
  folios : (flat (by t a w ∷ past)).folios ≡ (flat past).folios

placing : (t : ℕ) (a : Actor) (w : What) (past : List Entry) → IsNewTurn t past → IsFreer w → Placing t a w past
placing t a (Change e) past n f =
    record {
      ix = ix_of past;
      runs = λ o fs y m. runs_from o t a e fs past (by t a (Change e) ∷ past) [] (Change e) past y (record { newest = first_newest t a (Change e) past n; before = first_before t a (Change e) past n; frames = λ s r x. x }) m;
      folios = effect_folios e (flat past);
    }
placing t a Retry past n f =
    record {
      ix = λ s. Some s;
      runs = λ o fs y m. retry_runs o t a fs (by t a Retry ∷ past) Retry past y (record { newest = first_newest t a Retry past n; frames = λ s r x. x }) m;
      folios = refl;
    }
placing t a _ past n f = absurd f

pub frees_same : (o : Orders) (t : ℕ) (a : Actor) (w : What) (fs gs : List What) (past : List Entry) → Ruled o past → IsNewTurn t past → IsFreer w → May o w a past → are_frees fs ≡ true → are_frees gs ≡ true → EachMay o t a fs (by t a w ∷ past) → EachMay o t a gs (by t a w ∷ past) → AllFreed (onto t a fs (by t a w ∷ past)) → AllFreed (onto t a gs (by t a w ∷ past)) → fs ≡ gs
frees_same o t a w fs gs past r n f m x y mf mg ff fg =
    let p = placing t a w past n f in
    let q = by t a w ∷ past in
    let live : (s k : ℕ) → frame_of s (flat q).folios ≡ Some k → is_live s (flat past).folios ≡ true = λ s k h. ap (λ (xs : List FolioState). is_live s xs) (sym p.folios) ∙ frame_live s k (flat q).folios h in
    let same : runs_of fs ≡ runs_of gs = runs_same p.ix (fr_of q) (runs_of fs) (runs_of gs) (p.runs o fs x mf) (p.runs o gs y mg)
    (λ s i. loose_all o t a w gs past r n m p.folios y fg s (in_loose o t a fs past q q x mf (λ j u. u) live s i))
    (λ s i. loose_all o t a w fs past r n m p.folios x ff s (in_loose o t a gs past q q y mg (λ j u. u) live s i)) in
    sym (frees_back fs x) ∙ (ap frees_of same ∙ frees_back gs y)
