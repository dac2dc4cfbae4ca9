-- Longest runs are freed as the rules say.
use Rattle.std.proofs.Common.{◌≡◌, ℕ, ◌+◌, ◌<◌, ◌≤◌, ◌++◌, ◌&&◌, List, [], ◌∷◌, Bool, true, false, zero, suc, Option, Some, None, arith, refl, ◌∙◌, ap, sym, subst, cond, eqb, ltb, inl, inr, ◌⊎◌}
use Rattle.std.proofs.lemmas.Bool.{and_parts, both_ways, cases_Bool, cond-true}
use Rattle.std.proofs.lemmas.Bool.Decides.{nat_tests}
use Rattle.gm_base.specs.Scripts.{Orders}
use Rattle.gm_base.specs.declared.values.Actor.TheVariants.{Caller}
use Rattle.gm_base.specs.declared.values.Folio.{Folio}
use Rattle.gm_flat.specs.Effects.{are_added, free_each, free_one, free_run}
use Rattle.gm_flat.specs.FlatState.{FolioState, Triple}
use Rattle.gm_flat.specs.Histories.{before_turn, newest_turn, same_turn}
use Rattle.gm_flat.specs.Replay.{flat}
use Rattle.gm_flat.specs.RightLives.{ComesAfter, FreeIsRight, IsPlaced, IsRunAt, frame_of, index_of_folio}
use Rattle.gm_flat.specs.declared.effect.Effect.{Effect}
use Rattle.gm_flat.specs.declared.entry.Entry.{Entry}
use Rattle.gm_flat.specs.declared.entry.What.{What}
use Rattle.gm_flat.specs.declared.entry.What.TheVariants.{Change, Free}
use Rattle.gm_laws.specs.Turns.{EachMay}
use Rattle.gm_mapping.proofs.Lists.{self}
use Rattle.gm_callers.proofs.Moves.{by}
use Rattle.gm_turns.proofs.DueFolios.{AllDue, IsDue, RunDue}
use Rattle.gm_turns.specs.Runs.{continues, frees, one_more, run_of, runs_from}
use Rattle.gm_turns.specs.declared.frees.Run.{Run}

-- frees of other folios leave a folio as it is
free_one-other : (s k : ℕ) (xs : List FolioState) → eqb k s ≡ false → frame_of s (free_one k xs) ≡ frame_of s xs
free_one-other s k [] h = refl
free_one-other s k (x ∷ xs) h = step (eqb x.folio.serial k) refl (free_one-other s k xs h)
  where
    not_both : (a k s : ℕ) → eqb a k ≡ true → eqb k s ≡ false → eqb a s ≡ false
    not_both a k s e h = grind (arith, nat_tests)

    step : (t : Bool) → eqb x.folio.serial k ≡ t → frame_of s (free_one k xs) ≡ frame_of s xs → frame_of s (cond t (record x { live = false } ∷ xs) (x ∷ free_one k xs)) ≡ frame_of s (x ∷ xs)
    step true e ih = let n : eqb x.folio.serial s ≡ false = not_both x.folio.serial k s e h in rw n refl
    step false e ih = ap (λ (o : Option ℕ). cond (eqb x.folio.serial s) (cond x.live (Some x.folio.frame) None) o) ih

free_each-other : (s n k : ℕ) (xs : List FolioState) → ((j : ℕ) → j < n → eqb (k + j) s ≡ false) → frame_of s (free_each n k xs) ≡ frame_of s xs
free_each-other s zero k xs h = refl
free_each-other s (suc n) k xs h = free_one-other s (k + n) (free_each n k xs) (h n (omega arith)) ∙ free_each-other s n k xs (λ j lt. h j (omega arith))

free_run-other : (s n k : ℕ) (xs : List FolioState) → ((j : ℕ) → j < n → eqb (k + j) s ≡ false) → frame_of s (free_run n k xs) ≡ frame_of s xs
free_run-other s n k xs h = step (are_added n k xs)
  where
    step : (t : Bool) → frame_of s (cond t (free_each n k xs) xs) ≡ frame_of s xs
    step true = free_each-other s n k xs h
    step false = refl

-- what is due stays due when a run that ends at its index or before it is freed
differ : (cache : List Triple) (i j a b : ℕ) → index_of_folio a cache ≡ Some i → index_of_folio b cache ≡ Some j → i < j → eqb a b ≡ false
differ cache i j a b e f lt = elim (cases_Bool (eqb a b)) [
  | inl t ↦ absurd (clash i j (sym e ∙ ap (λ (n : ℕ). index_of_folio n cache) (same a b t) ∙ f) lt)
  | inr n ↦ n
]
  where
    same : (a b : ℕ) → eqb a b ≡ true → a ≡ b
    same a b t = grind (arith, nat_tests)

    some_same : (i j : ℕ) → Some i ≡ Some j → i ≡ j
    some_same i j e = cc

    clash : (i j : ℕ) → Some i ≡ Some j → i < j → ⊥
    clash i j e lt = let s = some_same i j e in omega arith

pub due_later : (t c : ℕ) (cache : List Triple) (past : List Entry) (r : Run) (i s f : ℕ) → RunDue cache past r → r.index + r.pages ≤ i → IsDue cache past i s f → IsDue cache (by t c (Free r.folio r.pages) ∷ past) i s f
due_later t c cache past r i s f d le h = record {
  at = h.at;
  live = free_run-other s r.pages r.folio.serial (flat past).folios (λ j lt. differ cache (r.index + j) i (r.folio.serial + j) s (d.each j lt).at h.at (omega arith)) ∙ h.live;
  not_cached = h.not_cached;
  not_held = h.not_held;
}

pub all_later : (t c : ℕ) (cache : List Triple) (past : List Entry) (r : Run) (lo : ℕ) (ps : List (ℕ × Folio)) → RunDue cache past r → r.index + r.pages ≤ lo → AllDue cache past lo ps → AllDue cache (by t c (Free r.folio r.pages) ∷ past) lo ps
all_later t c cache past r lo [] d le h = tt
all_later t c cache past r lo (p ∷ ps) d le h =
    let a = h.0 in
    (h.0, due_later t c cache past r p.0 p.1.serial p.1.frame d (omega arith) h.1, all_later t c cache past r (p.0 + 1) ps d (omega arith) h.2)

-- the run grows
add_zero : (n : ℕ) → n + 0 ≡ n
add_zero n = omega arith

pub one_due : (cache : List Triple) (past : List Entry) (p : ℕ × Folio) → IsDue cache past p.0 p.1.serial p.1.frame → RunDue cache past (run_of p)
one_due cache past p h = record { some = omega arith; each = λ k lt. first k (below k lt) }
  where
    below : (k : ℕ) → k < 1 → k ≡ 0
    below k lt = omega arith

    here : IsDue cache past (p.0 + 0) (p.1.serial + 0) (p.1.frame + 0)
    here = subst (λ (n : ℕ). IsDue cache past n (p.1.serial + 0) (p.1.frame + 0)) (sym (add_zero p.0)) (subst (λ (n : ℕ). IsDue cache past p.0 n (p.1.frame + 0)) (sym (add_zero p.1.serial)) (subst (λ (n : ℕ). IsDue cache past p.0 p.1.serial n) (sym (add_zero p.1.frame)) h))

    first : (k : ℕ) → k ≡ 0 → IsDue cache past (p.0 + k) (p.1.serial + k) (p.1.frame + k)
    first k e = subst (λ (n : ℕ). IsDue cache past (p.0 + n) (p.1.serial + n) (p.1.frame + n)) (sym e) here

pub more_due : (cache : List Triple) (past : List Entry) (r : Run) (p : ℕ × Folio) → RunDue cache past r → p.0 ≡ r.index + r.pages → p.1.serial ≡ r.folio.serial + r.pages → p.1.frame ≡ r.folio.frame + r.pages → IsDue cache past p.0 p.1.serial p.1.frame → RunDue cache past (one_more r)
more_due cache past r p d a b c h = record { some = omega arith; each = λ k lt. pick k (cases_Bool (ltb k r.pages)) lt }
  where
    under : (k n : ℕ) → ltb k n ≡ true → k < n
    under k n e = grind (arith, nat_tests)

    last : (k n : ℕ) → ltb k n ≡ false → k < n + 1 → n ≡ k
    last k n e lt = grind (arith, nat_tests)

    here : IsDue cache past (r.index + r.pages) (r.folio.serial + r.pages) (r.folio.frame + r.pages)
    here = subst (λ (n : ℕ). IsDue cache past n (r.folio.serial + r.pages) (r.folio.frame + r.pages)) a (subst (λ (n : ℕ). IsDue cache past p.0 n (r.folio.frame + r.pages)) b (subst (λ (n : ℕ). IsDue cache past p.0 p.1.serial n) c h))

    pick : (k : ℕ) → (ltb k r.pages ≡ true) ⊎ (ltb k r.pages ≡ false) → k < r.pages + 1 → IsDue cache past (r.index + k) (r.folio.serial + k) (r.folio.frame + k)
    pick k (inl e) lt = d.each k (under k r.pages e)
    pick k (inr e) lt = subst (λ (n : ℕ). IsDue cache past (r.index + n) (r.folio.serial + n) (r.folio.frame + n)) (last k r.pages e lt) here

-- a turn that has made its change and freed these runs
pub record Freed (t c : ℕ) (effect : Effect) (cache : List Triple) (done : List Run) (past : List Entry) : Type 0 where
  pub same : (w : What) → same_turn (by t c w) past ≡ true
  pub entries : newest_turn past ≡ Change effect ∷ frees done
  pub cache_is : (flat (before_turn past)).cache ≡ cache

frees_more : (done : List Run) (r : Run) → frees (done ++ r ∷ []) ≡ frees done ++ Free r.folio r.pages ∷ []
frees_more [] r = refl
frees_more (x ∷ done) r = ap (λ (ws : List What). Free x.folio x.pages ∷ ws) (frees_more done r)

freed_more : (t c : ℕ) (effect : Effect) (cache : List Triple) (done : List Run) (past : List Entry) (r : Run) → Freed t c effect cache done past → Freed t c effect cache (done ++ r ∷ []) (by t c (Free r.folio r.pages) ∷ past)
freed_more t c effect cache done past r h =
    let w = Free r.folio r.pages in
    let s : same_turn (by t c w) past ≡ true = h.same w in
    record {
      same = λ v. self t;
      entries = cond-true (same_turn (by t c w) past) (newest_turn past ++ w ∷ []) (w ∷ []) s ∙ ap (λ (ws : List What). ws ++ w ∷ []) h.entries ∙ ap (λ (ws : List What). Change effect ∷ ws) (sym (frees_more done r));
      cache_is = ap (λ (p : List Entry). (flat p).cache) (cond-true (same_turn (by t c w) past) (before_turn past) past s) ∙ h.cache_is;
    }

-- the next run comes after the last one
after_last : (index : ℕ) (f : Folio) (cache : List Triple) (done : List Run) (r : Run) → IsRunAt r.index r.folio r.pages cache → r.index + r.pages ≤ index → ((r.index + r.pages ≡ index) × (r.folio.serial + r.pages ≡ f.serial) × (r.folio.frame + r.pages ≡ f.frame) → ⊥) → ComesAfter index f cache (frees (done ++ r ∷ []))
after_last index f cache [] r a b n = (r.index, a, b, n)
after_last index f cache (x ∷ []) r a b n = (r.index, a, b, n)
after_last index f cache (x ∷ (y ∷ done)) r a b n = after_last index f cache (y ∷ done) r a b n

apart : (r : Run) (p : ℕ × Folio) → continues r p ≡ false → (r.index + r.pages ≡ p.0) × (r.folio.serial + r.pages ≡ p.1.serial) × (r.folio.frame + r.pages ≡ p.1.frame) → ⊥
apart r p e h = both_ways _ e (all p.0 (r.index + r.pages) p.1.serial (r.folio.serial + r.pages) p.1.frame (r.folio.frame + r.pages) h.0 h.1 h.2)
  where
    all : (a b c d x y : ℕ) → b ≡ a → d ≡ c → y ≡ x → (eqb a b && (eqb c d && eqb x y)) ≡ true
    all a b c d x y h k l = grind (arith, nat_tests)

pub joined : (r : Run) (p : ℕ × Folio) → continues r p ≡ true → (p.0 ≡ r.index + r.pages) × (p.1.serial ≡ r.folio.serial + r.pages) × (p.1.frame ≡ r.folio.frame + r.pages)
joined r p e =
    let x = and_parts _ _ e in
    let y = and_parts _ _ x.1 in
    (is p.0 (r.index + r.pages) x.0, is p.1.serial (r.folio.serial + r.pages) y.0, is p.1.frame (r.folio.frame + r.pages) y.1)
  where
    is : (a b : ℕ) → eqb a b ≡ true → a ≡ b
    is a b e = grind (arith, nat_tests)

run_right : (t c : ℕ) (effect : Effect) (cache : List Triple) (done : List Run) (past : List Entry) (r : Run) → Freed t c effect cache done past → RunDue cache past r → ComesAfter r.index r.folio cache (frees done) → FreeIsRight r.folio r.pages past
run_right t c effect cache done past r h d a = record {
  some = d.some;
  live = λ k lt. (d.each k lt).live;
  not_cached = λ k lt. (d.each k lt).not_cached;
  not_held = λ k lt. (d.each k lt).not_held;
  placed =
      subst (λ (ws : List What). IsPlaced r.folio r.pages ws (flat (before_turn past)).cache) (sym h.entries)
      (subst (λ (ts : List Triple). IsPlaced r.folio r.pages (Change effect ∷ frees done) ts) (sym h.cache_is)
      (r.index, (λ k lt. (d.each k lt).at), a));
}

pub runs_right : (o : Orders) (t c : ℕ) (effect : Effect) (cache : List Triple) (done : List Run) (past : List Entry) (r : Run) (ps : List (ℕ × Folio)) → Freed t c effect cache done past → RunDue cache past r → ComesAfter r.index r.folio cache (frees done) → AllDue cache past (r.index + r.pages) ps → EachMay o t (Caller c) (frees (runs_from r ps)) past
runs_right o t c effect cache done past r [] h d a due = (run_right t c effect cache done past r h d a, tt)
runs_right o t c effect cache done past r (p ∷ ps) h d a due =
    go (continues r p) refl
    (λ e. let j = joined r p e in runs_right o t c effect cache done past (one_more r) ps h (more_due cache past r p d j.0 j.1 j.2 due.1) a (subst (λ (n : ℕ). AllDue cache past n ps) (ap (λ (n : ℕ). n + 1) j.0 ∙ shift r.index r.pages) due.2))
    (λ e. let le = due.0 in runs_right o t c effect cache (done ++ r ∷ []) (by t c (Free r.folio r.pages) ∷ past) (run_of p) ps (freed_more t c effect cache done past r h)
    (one_due cache (by t c (Free r.folio r.pages) ∷ past) p (due_later t c cache past r p.0 p.1.serial p.1.frame d le due.1))
    (after_last p.0 p.1 cache done r (λ k lt. (d.each k lt).at) le (apart r p e))
    (all_later t c cache past r (p.0 + 1) ps d (omega arith) due.2))
  where
    shift : (a b : ℕ) → (a + b) + 1 ≡ a + (b + 1)
    shift a b = omega arith

    go : (b : Bool) → continues r p ≡ b → (continues r p ≡ true → EachMay o t (Caller c) (frees (runs_from (one_more r) ps)) past) → (continues r p ≡ false → EachMay o t (Caller c) (frees (runs_from (run_of p) ps)) (by t c (Free r.folio r.pages) ∷ past)) → EachMay o t (Caller c) (frees (cond b (runs_from (one_more r) ps) (r ∷ runs_from (run_of p) ps))) past
    go true e x y = x e
    go false e x y = (run_right t c effect cache done past r h d a, y e)
