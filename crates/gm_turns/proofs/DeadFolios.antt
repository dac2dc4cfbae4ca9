-- What a turn frees isn't live after it, and nothing is left over.
use Rattle.std.proofs.Common.{◌≡◌, ℕ, ◌+◌, ◌<◌, ◌⊎◌, ◌||◌, List, [], ◌∷◌, Bool, true, false, zero, suc, Some, None, arith, refl, ◌∙◌, ap, sym, subst, cond, eqb, inl, inr}
use Rattle.std.proofs.lemmas.Bool.{cases_Bool, cond-true}
use Rattle.std.proofs.lemmas.Bool.Decides.{nat_tests}
use Rattle.gm_base.specs.declared.values.Actor.TheVariants.{Caller}
use Rattle.gm_base.specs.declared.values.Folio.{Folio}
use Rattle.gm_flat.specs.Effects.{are_added, free_each, free_one, free_run}
use Rattle.gm_flat.specs.FlatState.{FolioState, Triple, is_live, was_added}
use Rattle.gm_flat.specs.Histories.{before_turn, same_turn}
use Rattle.gm_flat.specs.Replay.{flat}
use Rattle.gm_flat.specs.RightLives.{frame_of}
use Rattle.gm_flat.specs.declared.effect.Effect.{Effect}
use Rattle.gm_flat.specs.declared.entry.Entry.{Entry}
use Rattle.gm_flat.specs.declared.entry.What.{What}
use Rattle.gm_flat.specs.declared.entry.What.TheVariants.{Change, Free}
use Rattle.gm_laws.specs.Ruled.{AllFreed, IsUsed}
use Rattle.gm_laws.specs.Turns.{IsNewTurn, onto}
use Rattle.gm_laws.proofs.TurnsKeep.{new_turn}
use Rattle.gm_mapping.proofs.Lists.{self}
use Rattle.gm_callers.proofs.Moves.{by}
use Rattle.gm_turns.proofs.RunFrees.{all_later, due_later, joined, more_due, one_due}
use Rattle.gm_store.specs.Frees.{HasSerial}
use Rattle.gm_turns.proofs.DueFolios.{AllDue, RunDue}
use Rattle.gm_turns.specs.Runs.{continues, frees, one_more, run_of, runs, runs_from}
use Rattle.gm_turns.specs.declared.frees.Run.{Run}

free_one-dead : (s : ℕ) (xs : List FolioState) → is_live s (free_one s xs) ≡ false
free_one-dead s [] = refl
free_one-dead s (x ∷ xs) = step (eqb x.folio.serial s) refl (free_one-dead s xs)
  where
    step : (t : Bool) → eqb x.folio.serial s ≡ t → is_live s (free_one s xs) ≡ false → is_live s (cond t (record x { live = false } ∷ xs) (x ∷ free_one s xs)) ≡ false
    step true e ih = rw e refl
    step false e ih = rw e ih

free_one-stays : (s k : ℕ) (xs : List FolioState) → is_live s xs ≡ false → is_live s (free_one k xs) ≡ false
free_one-stays s k [] h = refl
free_one-stays s k (x ∷ xs) h = step (eqb x.folio.serial k) (eqb x.folio.serial s) refl (free_one-stays s k xs) h
  where
    step : (t u : Bool) → eqb x.folio.serial s ≡ u → (is_live s xs ≡ false → is_live s (free_one k xs) ≡ false) → cond u x.live (is_live s xs) ≡ false → is_live s (cond t (record x { live = false } ∷ xs) (x ∷ free_one k xs)) ≡ false
    step true true e ih h = rw e refl
    step true false e ih h = rw e h
    step false true e ih h = rw e h
    step false false e ih h = rw e (ih h)

free_each-stays : (s n k : ℕ) (xs : List FolioState) → is_live s xs ≡ false → is_live s (free_each n k xs) ≡ false
free_each-stays s zero k xs h = h
free_each-stays s (suc n) k xs h = free_one-stays s (k + n) (free_each n k xs) (free_each-stays s n k xs h)

free_run-stays : (s n k : ℕ) (xs : List FolioState) → is_live s xs ≡ false → is_live s (free_run n k xs) ≡ false
free_run-stays s n k xs h = step (are_added n k xs)
  where
    step : (t : Bool) → is_live s (cond t (free_each n k xs) xs) ≡ false
    step true = free_each-stays s n k xs h
    step false = h

free_each-dead : (n k j : ℕ) (xs : List FolioState) → j < n → is_live (k + j) (free_each n k xs) ≡ false
free_each-dead zero k j xs lt = absurd (omega arith)
free_each-dead (suc n) k j xs lt = elim (cases_Bool (eqb j n)) [
  | inl e ↦ subst (λ (i : ℕ). is_live (k + i) (free_one (k + n) (free_each n k xs)) ≡ false) (sym (same j n e)) (free_one-dead (k + n) (free_each n k xs))
  | inr e ↦ free_one-stays (k + j) (k + n) (free_each n k xs) (free_each-dead n k j xs (below j n lt e))
]
  where
    same : (a b : ℕ) → eqb a b ≡ true → a ≡ b
    same a b e = grind (arith, nat_tests)

    below : (a b : ℕ) → a < suc b → eqb a b ≡ false → a < b
    below a b lt e = grind (arith, nat_tests)

-- live folios were added
frame_added : (s f : ℕ) (xs : List FolioState) → frame_of s xs ≡ Some f → was_added s xs ≡ true
frame_added s f [] h = absurd (cc)
frame_added s f (x ∷ xs) h = step (eqb x.folio.serial s) (frame_added s f xs) h
  where
    step : (t : Bool) → (frame_of s xs ≡ Some f → was_added s xs ≡ true) → cond t (cond x.live (Some x.folio.frame) None) (frame_of s xs) ≡ Some f → (t || was_added s xs) ≡ true
    step true ih h = refl
    step false ih h = ih h

pub all_added : (n k : ℕ) (g : ℕ → ℕ) (xs : List FolioState) → ((j : ℕ) → j < n → frame_of (k + j) xs ≡ Some (g j)) → are_added n k xs ≡ true
all_added zero k g xs h = refl
all_added (suc n) k g xs h =
    let a : was_added (k + n) xs ≡ true = frame_added (k + n) (g n) xs (h n (omega arith)) in
    let b : are_added n k xs ≡ true = all_added n k g xs (λ j lt. h j (omega arith)) in
    rw (a, b) refl

run_dead : (t c : ℕ) (cache : List Triple) (past : List Entry) (r : Run) (j : ℕ) → RunDue cache past r → j < r.pages → is_live (r.folio.serial + j) (flat (by t c (Free r.folio r.pages) ∷ past)).folios ≡ false
run_dead t c cache past r j d lt =
    let a : are_added r.pages r.folio.serial (flat past).folios ≡ true = all_added r.pages r.folio.serial (λ k. r.folio.frame + k) (flat past).folios (λ k l. (d.each k l).live) in
    rw a (free_each-dead r.pages r.folio.serial j (flat past).folios lt)

dead_stays : (t c s : ℕ) (rs : List Run) (past : List Entry) → is_live s (flat past).folios ≡ false → is_live s (flat (onto t (Caller c) (frees rs) past)).folios ≡ false
dead_stays t c s [] past h = h
dead_stays t c s (r ∷ rs) past h = dead_stays t c s rs (by t c (Free r.folio r.pages) ∷ past) (free_run-stays s r.pages r.folio.serial (flat past).folios h)

-- the run has the serial
record InRun (s : ℕ) (r : Run) : Type 0 where
  place : ℕ
  below : place < r.pages
  serial_is : r.folio.serial + place ≡ s

abbrev OneOf : ℕ → Run → List (ℕ × Folio) → Type 0
OneOf s r ps = InRun s r ⊎ HasSerial s ps

in_first : (s : ℕ) (p : ℕ × Folio) → p.1.serial ≡ s → InRun s (run_of p)
in_first s p e = record { place = 0; below = omega arith; serial_is = plain p.1.serial s e }
  where
    plain : (a b : ℕ) → a ≡ b → a + 0 ≡ b
    plain a b e = omega arith

runs_dead : (t c s : ℕ) (cache : List Triple) (past : List Entry) (r : Run) (ps : List (ℕ × Folio)) → RunDue cache past r → AllDue cache past (r.index + r.pages) ps → OneOf s r ps → is_live s (flat (onto t (Caller c) (frees (runs_from r ps)) past)).folios ≡ false
runs_dead t c s cache past r [] d due one = elim one [
  | inl i ↦ subst (λ (n : ℕ). is_live n (flat (by t c (Free r.folio r.pages) ∷ past)).folios ≡ false) i.serial_is (run_dead t c cache past r i.place d i.below)
  | inr h ↦ absurd h
]
runs_dead t c s cache past r (p ∷ ps) d due one =
    go (continues r p) refl
    (λ e.
    let j = joined r p e in
    runs_dead t c s cache past (one_more r) ps (more_due cache past r p d j.0 j.1 j.2 due.1) (subst (λ (n : ℕ). AllDue cache past n ps) (ap (λ (n : ℕ). n + 1) j.0 ∙ shift r.index r.pages) due.2)
    (elim one [
      | inl i ↦ inl (record { place = i.place; below = let b = i.below in omega arith; serial_is = i.serial_is })
      | inr h ↦ elim h [
        | inl q ↦ inl (record { place = r.pages; below = omega arith; serial_is = sym j.1 ∙ q })
        | inr k ↦ inr k
      ]
    ]))
    (λ e h. let le = due.0 in
    runs_dead t c s cache (by t c (Free r.folio r.pages) ∷ past) (run_of p) ps
    (one_due cache (by t c (Free r.folio r.pages) ∷ past) p (due_later t c cache past r p.0 p.1.serial p.1.frame d le due.1))
    (all_later t c cache past r (p.0 + 1) ps d (omega arith) due.2)
    (elim h [ inl q ↦ inl (in_first s p q) | inr k ↦ inr k ]))
    one
  where
    shift : (a b : ℕ) → (a + b) + 1 ≡ a + (b + 1)
    shift a b = omega arith

    go : (b : Bool) → continues r p ≡ b → (continues r p ≡ true → is_live s (flat (onto t (Caller c) (frees (runs_from (one_more r) ps)) past)).folios ≡ false) → (continues r p ≡ false → HasSerial s (p ∷ ps) → is_live s (flat (onto t (Caller c) (frees (runs_from (run_of p) ps)) (by t c (Free r.folio r.pages) ∷ past))).folios ≡ false) → OneOf s r (p ∷ ps) → is_live s (flat (onto t (Caller c) (frees (cond b (runs_from (one_more r) ps) (r ∷ runs_from (run_of p) ps))) past)).folios ≡ false
    go true e x y one = x e
    go false e x y (inr h) = y e h
    go false e x y (inl i) = dead_stays t c s (runs_from (run_of p) ps) (by t c (Free r.folio r.pages) ∷ past) (subst (λ (n : ℕ). is_live n (flat (by t c (Free r.folio r.pages) ∷ past)).folios ≡ false) i.serial_is (run_dead t c cache past r i.place d i.below))

all_dead : (t c s : ℕ) (cache : List Triple) (past : List Entry) (ps : List (ℕ × Folio)) → AllDue cache past 0 ps → HasSerial s ps → is_live s (flat (onto t (Caller c) (frees (runs ps)) past)).folios ≡ false
all_dead t c s cache past [] due h = absurd h
all_dead t c s cache past (p ∷ ps) due h = runs_dead t c s cache past (run_of p) ps (one_due cache past p due.1) due.2 (elim h [ inl q ↦ inl (in_first s p q) | inr k ↦ inr k ])

before_onto : (t c : ℕ) (ws : List What) (w : What) (p : List Entry) → before_turn (onto t (Caller c) ws (by t c w ∷ p)) ≡ before_turn (by t c w ∷ p)
before_onto t c [] w p = refl
before_onto t c (v ∷ ws) w p = before_onto t c ws v (by t c w ∷ p) ∙ cond-true (eqb t t) (before_turn (by t c w ∷ p)) (by t c w ∷ p) (self t)

used_onto : (t c s : ℕ) (rs : List Run) (past : List Entry) → IsUsed s past → IsUsed s (onto t (Caller c) (frees rs) past)
used_onto t c s [] past h = h
used_onto t c s (r ∷ rs) past h = used_onto t c s rs (by t c (Free r.folio r.pages) ∷ past) h

-- a change turn whose frees are these leaves nothing over
pub nothing_left : (t c : ℕ) (effect : Effect) (before : List Entry) (ps : List (ℕ × Folio)) → IsNewTurn t before → AllDue (flat before).cache (by t c (Change effect) ∷ before) 0 ps → ((s : ℕ) → IsUsed s before → IsUsed s (by t c (Change effect) ∷ before) ⊎ HasSerial s ps) → AllFreed (onto t (Caller c) (frees (runs ps)) (by t c (Change effect) ∷ before))
nothing_left t c effect before ps new due covered loose s used =
    let first = by t c (Change effect) ∷ before in
    let b : before_turn (onto t (Caller c) (frees (runs ps)) first) ≡ before = before_onto t c (frees (runs ps)) (Change effect) before ∙ not_same (new_turn t (Caller c) (Change effect) before new) in
    elim (covered s (subst (λ (p : List Entry). IsUsed s p) b used)) [
      | inl u ↦ inl (used_onto t c s (runs ps) first u)
      | inr h ↦ inr (all_dead t c s (flat before).cache first ps due h)
    ]
  where
    not_same : same_turn (by t c (Change effect)) before ≡ false → before_turn (by t c (Change effect) ∷ before) ≡ before
    not_same e = rw e refl
