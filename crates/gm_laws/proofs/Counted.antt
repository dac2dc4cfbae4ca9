-- Counts over a history, what bounds them, and what an entry that moves no memory leaves as it was.
use Rattle.std.proofs.Common.{◌≡◌, ℕ, ◌≤◌, ◌<◌, ◌||◌, List, [], ◌∷◌, Bool, true, false, not, length, suc, arith, refl, ◌∙◌, ap, cond, eqb, leb, inl, inr}
use Rattle.std.proofs.lemmas.Bool.{cases_Bool}
use Rattle.std.proofs.lemmas.Bool.Decides.{nat_tests}
use Rattle.gm_base.specs.declared.values.Actor.{Actor}
use Rattle.gm_flat.specs.Histories.{done, ends_one, is_vcpu, same_actor}
use Rattle.gm_flat.specs.Invalidation.{count, count_step, ended, ended_step}
use Rattle.gm_flat.specs.Mappings.{flushed, flushed_step}
use Rattle.gm_flat.specs.Replay.{States, flat, flat_step, states}
use Rattle.gm_flat.specs.declared.entry.Entry.{Entry}
use Rattle.gm_flat.specs.declared.entry.What.{What}
use Rattle.gm_flat.specs.declared.entry.What.TheVariants.{Begin, Change, End, Flush, Free, Get, Page}
use Rattle.gm_laws.specs.Counting.{asked, asked_at, asked_step, ends, ends_at, ends_step}

-- the flat state

abbrev pub moves_flat : What → Bool
moves_flat (Change effect) = true
moves_flat (Get backing fresh) = true
moves_flat (Page index folio pages) = true
moves_flat (Free folio pages) = true
moves_flat w = false

flat_stays : (w : What) (a : Actor) (past : List Entry) (st : States) → moves_flat w ≡ false → flat_step w a past st ≡ st.now
flat_stays (Change effect) a past st h = absurd (cc)
flat_stays (Get backing fresh) a past st h = absurd (cc)
flat_stays (Page index folio pages) a past st h = absurd (cc)
flat_stays (Free folio pages) a past st h = absurd (cc)
flat_stays _ a past st h = refl

pub flat_quiet : (e : Entry) (past : List Entry) → moves_flat e.what ≡ false → flat (e ∷ past) ≡ flat past
flat_quiet e past h = flat_stays e.what e.actor past (states past) h

not_le : (n : ℕ) → leb (suc n) n ≡ false
not_le n = grind (arith, nat_tests)

is_le : (i n : ℕ) → i ≤ n → leb i n ≡ true
is_le i n h = grind (arith, nat_tests)

-- Begins

pub asked_keep : (i : ℕ) (e : Entry) (past : List Entry) → i ≤ length past → asked_at i (e ∷ past) ≡ asked_at i past
asked_keep i e past h = rw (is_le i (length past) h) refl

pub asked_all : (past : List Entry) → asked_at (length past) past ≡ asked past
asked_all [] = refl
asked_all (e ∷ past) = rw (not_le (length past)) refl

pub asked_before : (e : Entry) (past : List Entry) → asked_at (length past) (e ∷ past) ≡ asked past
asked_before e past = asked_keep (length past) e past (omega arith) ∙ asked_all past

pub asked_le : (past : List Entry) → asked past ≤ length past
asked_le [] = omega arith
asked_le (e ∷ past) = step e.what (asked past) (length past) (asked_le past)
  where
    step : (w : What) (x n : ℕ) → x ≤ n → asked_step w x ≤ suc n
    step (Begin ss) x n h = omega arith
    step _ x n h = omega arith

at_most : (i : ℕ) (past : List Entry) → asked_at i past ≤ asked past
at_most i [] = omega arith
at_most i (e ∷ past) = step (leb i (length past)) (asked_at i past) (asked past) (asked (e ∷ past)) (at_most i past) (grows e past)
  where
    step : (t : Bool) (x a b : ℕ) → x ≤ a → a ≤ b → cond t x b ≤ b
    step t x a b h k = grind arith

    grows : (e : Entry) (past : List Entry) → asked past ≤ asked (e ∷ past)
    grows e past = by_what e.what (asked past)
      where
        by_what : (w : What) (n : ℕ) → n ≤ asked_step w n
        by_what (Begin ss) n = omega arith
        by_what _ n = omega arith

-- before a later position stand as many Begins, or more
pub asked_rises : (i j : ℕ) (past : List Entry) → i ≤ j → asked_at i past ≤ asked_at j past
asked_rises i j [] h = omega arith
asked_rises i j (e ∷ past) h = step i j (length past) (asked_at i past) (asked_at j past) (asked (e ∷ past)) h (asked_rises i j past h) (low i e past)
  where
    step : (i j n x y z : ℕ) → i ≤ j → x ≤ y → cond (leb i n) x z ≤ z → cond (leb i n) x z ≤ cond (leb j n) y z
    step i j n x y z h k l = grind (arith, nat_tests)

    low : (i : ℕ) (e : Entry) (past : List Entry) → asked_at i (e ∷ past) ≤ asked (e ∷ past)
    low i e past = at_most i (e ∷ past)

pub flushed_le : (v : ℕ) (past : List Entry) → flushed v past ≤ length past
flushed_le v [] = omega arith
flushed_le v (e ∷ past) = step v e.what e.actor (length past) (flushed v past) (flushed_le v past)
  where
    cond_le : (t : Bool) (n x : ℕ) → x ≤ n → cond t (suc n) x ≤ suc n
    cond_le t n x h = grind arith

    step : (v : ℕ) (w : What) (a : Actor) (n x : ℕ) → x ≤ n → flushed_step v w a n x ≤ suc n
    step v Flush a n x h = cond_le (is_vcpu v a) n x h
    step v _ a n x h = omega arith

-- Ends

pub ends_keep : (i : ℕ) (e : Entry) (past : List Entry) → i ≤ length past → ends_at i (e ∷ past) ≡ ends_at i past
ends_keep i e past h = rw (is_le i (length past) h) refl

pub ends_all : (past : List Entry) → ends_at (length past) past ≡ ends past
ends_all [] = refl
ends_all (e ∷ past) = rw (not_le (length past)) refl

pub ends_before : (e : Entry) (past : List Entry) → ends_at (length past) (e ∷ past) ≡ ends past
ends_before e past = ends_keep (length past) e past (omega arith) ∙ ends_all past

pub ends_le : (past : List Entry) → ends past ≤ length past
ends_le [] = omega arith
ends_le (e ∷ past) = step e.what (ends past) (length past) (ends_le past)
  where
    step : (w : What) (x n : ℕ) → x ≤ n → ends_step w x ≤ suc n
    step End x n h = omega arith
    step _ x n h = omega arith

ends_grow : (e : Entry) (past : List Entry) → ends past ≤ ends (e ∷ past)
ends_grow e past = step e.what (ends past)
  where
    step : (w : What) (n : ℕ) → n ≤ ends_step w n
    step End n = omega arith
    step _ n = omega arith

pub ends_most : (i : ℕ) (past : List Entry) → ends_at i past ≤ ends past
ends_most i [] = omega arith
ends_most i (e ∷ past) = step (leb i (length past)) (ends_at i past) (ends past) (ends (e ∷ past)) (ends_most i past) (ends_grow e past)
  where
    step : (t : Bool) (x a b : ℕ) → x ≤ a → a ≤ b → cond t x b ≤ b
    step t x a b h k = grind arith

none_ended : (i : ℕ) (past : List Entry) → length past ≤ i → ended i past ≡ false
none_ended i [] h = refl
none_ended i (e ∷ past) h = step i e.what (length past) (ended i past) h (none_ended i past (omega arith))
  where
    step : (i : ℕ) (w : What) (n : ℕ) (x : Bool) → suc n ≤ i → x ≡ false → ended_step i w n x ≡ false
    step i End n x h k = no i n x h k
      where
        no : (i n : ℕ) (x : Bool) → suc n ≤ i → x ≡ false → (leb i n || x) ≡ false
        no i n x h k = grind (arith, nat_tests)
    step i _ n x h k = k

-- an End stands at or after the position exactly where there are more Ends now than before it
pub ended_counts : (i : ℕ) (past : List Entry) → i ≤ length past → ended i past ≡ not (eqb (ends past) (ends_at i past))
ended_counts i [] h = refl
ended_counts i (e ∷ past) h = elim (cases_Bool (leb i (length past))) [
  | inl y ↦ rw y (more e.what (length past) (ended i past) (ends past) (ends_at i past) y (ends_most i past) (ended_counts i past (le i (length past) y)))
  | inr n ↦ rw n (none_ended i (e ∷ past) (gt i (length past) n) ∙ same (ends (e ∷ past)))
]
  where
    le : (i n : ℕ) → leb i n ≡ true → i ≤ n
    le i n h = grind (arith, nat_tests)

    gt : (i n : ℕ) → leb i n ≡ false → suc n ≤ i
    gt i n h = grind (arith, nat_tests)

    same : (n : ℕ) → false ≡ not (eqb n n)
    same n = grind (arith, nat_tests)

    more : (w : What) (n : ℕ) (x : Bool) (a b : ℕ) → leb i n ≡ true → b ≤ a → x ≡ not (eqb a b) → ended_step i w n x ≡ not (eqb (ends_step w a) b)
    more End n x a b y le e = over (leb i n) x a b y le
      where
        over : (t x : Bool) (a b : ℕ) → t ≡ true → b ≤ a → (t || x) ≡ not (eqb (suc a) b)
        over t x a b y le = grind (arith, nat_tests)
    more _ n x a b y le e = e

-- brackets and commands

pub count_le : (past : List Entry) → count past ≤ length past
count_le [] = omega arith
count_le (e ∷ past) = step e.what (count past) (length past) (count_le past)
  where
    step : (w : What) (x n : ℕ) → x ≤ n → count_step w x ≤ suc n
    step (Begin ss) x n h = omega arith
    step End x n h = omega arith
    step _ x n h = omega arith

pub done_le : (a : Actor) (past : List Entry) → done a past ≤ length past
done_le a [] = omega arith
done_le a (e ∷ past) = step (ends_one e.what (same_actor a e.actor)) (done a past) (length past) (done_le a past)
  where
    step : (t : Bool) (x n : ℕ) → x ≤ n → cond t (suc x) x ≤ suc n
    step t x n h = grind arith
