-- How one more entry changes the flat state, and what the states before were.
use Rattle.std.proofs.Common.{◌≡◌, ℕ, suc, ◌<◌, ◌≤◌, List, [], ◌∷◌, ◌++◌, length, take, drop, reverse, min, Bool, true, false, cond, leb, Option, None, Some, refl, sym, ◌∙◌, ap, arith, ◌⊎◌, inl, inr, length-append}
use Rattle.std.proofs.lemmas.List.{take_all, reverse-append, length-reverse, take-append-drop, length-take}
use Rattle.std.proofs.lemmas.Bool.Decides.{nat_tests}
use Rattle.std.proofs.lemmas.Bool.{cases_lt}
use Rattle.gm_base.specs.declared.values.Actor.{Actor}
use Rattle.gm_flat.specs.declared.entry.Entry.{Entry}
use Rattle.gm_flat.specs.declared.entry.What.{What}
use Rattle.gm_flat.specs.declared.entry.What.TheVariants.{Get, Change, Page}
use Rattle.gm_flat.specs.declared.views.SlotView.{SlotView}
use Rattle.gm_flat.specs.Effects.{Addition, add}
use Rattle.gm_flat.specs.FlatState.{Flat}
use Rattle.gm_flat.specs.Replay.{States, states, flat, flat_at, flat_step, adds}
use Rattle.gm_flat.specs.Replayed.{applied, change_in}

-- the entries, the newest first

pub length_front : {X : Type 0} (xs : List X) (i : ℕ) → i ≤ length xs → length (reverse (take i xs)) ≡ i
length_front xs i h = length-reverse (take i xs) ∙ (length-take i xs ∙ min_is i (length xs) h)
  where
    min_is : (a b : ℕ) → a ≤ b → min a b ≡ a
    min_is a b h = omega arith

-- the states before

leb_false : (i n : ℕ) → suc n ≤ i → leb i n ≡ false
leb_false i n h = grind (arith, nat_tests)

leb_true : (i n : ℕ) → i ≤ n → leb i n ≡ true
leb_true i n h = grind (arith, nat_tests)

pub before_now : (i : ℕ) (past : List Entry) → length past ≤ i → (states past).before i ≡ flat past
before_now i [] h = refl
before_now i (e ∷ past) h =
    ap (λ (b : Bool). cond b ((states past).before i) (flat_step e.what e.actor past (states past))) (leb_false i (length past) h)

pub before_front : (new old : List Entry) → (states (new ++ old)).before (length old) ≡ flat old
before_front [] old = before_now (length old) old (omega arith)
before_front (e ∷ new) old =
    ap (λ (b : Bool). cond b ((states (new ++ old)).before (length old)) (flat_step e.what e.actor (new ++ old) (states (new ++ old)))) (leb_true (length old) (length (new ++ old)) (omega (arith, length-append new old)))
    ∙ before_front new old

before_inside : (entries : List Entry) (i : ℕ) → i ≤ length entries → (states (reverse entries)).before i ≡ flat (reverse (take i entries))
before_inside entries i h =
    ap (λ (past : List Entry). (states past).before i) split
    ∙ (ap (λ (n : ℕ). (states (reverse (drop i entries) ++ reverse (take i entries))).before n) (sym (length_front entries i h))
    ∙ before_front (reverse (drop i entries)) (reverse (take i entries)))
  where
    split : reverse entries ≡ reverse (drop i entries) ++ reverse (take i entries)
    split = sym (ap (λ (l : List Entry). reverse l) (take-append-drop i entries)) ∙ reverse-append (take i entries) (drop i entries)

pub before_at : (entries : List Entry) (i end : ℕ) → end ≡ min (length entries) i → (states (reverse entries)).before i ≡ flat (reverse (take end entries))
before_at entries i end e = side (cases_lt i (length entries))
  where
    min_low : (n i : ℕ) → i < n → min n i ≡ i
    min_low n i h = omega arith

    min_high : (n i : ℕ) → n ≤ i → min n i ≡ n
    min_high n i h = omega arith

    side : ((i < length entries) ⊎ (length entries ≤ i)) → (states (reverse entries)).before i ≡ flat (reverse (take end entries))
    side (inl h) = before_inside entries i (omega arith) ∙ ap (λ (n : ℕ). flat (reverse (take n entries))) (sym (e ∙ min_low (length entries) i h))
    side (inr h) =
        before_now i (reverse entries) (omega (arith, length-reverse entries))
        ∙ (ap (λ (l : List Entry). flat (reverse l)) (sym (take_all (length entries) entries (omega arith)))
        ∙ ap (λ (n : ℕ). flat (reverse (take n entries))) (sym (e ∙ min_high (length entries) i h)))

-- the slots after one more entry

add_slots : (d : Option Addition) (f : Flat) → (add d f).slots ≡ f.slots
add_slots None f = refl
add_slots (Some d) f = refl

pub change_slots : (w : What) (a : Actor) (past : List Entry) (st : States) → (flat_step w a past st).slots ≡ (applied (change_in w) st.now).slots
change_slots (Change effect) a past st = refl
change_slots (Get backing fresh) a past st = add_slots (adds (Get backing fresh) a past st) st.now
change_slots (Page index folio pages) a past st = add_slots (adds (Page index folio pages) a past st) st.now
change_slots _ a past st = refl

-- the slots at a position
pub slots_front : (entries : List Entry) (i end k : ℕ) (slots : List SlotView) → end ≡ min (length entries) i → k ≡ end → slots ≡ (flat (reverse (take k entries))).slots → slots ≡ (flat_at i (reverse entries)).slots
slots_front entries i end k slots e same is =
    is ∙ (ap (λ (n : ℕ). (flat (reverse (take n entries))).slots) same ∙ ap (λ (f : Flat). f.slots) (sym (before_at entries i end e)))
