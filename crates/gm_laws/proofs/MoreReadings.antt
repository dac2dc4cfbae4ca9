-- Fills, the count, the hull, staleness, attributes and settled changes say what their definitions say in words.
use Rattle.std.proofs.Common.{◌&&◌, ◌+◌, ◌++◌, ◌<◌, Bool, List, None, Option, Some, [], ap, arith, cond, eq-eqb, eqb, eqb-true, false, inl, inr, le-leb, leb, leb-true, length, max, min, refl, subst, suc, sym, take, true, zero, ℕ, ◌↔◌, ◌∙◌, ◌∷◌, ◌≡◌, ◌≤◌, ◌⊎◌, ◌||◌}
use Rattle.std.proofs.lemmas.Bool.{both_ways, cases_lt, cond-true, or_cases, or_left, or_right}
use Rattle.gm_base.specs.Aim.{Aim}
use Rattle.gm_base.specs.Extent.{Extent, cover}
use Rattle.gm_base.specs.Scripts.{Orders}
use Rattle.gm_base.specs.declared.numbers.TheConstants.{BUFFER_FILLS}
use Rattle.gm_base.specs.declared.values.Actor.{Actor}
use Rattle.gm_base.specs.declared.values.Actor.TheVariants.{Caller, Vcpu}
use Rattle.gm_base.specs.declared.values.Kind.{Kind}
use Rattle.gm_base.specs.declared.values.Level.{Level}
use Rattle.gm_flat.specs.Attribute.{attr_of}
use Rattle.gm_flat.specs.Effects.{apply, shut_files, shut_slots, slot_fits, without_file}
use Rattle.gm_flat.specs.FlatState.{Flat, was_made}
use Rattle.gm_flat.specs.Histories.{Bracket, Call, bracket, call, is_caller, is_vcpu}
use Rattle.gm_flat.specs.Invalidation.{count, count_step, ended, ended_step, hull, hull_step, widened, widened_by}
use Rattle.gm_flat.specs.Mappings.{Mapping, fill_if, fills, fills_step, flushed}
use Rattle.gm_flat.specs.Replay.{adds, flat, states}
use Rattle.gm_flat.specs.RightOrder.{Ends}
use Rattle.gm_flat.specs.Window.{is_on, own_change, own_step, settled, settled_step}
use Rattle.gm_flat.specs.declared.effect.Effect.{Effect}
use Rattle.gm_flat.specs.declared.effect.Effect.TheVariants.{Attr, Cut, File, Mark, Move, NoSlot, Shut, Slot, Word}
use Rattle.gm_flat.specs.declared.entry.Entry.{Entry}
use Rattle.gm_flat.specs.declared.entry.What.{What}
use Rattle.gm_flat.specs.declared.entry.What.TheVariants.{Answer, Begin, Change, End, Flush, Get, Judge, Page, Touch}
use Rattle.gm_flat.specs.declared.views.SlotView.{SlotView}
use Rattle.gm_laws.proofs.Adds.{add_look}
use Rattle.gm_laws.proofs.Flats.{cond_P}
use Rattle.gm_laws.proofs.Good.{Good}
use Rattle.gm_laws.proofs.Kit.{by, by_test}
use Rattle.gm_laws.proofs.Readings.{among_append, flush_no, flush_yes}
use Rattle.gm_laws.proofs.Rows.{false_true}
use Rattle.gm_laws.proofs.Stands.{last_here, last_skip, newest_none, none_after_here, none_after_less, none_after_skip, none_skip, stands_lt}
use Rattle.gm_laws.proofs.Tally.{tally, tally_one}
use Rattle.gm_laws.proofs.Touches.{flushed-le, good}
use Rattle.gm_laws.specs.May.{May}
use Rattle.gm_laws.specs.Readings.{AllWithin, AllWithinHull, Among, AttributeIsLast, HasEndFrom, HullWithin, IsFillSince, IsKindBy, IsKindOf, IsLeastHull, IsWithin, SettledIsLeast, SettledIsOne, all_fills, all_step, bounds_call, call_bound, changes, fill_at, filled_by, flush_of, how_many, is_answer, is_begin, is_end, is_flush, kept_spans, kept_step, sets, sets_by, sets_page}
use Rattle.gm_laws.specs.Ruled.{Follows}
use Rattle.gm_laws.specs.Stands.{NoneAfter, Stands}

-- fills
take_less : {A : Type 0} (n : ℕ) (xs : List A) → take n (take (suc n) xs) ≡ take n xs
take_less zero xs = refl
take_less (suc n) [] = refl
take_less (suc n) (x ∷ xs) = ap (λ (ys : List _). x ∷ ys) (take_less n xs)

fill_once : (t : Bool) (n : ℕ) (a : Aim) (level : Level) (f : Flat) (ms all : List Mapping) → ms ≡ take 256 all → fill_if t n a level f ms ≡ take 256 (cond t (fill_at n a level f ∷ []) [] ++ all)
fill_once true n a level f ms all e = ap (λ (xs : List Mapping). take 256 (fill_at n a level f ∷ xs)) e ∙ ap (λ (xs : List Mapping). fill_at n a level f ∷ xs) (take_less 255 all)
fill_once false n a level f ms all e = e

flush_once : (t : Bool) (ms all : List Mapping) → ms ≡ take 256 all → cond t [] ms ≡ take 256 (cond t [] all)
flush_once true ms all e = refl
flush_once false ms all e = e

fills_step_is : (v : ℕ) (w : What) (a : Actor) (past : List Entry) (ms all : List Mapping) → ms ≡ take 256 all → fills_step v w a past ms ≡ take 256 (all_step v w a (filled_by v w a past) all)
fills_step_is v Flush a past ms all e = flush_once (is_vcpu v a) ms all e
fills_step_is v (Touch access b level value fill) a past ms all e = fill_once (is_vcpu v a && eqb fill (length past)) (length past) access level (flat past) ms all e
fills_step_is v _ a past ms all e = e

pub fills_are_last : (v : ℕ) (past : List Entry) → fills v past ≡ take BUFFER_FILLS (all_fills v past)
fills_are_last v [] = refl
fills_are_last v (e ∷ past) = fills_step_is v e.what e.actor past (fills v past) (all_fills v past) (fills_are_last v past)

all_yes : (v : ℕ) (w : What) (a : Actor) (past : List Entry) (ms : List Mapping) → is_flush v w a ≡ true → all_step v w a (filled_by v w a past) ms ≡ []
all_yes v Flush a past ms e = rw e refl
all_yes v _ a past ms e = false_true e

all_no : (v : ℕ) (w : What) (a : Actor) (past : List Entry) (ms : List Mapping) → is_flush v w a ≡ false → all_step v w a (filled_by v w a past) ms ≡ filled_by v w a past ++ ms
all_no v Flush a past ms e = rw e refl
all_no v _ a past ms e = refl

too_new : (n : ℕ) (m : Mapping) (v : ℕ) (e : Entry) (past : List Entry) → flushed v (e ∷ past) ≡ suc (length past) → IsFillSince v m (e ∷ past) → ⊥
too_new n m v e past q h = elim h.2 [
  | inl x ↦ same (length h.1) (length past) (flushed v (e ∷ past)) h.3 (ap length x.1) q
  | inr y ↦ older (length h.1) (length past) (flushed v (e ∷ past)) h.3 (stands_lt h.0 h.1 past y) q
]
  where
    same : (a b n : ℕ) → n ≤ a → b ≡ a → n ≡ suc b → ⊥
    same a b n h e q = omega arith

    older : (a b n : ℕ) → n ≤ a → a < b → n ≡ suc b → ⊥
    older a b n h e q = omega arith

pub all_fills_are : (v : ℕ) (m : Mapping) (past : List Entry) → Among m (all_fills v past) ↔ IsFillSince v m past
all_fills_are v m [] = (λ h. absurd h, λ h. absurd h.2)
all_fills_are v m (e ∷ past) = go (all_fills_are v m past)
  where
    go : Among m (all_fills v past) ↔ IsFillSince v m past → Among m (all_fills v (e ∷ past)) ↔ IsFillSince v m (e ∷ past)
    go ih = by_test (flush_of v e)
        (λ y.
        let none : all_fills v (e ∷ past) ≡ [] = all_yes v e.what e.actor past (all_fills v past) y in (
          (λ h. absurd (subst (Among m) none h)),
          (λ h. absurd (too_new 0 m v e past (flush_yes v e.what e.actor (length past) (flushed v past) y) h)),
        ))
        (λ n.
        let are : all_fills v (e ∷ past) ≡ filled_by v e.what e.actor past ++ all_fills v past = all_no v e.what e.actor past (all_fills v past) n in
        let at : flushed v (e ∷ past) ≡ flushed v past = flush_no v e.what e.actor (length past) (flushed v past) n in
        let split = among_append m (filled_by v e.what e.actor past) (all_fills v past) in (
          (λ h. elim (split.0 (subst (Among m) are h)) [
            | inl k ↦ (e, past, inl (refl, refl), subst (λ (z : ℕ). z ≤ length past) (sym at) (flushed-le past v), k)
            | inr k ↦ let x = ih.0 k in (x.0, x.1, inr x.2, subst (λ (z : ℕ). z ≤ length x.1) (sym at) x.3, x.4)
          ]),
          (λ h. subst (Among m) (sym are) (split.1 (elim h.2 [
            | inl x ↦ inl (subst (λ (p : List Entry). Among m (filled_by v e.what e.actor p)) (sym x.1) (subst (λ (d : Entry). Among m (filled_by v d.what d.actor h.1)) (sym x.0) h.4))
            | inr x ↦ inr (ih.1 (h.0, h.1, x, subst (λ (z : ℕ). z ≤ length h.1) at h.3, h.4))
          ]))),
        ))

-- count
pub open_count : (o : Orders) (past : List Entry) → Good o.setup.callers past → (c : ℕ) → Ends (call c past) (bracket c past) → 1 ≤ count past
open_count o past g c m = go (call c past) (bracket c past) refl m
  where
    go : (x : Option Call) (b : Option Bracket) → bracket c past ≡ b → Ends x b → 1 ≤ count past
    go None b e h = absurd h
    go (Some x) None e h = absurd h
    go (Some x) (Some b) e h = let t : 1 ≤ tally o.setup.callers (λ k. bracket k past) = tally_one o.setup.callers c b (λ k. bracket k past) (g.from_lt c b e).0 e in let y = g.count_is in omega arith

count_next : (o : Orders) (w : What) (a : Actor) (past : List Entry) (b e : ℕ) → Good o.setup.callers past → May o w a past → b ≡ e + count past → cond (is_begin w) (suc b) b ≡ cond (is_end w) (suc e) e + count_step w (count past)
count_next o (Begin spans) a past b e g m h = omega arith
count_next o End (Caller c) past b e g m h = let x : 1 ≤ count past = open_count o past g c m in omega arith
count_next o End (Vcpu v) past b e g m h = absurd m
count_next o w a past b e g m h = h

pub count_is_rest : (o : Orders) (past : List Entry) → Follows o past → how_many is_begin past ≡ how_many is_end past + count past
count_is_rest o [] r = omega arith
count_is_rest o (e ∷ past) r = count_next o e.what e.actor past (how_many is_begin past) (how_many is_end past) (good o past r.1) r.0.may (count_is_rest o past r.1)

-- hull
widened_append : (h : Option Extent) (xs ys : List Extent) → widened h (xs ++ ys) ≡ widened (widened h xs) ys
widened_append h [] ys = refl
widened_append h (x ∷ xs) ys = widened_append (Some (widened_by h x)) xs ys

kept_if : (t : Bool) (h : Option Extent) (kept : List Extent) → h ≡ widened None kept → cond t None h ≡ widened None (cond t [] kept)
kept_if true h kept e = refl
kept_if false h kept e = e

hull_next : (w : What) (n : ℕ) (h : Option Extent) (kept : List Extent) → h ≡ widened None kept → hull_step w n h ≡ widened None (kept_step w n kept)
hull_next (Begin spans) n h kept e = ap (λ (x : Option Extent). widened x spans.list) (kept_if (eqb n 0) h kept e) ∙ sym (widened_append None (cond (eqb n 0) [] kept) spans.list)
hull_next End n h kept e = kept_if (leb n 1) h kept e
hull_next w n h kept e = e

hull_is : (past : List Entry) → hull past ≡ widened None (kept_spans past)
hull_is [] = refl
hull_is (e ∷ past) = hull_next e.what (count past) (hull past) (kept_spans past) (hull_is past)

within_cover : (s t h : Extent) → IsWithin (cover t s) h → IsWithin t h × IsWithin s h
within_cover s t h w = cover_parts s.lo s.hi t.lo t.hi h.lo h.hi w.0 w.1
  where
    cover_parts : (a b c d l u : ℕ) → l ≤ min c a → max d b ≤ u → ((l ≤ c) × (d ≤ u)) × ((l ≤ a) × (b ≤ u))
    cover_parts a b c d l u h k = ((omega arith, omega arith), (omega arith, omega arith))

wide : (ss : List Extent) (t : Extent) → (h : Extent) × (widened (Some t) ss ≡ Some h) × IsWithin t h × AllWithin ss h
wide [] t = (t, refl, (le_refl_of t.lo, le_refl_of t.hi), tt)
  where
    le_refl_of : (n : ℕ) → n ≤ n
    le_refl_of n = omega arith
wide (s ∷ ss) t = let x = wide ss (cover t s) in let y = within_cover s t x.0 x.2 in (x.0, x.1, y.0, (y.1, x.3))

cover_within : (s t u : Extent) → IsWithin t u → IsWithin s u → IsWithin (cover t s) u
cover_within s t u h k = parts s.lo s.hi t.lo t.hi u.lo u.hi h.0 h.1 k.0 k.1
  where
    parts : (a b c d l u : ℕ) → l ≤ c → d ≤ u → l ≤ a → b ≤ u → (l ≤ min c a) × (max d b ≤ u)
    parts a b c d l u p q r s = (omega arith, omega arith)

least : (ss : List Extent) (t u : Extent) → IsWithin t u → AllWithin ss u → HullWithin (widened (Some t) ss) u
least [] t u h k = h
least (s ∷ ss) t u h k = least ss (cover t s) u (cover_within s t u h k.0) k.1

least_hull : (ss : List Extent) → IsLeastHull ss (widened None ss)
least_hull [] = record { covers = refl; least = λ t h. tt; none = λ e. refl }
least_hull (s ∷ ss) =
    let x = wide ss s in
    record {
      covers = subst (λ (h : Option Extent). AllWithinHull (s ∷ ss) h) (sym x.1) (x.2, x.3);
      least = λ t h. least ss s t h.0 h.1;
      none = λ e. absurd (cc);
    }

pub hull_is_least : (past : List Entry) → IsLeastHull (kept_spans past) (hull past)
hull_is_least past = subst (IsLeastHull (kept_spans past)) (sym (hull_is past)) (least_hull (kept_spans past))

-- stale
ended_yes : (n k : ℕ) (w : What) (x : Bool) → is_end w ≡ true → ended_step n w k x ≡ (leb n k || x)
ended_yes n k End x e = refl
ended_yes n k _ x e = false_true e

ended_no : (n k : ℕ) (w : What) (x : Bool) → is_end w ≡ false → ended_step n w k x ≡ x
ended_no n k End x e = false_true (sym e)
ended_no n k _ x e = refl

pub ended_is_end : (n : ℕ) (past : List Entry) → (ended n past ≡ true) ↔ HasEndFrom n past
ended_is_end n [] = (λ e. false_true e, λ h. absurd h.2)
ended_is_end n (e ∷ past) = go (ended_is_end n past)
  where
    older : HasEndFrom n past → HasEndFrom n (e ∷ past)
    older h = (h.0, h.1, inr h.2, h.3, h.4)

    go : (ended n past ≡ true) ↔ HasEndFrom n past → (ended n (e ∷ past) ≡ true) ↔ HasEndFrom n (e ∷ past)
    go ih = by_test (is_end e.what)
        (λ y.
        let at : ended n (e ∷ past) ≡ (leb n (length past) || ended n past) = ended_yes n (length past) e.what (ended n past) y in (
          (λ h. elim (or_cases (leb n (length past)) (ended n past) (sym at ∙ h)) [
            | inl k ↦ (e, past, inl (refl, refl), y, leb-true n (length past) k)
            | inr k ↦ older (ih.0 k)
          ]),
          (λ h. at ∙ elim h.2 [
            | inl x ↦ or_left (leb n (length past)) (ended n past) (le-leb n (length past) (subst (λ (p : List Entry). n ≤ length p) (sym x.1) h.4))
            | inr x ↦ or_right (leb n (length past)) (ended n past) (ih.1 (h.0, h.1, x, h.3, h.4))
          ]),
        ))
        (λ b.
        let at : ended n (e ∷ past) ≡ ended n past = ended_no n (length past) e.what (ended n past) b in (
          (λ h. older (ih.0 (sym at ∙ h))),
          (λ h. at ∙ elim h.2 [
            | inl x ↦ absurd (both_ways (is_end e.what) b (ap (λ (z : Entry). is_end z.what) x.0 ∙ h.3))
            | inr x ↦ ih.1 (h.0, h.1, x, h.3, h.4)
          ]),
        ))

-- attribute
set_kind : (page : ℕ) (e : Effect) (f : Flat) → sets_by page e ≡ true → IsKindBy (attr_of page (apply e f).attrs) e
set_kind page (Attr span kind) f h = rw h refl
set_kind page (Slot id base pages user flags file index) f h = false_true h
set_kind page (Mark id) f h = false_true h
set_kind page (NoSlot id) f h = false_true h
set_kind page (Move id base) f h = false_true h
set_kind page (Cut F lo hi) f h = false_true h
set_kind page (Shut F) f h = false_true h
set_kind page (File file pages block) f h = false_true h
set_kind page (Word p w value) f h = false_true h

sets_yes : (page t : ℕ) (w : What) (a : Actor) (past : List Entry) → sets page w ≡ true → IsKindOf (attr_of page (flat (by t a w ∷ past)).attrs) w
sets_yes page t (Change e) a past h = set_kind page e (flat past) h
sets_yes page t _ a past h = false_true h

set_not : (page : ℕ) (e : Effect) (f : Flat) → sets_by page e ≡ false → attr_of page (apply e f).attrs ≡ attr_of page f.attrs
set_not page (Attr span kind) f h = rw h refl
set_not page (Slot id base pages user flags file index) f h =
    let r : SlotView = record { id = id; base = base; pages = pages; user = user; flags = flags; file = file; index = index; invalid = false } in
    cond_P (λ (x : Flat). attr_of page x.attrs ≡ attr_of page f.attrs) (slot_fits r) (record f { slots = r ∷ f.slots }) f refl refl
set_not page (Mark id) f h = refl
set_not page (NoSlot id) f h = refl
set_not page (Move id base) f h = refl
set_not page (Cut F lo hi) f h = refl
set_not page (Shut F) f h = cond_P (λ (x : Flat). attr_of page x.attrs ≡ attr_of page f.attrs) (was_made F f.files) (record f { slots = shut_slots F f.slots; files = shut_files F f.files; cache = without_file F f.cache }) f refl refl
set_not page (File file pages block) f h = refl
set_not page (Word p w value) f h = refl

sets_no : (page t : ℕ) (w : What) (a : Actor) (past : List Entry) → sets page w ≡ false → attr_of page (flat (by t a w ∷ past)).attrs ≡ attr_of page (flat past).attrs
sets_no page t (Change e) a past h = set_not page e (flat past) h
sets_no page t (Get b n) a past h = ap (attr_of page) (add_look (adds (Get b n) a past (states past)) (flat past)).1
sets_no page t (Page i fo n) a past h = ap (attr_of page) (add_look (adds (Page i fo n) a past (states past)) (flat past)).1
sets_no page t _ a past h = refl

pub attribute_is_last : (page : ℕ) (past : List Entry) → AttributeIsLast page past
attribute_is_last page [] = inl (refl, λ e before s. absurd s)
attribute_is_last page (e ∷ past) = go (attribute_is_last page past)
  where
    go : AttributeIsLast page past → AttributeIsLast page (e ∷ past)
    go ih = by_test (sets_page page e)
        (λ y. inr (e, past, last_here (sets_page page) e past y, sets_yes page e.turn e.what e.actor past y))
        (λ n.
        let same : attr_of page (flat (e ∷ past)).attrs ≡ attr_of page (flat past).attrs = sets_no page e.turn e.what e.actor past n in
        elim ih [
          | inl x ↦ inl (same ∙ x.0, none_skip (sets_page page) e past n x.1)
          | inr x ↦ inr (x.0, x.1, last_skip (sets_page page) e x.0 x.1 past n x.2, subst (λ (k : Kind). IsKindOf k x.0.what) (sym same) x.3)
        ])

-- settled
own_here : (page : ℕ) (w : What) (past : List Entry) (x : ℕ) → changes page w past ≡ true → own_step page w past x ≡ suc (length past)
own_here page (Change e) past x h = rw h refl
own_here page _ past x h = false_true h

-- an entry that doesn't bound the call keeps a change
own_keeps : (page : ℕ) (w : What) (past : List Entry) (x n : ℕ) → bounds_call w ≡ false → n < x → n < length past → n < own_step page w past x
own_keeps page (Change e) past x n b h k = both (is_on e (flat past) page) x n (length past) h k
  where
    both : (t : Bool) (x n m : ℕ) → n < x → n < m → n < cond t (suc m) x
    both t x n m h k = grind arith
own_keeps page (Judge i) past x n b h k = false_true (sym b)
own_keeps page (Answer r) past x n b h k = false_true (sym b)
own_keeps page _ past x n b h k = h

own_upper : (c page : ℕ) (q : List Entry) (e : Entry) (before : List Entry) → Stands e before q → is_caller c e.actor ≡ true → changes page e.what before ≡ true → NoneAfter (length before) (call_bound c) q → length before < own_change c page q
own_upper c page [] e before s a h f = absurd s
own_upper c page (x ∷ p) e before (inl s) a h f =
    let u : is_caller c x.actor ≡ true = ap (λ (z : Entry). is_caller c z.actor) s.0 ∙ a in
    let w : changes page x.what p ≡ true = ap (λ (z : Entry). changes page z.what p) s.0 ∙ (ap (λ (z : List Entry). changes page e.what z) s.1 ∙ h) in
    subst (λ (z : ℕ). length before < z) (sym (cond-true (is_caller c x.actor) (own_step page x.what p (own_change c page p)) (own_change c page p) u ∙ own_here page x.what p (own_change c page p) w))
    (subst (λ (z : List Entry). length z < suc (length p)) s.1 (lt_suc (length p)))
  where
    lt_suc : (n : ℕ) → n < suc n
    lt_suc n = omega arith
own_upper c page (x ∷ p) e before (inr s) a h f = go (is_caller c x.actor) refl (own_upper c page p e before s a h (none_after_less (length before) (call_bound c) x p f))
  where
    lt : length before < length p
    lt = stands_lt e before p s

    go : (t : Bool) → is_caller c x.actor ≡ t → length before < own_change c page p → length before < cond t (own_step page x.what p (own_change c page p)) (own_change c page p)
    go true u ih = own_keeps page x.what p (own_change c page p) (length before) (not_bound u) ih lt
      where
        not_bound : is_caller c x.actor ≡ true → bounds_call x.what ≡ false
        not_bound u = sym (ap (λ (t : Bool). t && bounds_call x.what) u) ∙ newest_none (length before) (call_bound c) x p lt f
    go false u ih = ih

settled_grows : (page : ℕ) (w : What) (a : Actor) (past : List Entry) → settled page past ≤ settled_step page w a past (settled page past)
settled_grows page (Answer r) (Caller c) past = omega arith
settled_grows page (Answer r) (Vcpu v) past = omega arith
settled_grows page w a past = omega arith

settled_answer : (page c : ℕ) (w : What) (a : Actor) (past : List Entry) (x : ℕ) → is_caller c a ≡ true → is_answer w ≡ true → own_change c page past ≤ settled_step page w a past x
settled_answer page c (Answer r) (Caller d) past x u h =
    let e : d ≡ c = eqb-true d c u in
    subst (λ (z : ℕ). own_change z page past ≤ max (own_change d page past) x) e (omega arith)
settled_answer page c (Answer r) (Vcpu v) past x u h = false_true u
settled_answer page c w a past x u h = false_true h

pub settled_is_least : (page : ℕ) (past : List Entry) → SettledIsLeast page past
settled_is_least page [] c e before a answered h = absurd h.stands
settled_is_least page (x ∷ past) c e before a answered h = go (settled_is_least page past) h.stands
  where
    up : (a b d : ℕ) → a < b → b ≤ d → a < d
    up a b d p q = omega arith

    go : SettledIsLeast page past → Stands a answered (x ∷ past) → length before < settled page (x ∷ past)
    go ih (inl s) = up (length before) (own_change c page past) (settled page (x ∷ past))
        (subst (λ (q : List Entry). length before < own_change c page q) (sym s.1) (own_upper c page answered e before h.change h.is_change_of.0 h.is_change_of.1 h.its_call))
        (settled_answer page c x.what x.actor past (settled page past) (ap (λ (z : Entry). is_caller c z.actor) s.0 ∙ h.is_answer_of.0) (ap (λ (z : Entry). is_answer z.what) s.0 ∙ h.is_answer_of.1))
    go ih (inr s) = up (length before) (settled page past) (settled page (x ∷ past))
        (ih c e before a answered (record { stands = s; is_answer_of = h.is_answer_of; change = h.change; is_change_of = h.is_change_of; its_call = h.its_call }))
        (settled_grows page x.what x.actor past)

-- a caller's change is one that stands
pub record IsOwn (page c : ℕ) (e : Entry) (before q : List Entry) : Type 0 where
  pub change : Stands e before q
  pub is_change_of : (is_caller c e.actor ≡ true) × (changes page e.what before ≡ true)
  pub its_call : NoneAfter (length before) (call_bound c) q

abbrev OwnIsOne : ℕ → ℕ → ℕ → List Entry → Type 0
OwnIsOne page c n q = (n ≡ 0) ⊎ ((e : Entry) × (before : List Entry) × IsOwn page c e before q × (n ≡ suc (length before)))

own_older : (page c n : ℕ) (x : Entry) (q : List Entry) → call_bound c x ≡ false → OwnIsOne page c n q → OwnIsOne page c n (x ∷ q)
own_older page c n x q b (inl h) = inl h
own_older page c n x q b (inr h) = inr (h.0, h.1, record { change = inr h.2.change; is_change_of = h.2.is_change_of; its_call = none_after_skip (length h.1) (call_bound c) x q b h.2.its_call }, h.3)

own_new : (page c : ℕ) (x : Entry) (q : List Entry) (w : What) → x.what ≡ w → is_caller c x.actor ≡ true → OwnIsOne page c (own_change c page q) q → OwnIsOne page c (own_step page w q (own_change c page q)) (x ∷ q)
own_new page c x q (Judge i) e u ih = inl refl
own_new page c x q (Answer r) e u ih = inl refl
own_new page c x q (Change f) e u ih = go (is_on f (flat q) page) refl
  where
    not_bound : call_bound c x ≡ false
    not_bound = ap (λ (t : Bool). t && bounds_call x.what) u ∙ ap bounds_call e

    go : (t : Bool) → is_on f (flat q) page ≡ t → OwnIsOne page c (cond t (suc (length q)) (own_change c page q)) (x ∷ q)
    go true h = inr (x, q, record { change = inl (refl, refl); is_change_of = (u, ap (λ (w : What). changes page w q) e ∙ h); its_call = none_after_here (call_bound c) x q }, refl)
    go false h = own_older page c (own_change c page q) x q not_bound ih
own_new page c x q w e u ih = own_older page c (own_change c page q) x q (ap (λ (t : Bool). t && bounds_call x.what) u ∙ ap bounds_call e) ih

own_is_one : (page c : ℕ) (q : List Entry) → OwnIsOne page c (own_change c page q) q
own_is_one page c [] = inl refl
own_is_one page c (x ∷ q) = go (is_caller c x.actor) refl (own_is_one page c q)
  where
    go : (t : Bool) → is_caller c x.actor ≡ t → OwnIsOne page c (own_change c page q) q → OwnIsOne page c (cond t (own_step page x.what q (own_change c page q)) (own_change c page q)) (x ∷ q)
    go true u ih = own_new page c x q x.what refl u ih
    go false u ih = own_older page c (own_change c page q) x q (ap (λ (t : Bool). t && bounds_call x.what) u) ih

settled_older : (page n : ℕ) (x : Entry) (past : List Entry) → n ≡ settled page past → SettledIsOne page past → settled page (x ∷ past) ≡ n → SettledIsOne page (x ∷ past)
settled_older page n x past e (inl h) q = inl (q ∙ (e ∙ h))
settled_older page n x past e (inr h) q = inr (h.0, h.1, h.2, h.3, h.4, record { stands = inr h.5.stands; is_answer_of = h.5.is_answer_of; change = h.5.change; is_change_of = h.5.is_change_of; its_call = h.5.its_call }, q ∙ (e ∙ h.6))

max_cases : (a b : ℕ) → (max a b ≡ a) ⊎ (max a b ≡ b)
max_cases a b = elim (cases_lt a b) [ inl h ↦ inr (omega arith) | inr h ↦ inl (omega arith) ]

settled_new : (page : ℕ) (x : Entry) (past : List Entry) (w : What) (a : Actor) → x.what ≡ w → x.actor ≡ a → SettledIsOne page past → settled page (x ∷ past) ≡ settled_step page w a past (settled page past) → SettledIsOne page (x ∷ past)
settled_new page x past (Answer r) (Caller c) e f ih q =
    elim (max_cases (own_change c page past) (settled page past)) [
      | inl own ↦ elim (own_is_one page c past) [
        | inl z ↦ inl (q ∙ (own ∙ z))
        | inr h ↦ inr (c, h.0, h.1, x, past, record { stands = inl (refl, refl); is_answer_of = (ap (is_caller c) f ∙ eq-eqb c c refl, ap is_answer e); change = h.2.change; is_change_of = h.2.is_change_of; its_call = h.2.its_call }, q ∙ (own ∙ h.3))
      ]
      | inr old ↦ settled_older page (settled page past) x past refl ih (q ∙ old)
    ]
settled_new page x past (Answer r) (Vcpu v) e f ih q = settled_older page (settled page past) x past refl ih q
settled_new page x past w a e f ih q = settled_older page (settled page past) x past refl ih q

pub settled_is_one : (page : ℕ) (past : List Entry) → SettledIsOne page past
settled_is_one page [] = inl refl
settled_is_one page (x ∷ past) = settled_new page x past x.what x.actor refl refl (settled_is_one page past) refl
