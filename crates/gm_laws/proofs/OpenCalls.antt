-- A call that is still in progress when its turn ends goes on: its row is a change in a bracket, or pages.
use Rattle.std.proofs.Common.{◌&&◌, ◌++◌, ◌+◌, ◌<◌, Bool, List, None, Option, Some, [], ap, append_assoc, arith, cond, eq-eqb, eqb, false, inl, inr, length, not, refl, subst, suc, sym, true, ℕ, ◌∙◌, ◌∷◌, ◌≡◌, ◌⊎◌, ◌||◌}
use Rattle.std.proofs.lemmas.Bool.{and_parts, both_ways, cond-false, cond-true, or_parts, or_right}
use Rattle.gm_base.specs.Scripts.{Orders}
use Rattle.gm_base.specs.declared.calls.Ioctl.{Ioctl}
use Rattle.gm_base.specs.declared.values.Actor.{Actor}
use Rattle.gm_base.specs.declared.values.Actor.TheVariants.{Caller, Vcpu}
use Rattle.gm_base.specs.declared.values.Setup.{Setup}
use Rattle.gm_flat.specs.Calls.{Bracketed, Paged, Plan, Reads, Refused, Same, Short, mark_of, plan}
use Rattle.gm_flat.specs.FlatState.{Flat}
use Rattle.gm_flat.specs.Histories.{Call, before_turn, call, is_mark, newest_turn, same_turn}
use Rattle.gm_flat.specs.Replay.{flat, flat_at}
use Rattle.gm_flat.specs.RightLives.{plan_of}
use Rattle.gm_flat.specs.RightOrder.{IsTogether, IsWhole, are_frees, begins_by, is_begin_row, is_caller_row, is_first_row, is_marking, is_row}
use Rattle.gm_flat.specs.declared.effect.Effect.{Effect}
use Rattle.gm_flat.specs.declared.entry.Entry.{Entry}
use Rattle.gm_flat.specs.declared.entry.What.{What}
use Rattle.gm_flat.specs.declared.entry.What.TheVariants.{Acked, Answer, Begin, Change, End, Free, Gone, Judge, Page}
use Rattle.gm_laws.proofs.Kit.{by, by_test, none_is}
use Rattle.gm_laws.proofs.Locks.{Locks}
use Rattle.gm_laws.proofs.LocksKeep.{NewCall, NotOwn, inverted, is_judge, new_then, then_same}
use Rattle.gm_laws.proofs.Prefix.{IsBegun, same_row_actor}
use Rattle.gm_laws.proofs.Rows.{false_true}
use Rattle.gm_laws.proofs.Touches.{locks}
use Rattle.gm_laws.specs.JudgedRows.{GoesOn}
use Rattle.gm_laws.specs.Ruled.{Follows, FollowsRules}

abbrev is_answer : What → Bool
is_answer (Answer reply) = true
is_answer _ = false

-- a change that isn't a mark
abbrev is_change : What → Bool
is_change (Change effect) = not (is_mark effect)
is_change _ = false

abbrev any_what : (What → Bool) → List What → Bool
any_what f [] = false
any_what f (w ∷ ws) = f w || any_what f ws

any_more : (f : What → Bool) (ws : List What) (w : What) → any_what f ws ≡ false → f w ≡ false → any_what f (ws ++ w ∷ []) ≡ false
any_more f [] w a b = rw b refl
any_more f (x ∷ xs) w a b =
    let p = or_parts (f x) (any_what f xs) a in
    let q : any_what f (xs ++ w ∷ []) ≡ false = any_more f xs w p.1 b in
    rw (p.0, q) refl

any_mid : (xs : List What) (i : Ioctl) (ys : List What) → any_what is_judge (xs ++ Judge i ∷ ys) ≡ true
any_mid [] i ys = refl
any_mid (x ∷ xs) i ys = or_right (is_judge x) (any_what is_judge (xs ++ Judge i ∷ ys)) (any_mid xs i ys)

length_more : (ws : List What) (w : What) → length (ws ++ w ∷ []) ≡ suc (length ws)
length_more [] w = refl
length_more (x ∷ xs) w = ap suc (length_more xs w)

-- a Judge stands first in its row
frees_judge : (ws : List What) → are_frees ws ≡ true → any_what is_judge ws ≡ false
frees_judge [] e = refl
frees_judge (Free folio pages ∷ ws) e = frees_judge ws e
frees_judge (_ ∷ ws) e = false_true e

first_judge : (p : Plan) (ws : List What) → is_first_row p ws ≡ true → any_what is_judge ws ≡ false
first_judge (Refused r) (Answer x ∷ []) e = refl
first_judge (Same r) (Answer x ∷ []) e = refl
first_judge (Reads r w) (Answer x ∷ []) e = refl
first_judge (Short r n) (Change f ∷ (Answer x ∷ [])) e = refl
first_judge (Bracketed r s) [] e = refl
first_judge (Paged p) [] e = refl
first_judge _ ws e = false_true e

marking_judge : (m : Option Effect) (ws : List What) → is_marking m ws ≡ true → any_what is_judge ws ≡ false
marking_judge None [] e = refl
marking_judge (Some m) (Change f ∷ []) e = refl
marking_judge _ ws e = false_true e

begin_judge : (p : Plan) (ws : List What) → is_begin_row p ws ≡ true → any_what is_judge ws ≡ false
begin_judge (Bracketed f spans) ws e = marking_judge (mark_of f) ws e
begin_judge _ ws e = false_true e

begins_judge : (s : Setup) (x : Option Call) (ws : List What) (before : List Entry) → begins_by s x ws before ≡ true → any_what is_judge ws ≡ false
begins_judge s None ws before e = false_true e
begins_judge s (Some x) ws before e = begin_judge (plan_of s x before) ws e

later_judge : (s : Setup) (c : ℕ) (w : What) (ws : List What) (before : List Entry) → is_caller_row s c (w ∷ ws) before ≡ true → any_what is_judge ws ≡ false
later_judge s c (Judge i) ws before e = first_judge (plan s i (flat before)) ws e
later_judge s c (Begin x) ws before e = begins_judge s (call c before) ws before e
later_judge s c Acked [] before e = refl
later_judge s c (Change x) ws before e = frees_judge ws (and_parts (not (is_mark x)) (are_frees ws) e).1
later_judge s c End (Answer x ∷ []) before e = refl
later_judge s c (Page i fo n) [] before e = refl
later_judge s c (Answer x) [] before e = refl
later_judge s c Gone [] before e = refl
later_judge s c _ _ before e = false_true e

judge_row : (s : Setup) (c : ℕ) (i : Ioctl) (front ws : List What) (before : List Entry) → is_caller_row s c (front ++ Judge i ∷ ws) before ≡ true → (front ≡ []) × (is_first_row (plan s i (flat before)) ws ≡ true)
judge_row s c i [] ws before e = (refl, e)
judge_row s c i (b ∷ bs) ws before e = absurd (both_ways (any_what is_judge (bs ++ Judge i ∷ ws)) (later_judge s c b (bs ++ Judge i ∷ ws) before e) (any_mid bs i ws))

short_row : (r : Effect) (n : ℕ) (f : Effect) (ws : List What) → is_first_row (Short r n) (Change f ∷ ws) ≡ true → not (is_mark f) ≡ true
short_row r n f (Answer x ∷ []) e = e
short_row r n f _ e = false_true e

-- a row with no Answer yet is one that goes on, or has just begun
first_front : (p : Plan) (after rest : List What) → is_first_row p (after ++ rest) ≡ true → any_what is_answer after ≡ false → GoesOn p ⊎ (any_what is_change after ≡ false → after ≡ [])
first_front (Bracketed r s) after rest e a = inl tt
first_front (Paged p) after rest e a = inl tt
first_front p [] rest e a = inr (λ m. refl)
first_front (Refused r) (Answer x ∷ ws) rest e a = absurd (both_ways true a refl)
first_front (Same r) (Answer x ∷ ws) rest e a = absurd (both_ways true a refl)
first_front (Reads r w) (Answer x ∷ ws) rest e a = absurd (both_ways true a refl)
first_front (Short r n) (Change f ∷ ws) rest e a = inr (λ m. absurd (both_ways (not (is_mark f)) (or_parts (not (is_mark f)) (any_what is_change ws) m).0 (short_row r n f (ws ++ rest) e)))
first_front _ (w ∷ ws) rest e a = false_true e

first_whole : (p : Plan) (after : List What) → is_first_row p after ≡ true → any_what is_answer after ≡ false → GoesOn p
first_whole (Bracketed r s) after e a = tt
first_whole (Paged p) after e a = tt
first_whole (Refused r) (Answer x ∷ ws) e a = absurd (both_ways true a refl)
first_whole (Same r) (Answer x ∷ ws) e a = absurd (both_ways true a refl)
first_whole (Reads r w) (Answer x ∷ ws) e a = absurd (both_ways true a refl)
first_whole (Short r n) (Change f ∷ (Answer x ∷ ws)) e a = absurd (both_ways true a refl)
first_whole _ ws e a = false_true e

-- a call that was judged in the newest turn
abbrev IsBy : ℕ → List Entry → Type 0
IsBy c [] = ⊥
IsBy c (e ∷ past) = e.actor ≡ Caller c

pub record JudgedNow (c : ℕ) (x : Call) (past : List Entry) : Type 0 where
  pub before : List What
  pub after : List What
  pub own : IsBy c past
  pub split : newest_turn past ≡ before ++ Judge x.ioctl ∷ after
  pub unanswered : any_what is_answer after ≡ false
  pub unchanged : x.made ≡ false → any_what is_change after ≡ false
  pub count : length past ≡ suc (length after + x.judged)
  pub start : before ≡ [] → flat_at x.judged past ≡ flat (before_turn past)

abbrev pub OpenOr : Setup → List Entry → Type 0
OpenOr s past = (c : ℕ) (x : Call) → call c past ≡ Some x → GoesOn (plan_of s x past) ⊎ JudgedNow c x past

-- the row of the newest turn, as its caller's
row_of : (s : Setup) (c : ℕ) (i : Ioctl) (a : Actor) (ws front after rest : List What) (before : List Entry) → a ≡ Caller c → ws ≡ front ++ Judge i ∷ after → is_row s a (ws ++ rest) before ≡ true → is_caller_row s c (front ++ Judge i ∷ (after ++ rest)) before ≡ true
row_of s c i a ws front after rest before own split h =
    let x : is_row s (Caller c) (ws ++ rest) before ≡ true = subst (λ (b : Actor). is_row s b (ws ++ rest) before ≡ true) own h in
    let y : is_caller_row s c ((front ++ Judge i ∷ after) ++ rest) before ≡ true = subst (λ (zs : List What). is_caller_row s c (zs ++ rest) before ≡ true) split x in
    subst (λ (zs : List What). is_caller_row s c zs before ≡ true) (append_assoc front (Judge i ∷ after) rest) y

pub judged_front : (s : Setup) (c : ℕ) (x : Call) (past : List Entry) → IsBegun s past → JudgedNow c x past → GoesOn (plan_of s x past) ⊎ (x.made ≡ false → length past ≡ suc x.judged)
judged_front s c x [] b j = absurd j.own
judged_front s c x (e ∷ past) b j =
    let p = before_turn (e ∷ past) in
    let r = judge_row s c x.ioctl j.before (j.after ++ b.0) p (row_of s c x.ioctl e.actor (newest_turn (e ∷ past)) j.before j.after b.0 p j.own j.split b.1) in
    elim (first_front (plan s x.ioctl (flat p)) j.after b.0 r.1 j.unanswered) [
      | inl g ↦ inl (subst (λ (h : Flat). GoesOn (plan s x.ioctl h)) (sym (j.start r.0)) g)
      | inr n ↦ inr (λ made. right_after (length (e ∷ past)) (length j.after) x.judged j.count (ap (λ (ws : List What). length ws) (n (j.unchanged made))))
    ]
  where
    right_after : (n k p : ℕ) → n ≡ suc (k + p) → k ≡ 0 → n ≡ suc p
    right_after n k p e f = omega arith

pub judged_whole : (s : Setup) (c : ℕ) (x : Call) (past : List Entry) → IsWhole s past → JudgedNow c x past → GoesOn (plan_of s x past)
judged_whole s c x [] w j = absurd j.own
judged_whole s c x (e ∷ past) w j =
    let p = before_turn (e ∷ past) in
    let own : is_row s (Caller c) (newest_turn (e ∷ past)) p ≡ true = subst (λ (b : Actor). is_row s b (newest_turn (e ∷ past)) p ≡ true) j.own w in
    let r = judge_row s c x.ioctl j.before j.after p (subst (λ (zs : List What). is_caller_row s c zs p ≡ true) j.split own) in
    subst (λ (h : Flat). GoesOn (plan s x.ioctl h)) (sym (j.start r.0)) (first_whole (plan s x.ioctl (flat p)) j.after r.1 j.unanswered)

-- a Judge begins one
newest_some : (d : Entry) (p : List Entry) → newest_turn (d ∷ p) ≡ [] → ⊥
newest_some d p h = go (same_turn d p) (newest_turn p) h
  where
    go : (t : Bool) (ws : List What) → cond t (ws ++ d.what ∷ []) (d.what ∷ []) ≡ [] → ⊥
    go true [] h = cc
    go true (x ∷ xs) h = cc
    go false ws h = cc

same_some : (e : Entry) (past : List Entry) → same_turn e past ≡ true → newest_turn past ≡ [] → ⊥
same_some e [] s h = both_ways false refl s
same_some e (d ∷ p) s h = newest_some d p h

at_end : (n p : ℕ) → p ≡ n → suc n ≡ suc (0 + p)
at_end n p e = omega arith

judge_now : (t : ℕ) (i : Ioctl) (d c : ℕ) (x : Call) (past : List Entry) → NewCall (Judge i) (Caller d) c x past → JudgedNow c x (by t (Caller d) (Judge i) ∷ past)
judge_now t i d c x past n = by_test (same_turn (by t (Caller d) (Judge i)) past)
    (λ same. record {
      before = newest_turn past;
      after = [];
      own = ap Caller n.0;
      split = cond-true (same_turn (by t (Caller d) (Judge i)) past) (newest_turn past ++ Judge i ∷ []) (Judge i ∷ []) same ∙ ap (λ (j : Ioctl). newest_turn past ++ Judge j ∷ []) (sym n.2);
      unanswered = refl;
      unchanged = λ m. refl;
      count = at_end (length past) x.judged n.1;
      start = λ none. absurd (same_some (by t (Caller d) (Judge i)) past same none);
    })
    (λ new. record {
      before = [];
      after = [];
      own = ap Caller n.0;
      split = cond-false (same_turn (by t (Caller d) (Judge i)) past) (newest_turn past ++ Judge i ∷ []) (Judge i ∷ []) new ∙ ap (λ (j : Ioctl). Judge j ∷ []) (sym n.2);
      unanswered = refl;
      unchanged = λ m. refl;
      count = at_end (length past) x.judged n.1;
      start = λ none. new_then t (Judge i) (Caller d) past x n.1 ∙ ap flat (sym (cond-false (same_turn (by t (Caller d) (Judge i)) past) (before_turn past) past new));
    })

new_now : (t : ℕ) (w : What) (a : Actor) (c : ℕ) (x : Call) (past : List Entry) → NewCall w a c x past → JudgedNow c x (by t a w ∷ past)
new_now t (Judge i) (Caller d) c x past n = judge_now t i d c x past n
new_now t (Judge i) (Vcpu v) c x past n = absurd n
new_now t w a c x past n = absurd n

-- one more entry of its turn
not_answer : (t : ℕ) (w : What) (c : ℕ) (x : Call) (past : List Entry) → call c (by t (Caller c) w ∷ past) ≡ Some x → is_answer w ≡ false
not_answer t (Answer r) c x past e = absurd (none_is x (sym (cond-true (eqb c c) None (call c past) (eq-eqb c c refl)) ∙ e))
not_answer t w c x past e = refl

not_change : (w : What) (c : ℕ) → NotOwn w (Caller c) c → is_change w ≡ false
not_change (Change e) c n = by_test (is_mark e) (λ y. ap not y) (λ k. absurd (n k refl))
not_change w c n = refl

more_now : (t : ℕ) (w : What) (a : Actor) (c : ℕ) (x : Call) (past : List Entry) → a ≡ Caller c → same_turn (by t a w) past ≡ true → call c (by t a w ∷ past) ≡ Some x → (y : Call) → y.judged < length past → y.judged ≡ x.judged → y.ioctl ≡ x.ioctl → (x.made ≡ false → (y.made ≡ false) × NotOwn w a c) → JudgedNow c y past → JudgedNow c x (by t a w ∷ past)
more_now t w a c x past own same ec y lt ej ei em j = record {
  before = j.before;
  after = j.after ++ w ∷ [];
  own = own;
  split = cond-true (same_turn (by t a w) past) (newest_turn past ++ w ∷ []) (w ∷ []) same ∙ (ap (λ (ws : List What). ws ++ w ∷ []) j.split ∙ (append_assoc j.before (Judge y.ioctl ∷ j.after) (w ∷ []) ∙ ap (λ (i : Ioctl). j.before ++ Judge i ∷ (j.after ++ w ∷ [])) ei));
  unanswered = any_more is_answer j.after w j.unanswered (not_answer t w c x past (subst (λ (b : Actor). call c (by t b w ∷ past) ≡ Some x) own ec));
  unchanged = λ made. any_more is_change j.after w (j.unchanged (em made).0) (not_change w c (subst (λ (b : Actor). NotOwn w b c) own (em made).1));
  count = one_more (length past) (length (j.after ++ w ∷ [])) (length j.after) y.judged x.judged j.count (length_more j.after w) ej;
  start = λ none. then_same t w a past x y lt ej ∙ (j.start none ∙ ap flat (sym (cond-true (same_turn (by t a w) past) (before_turn past) past same)));
}
  where
    one_more : (n m k p q : ℕ) → n ≡ suc (k + p) → m ≡ suc k → p ≡ q → suc n ≡ suc (m + q)
    one_more n m k p q e f g = omega arith

own_turn : (e : Entry) (c : ℕ) (past : List Entry) → same_turn e past ≡ true → IsTogether e past → IsBy c past → e.actor ≡ Caller c
own_turn e c [] s t b = absurd b
own_turn e c (d ∷ p) s t b = sym (same_row_actor d e p s t) ∙ b

plan_same : (s : Setup) (t : ℕ) (w : What) (a : Actor) (past : List Entry) (x y : Call) → y.judged < length past → y.judged ≡ x.judged → y.ioctl ≡ x.ioctl → plan s y.ioctl (flat_at y.judged past) ≡ plan s x.ioctl (flat_at x.judged (by t a w ∷ past))
plan_same s t w a past x y lt ej ei = ap (λ (i : Ioctl). plan s i (flat_at y.judged past)) ei ∙ ap (λ (f : Flat). plan s x.ioctl f) (sym (then_same t w a past x y lt ej))

open_keep : (o : Orders) (t : ℕ) (w : What) (a : Actor) (past : List Entry) → Locks o.setup past → FollowsRules o (by t a w) past → OpenOr o.setup past → OpenOr o.setup (by t a w ∷ past)
open_keep o t w a past k r u c x ec =
    elim (inverted t w a past c x ec) [
      | inl n ↦ inr (new_now t w a c x past n)
      | inr y ↦
          let lt = k.call_lt c y.0 y.1 in
          elim (u c y.0 y.1) [
            | inl g ↦ inl (subst GoesOn (plan_same o.setup t w a past x y.0 lt y.2 y.3) g)
            | inr j ↦ by_test (same_turn (by t a w) past)
                (λ same. inr (more_now t w a c x past (own_turn (by t a w) c past same r.together j.own) same ec y.0 lt y.2 y.3 y.4 j))
                (λ new. inl (subst GoesOn (plan_same o.setup t w a past x y.0 lt y.2 y.3) (judged_whole o.setup c y.0 past (r.row new) j)))
          ]
    ]

pub open_or : (o : Orders) (past : List Entry) → Follows o past → OpenOr o.setup past
open_or o [] r = λ c x e. absurd (none_is x e)
open_or o (e ∷ past) r = open_keep o e.turn e.what e.actor past (locks o past r.1) r.0 (open_or o past r.1)
