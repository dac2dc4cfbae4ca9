-- A blocked caller writes nothing, and a call that is refused has its Answer alone.
use Rattle.std.proofs.Common.{◌++◌, ◌≤◌, Bool, List, None, Option, Some, [], ap, arith, eq-eqb, eqb, false, inl, inr, length, not, refl, subst, suc, sym, true, ℕ, ◌∙◌, ◌∷◌, ◌≡◌}
use Rattle.std.proofs.lemmas.Bool.{and_parts, both_ways, cond-true}
use Rattle.gm_base.specs.Scripts.{Orders}
use Rattle.gm_base.specs.declared.calls.Ioctl.{Ioctl}
use Rattle.gm_base.specs.declared.script.Command.{Command}
use Rattle.gm_base.specs.declared.script.Command.TheVariants.{Call as CallCommand}
use Rattle.gm_base.specs.declared.values.Actor.{Actor}
use Rattle.gm_base.specs.declared.values.Actor.TheVariants.{Caller}
use Rattle.gm_base.specs.declared.values.Errno.{Errno}
use Rattle.gm_base.specs.declared.values.Setup.{Setup}
use Rattle.gm_flat.specs.Calls.{Bracketed, Paged, Plan, Reads, Refused, Same as SamePlan, Short, mark_of, plan}
use Rattle.gm_flat.specs.FlatState.{Flat}
use Rattle.gm_flat.specs.Histories.{Bracket, Call, bracket, call, is_mark, same_turn}
use Rattle.gm_flat.specs.Locks.{WaitsForLock}
use Rattle.gm_flat.specs.Plays.{before_number, turn_entries}
use Rattle.gm_flat.specs.Replay.{flat, flat_at}
use Rattle.gm_flat.specs.RightCalls.{IsAnswer, RightAnswer, RightPage}
use Rattle.gm_flat.specs.RightHistory.{Right}
use Rattle.gm_flat.specs.RightLives.{plan_of}
use Rattle.gm_flat.specs.RightOrder.{Acks, Begins, Changes, Ends, IsBlocked, IsDueBy, WaitsToAck, WaitsToJudge, are_frees, begins_by, is_begin_row, is_caller_row, is_first_row, is_marking, is_row, next_command}
use Rattle.gm_flat.specs.declared.effect.Effect.{Effect}
use Rattle.gm_flat.specs.declared.effect.Reply.{Reply}
use Rattle.gm_flat.specs.declared.effect.Reply.TheVariants.{Bad, Good}
use Rattle.gm_flat.specs.declared.entry.Entry.{Entry}
use Rattle.gm_flat.specs.declared.entry.What.{What}
use Rattle.gm_flat.specs.declared.entry.What.TheVariants.{Acked, Answer, Begin, Change, End, Free, Gone, Judge, Page}
use Rattle.gm_laws.proofs.Kit.{by, flat_at_all, flat_at_keep, none_is}
use Rattle.gm_laws.specs.May.{May}
use Rattle.gm_laws.specs.Ruled.{Ruled}
use Rattle.gm_laws.specs.Stands.{Stands}
use Rattle.gm_laws.specs.Turns.{EachMay, IsTurn, onto}
use Rattle.gm_determined.specs.Exactly.{OnlyAnswers}
use Rattle.gm_determined.proofs.CallerTurn.{FirstRow, Known, first_row, known, some_next}
use Rattle.gm_determined.proofs.Entries.{call_command}
use Rattle.gm_determined.proofs.Placed.{begins, begins_by as first_of, in_turn, stands_cut}
use Rattle.gm_determined.proofs.Small.{false_true}
use Rattle.gm_determined.proofs.Waits.{due_acked, unmarked}

-- a caller that waits to judge
acks_some : (b : Option Bracket) (past : List Entry) → Acks b past → (d : Bracket) × (b ≡ Some d)
acks_some (Some d) past a = (d, refl)
acks_some None past a = absurd a

no_call : (o : Orders) (c : ℕ) (past : List Entry) → Known o past (call c past) (bracket c past) (next_command o (Caller c) past) → call c past ≡ None → Acks (bracket c past) past → ⊥
no_call o c past k e a =
    let d = acks_some (bracket c past) past a in
    let x = k.planned d.0 d.1 in
    none_is x.0 (sym e ∙ x.1)

judge_waits : (o : Orders) (c : ℕ) (w : What) (ws : List What) (past : List Entry) → Known o past (call c past) (bracket c past) (next_command o (Caller c) past) → is_caller_row o.setup c (w ∷ ws) past ≡ true → May o w (Caller c) past → WaitsToJudge o c past → ⊥
judge_waits o c (Judge i) ws past k e m b = m.locks_free (subst (λ (j : Ioctl). WaitsForLock c j past) (call_command b.ioctl i (next_command o (Caller c) past) b.command m.command) b.waits)
judge_waits o c (Begin spans) ws past k e m b = subst (λ (z : Option Call). Begins z (bracket c past)) b.none_in_progress m.0
judge_waits o c Acked ws past k e m b = no_call o c past k b.none_in_progress m
judge_waits o c (Change d) ws past k e m b = subst (λ (z : Option Call). Changes o.setup d z (bracket c past) past) b.none_in_progress m.0
judge_waits o c (Page i fo n) ws past k e m b = subst (λ (z : Option Call). RightPage o.setup i z past) b.none_in_progress m.1
judge_waits o c End ws past k e m b = subst (λ (z : Option Call). Ends z (bracket c past)) b.none_in_progress m
judge_waits o c (Answer r) ws past k e m b = subst (λ (z : Option Call). RightAnswer o.setup r z past) b.none_in_progress m.1
judge_waits o c Gone ws past k e m b = some_next (next_command o (Caller c) past) (CallCommand b.ioctl) b.command m.none_left
judge_waits o c w ws past k e m b = false_true e

-- a caller that waits to acknowledge
record AckWaits (o : Orders) (past : List Entry) (z : Option Call) (b : Option Bracket) (k : Option Command) : Type 0 where
  none_judged : z ≡ None → ⊥
  is_open : b ≡ None → ⊥
  no_begin : Begins z b → ⊥
  no_acked : Acks b past → ⊥
  no_change : (e : Effect) → is_mark e ≡ false → Changes o.setup e z b past → ⊥
  no_end : Ends z b → ⊥
  not_gone : k ≡ None → ⊥

ack_waits : (o : Orders) (past : List Entry) (z : Option Call) (b : Option Bracket) (k : Option Command) → Known o past z b k → WaitsToAck b past → AckWaits o past z b k
ack_waits o past (Some x) (Some d) k known w =
    record {
      none_judged = λ e. none_is x (sym e);
      is_open = λ e. none_is d (sym e);
      no_begin = λ m. m;
      no_acked = λ m. m.1 w.1;
      no_change = λ e n m. both_ways d.acked w.0 (due_acked (length past) x.judged (plan_of o.setup x past) d (subst (λ (t : Bool). IsDueBy t (length past) x.judged (plan_of o.setup x past) (Some d)) n m.1));
      no_end = λ m. both_ways d.acked w.0 (known.fits m);
      not_gone = some_next k (CallCommand x.ioctl) known.waits;
    }
ack_waits o past None (Some d) k known w = absurd known.fits
ack_waits o past z None k known w = absurd w

acks_wait : (o : Orders) (c : ℕ) (w : What) (ws : List What) (past : List Entry) → AckWaits o past (call c past) (bracket c past) (next_command o (Caller c) past) → is_caller_row o.setup c (w ∷ ws) past ≡ true → May o w (Caller c) past → ⊥
acks_wait o c (Judge i) ws past k e m = k.none_judged m.none_in_progress
acks_wait o c (Begin spans) ws past k e m = k.no_begin m.0
acks_wait o c Acked ws past k e m = k.no_acked m
acks_wait o c (Change d) ws past k e m = k.no_change d (unmarked (is_mark d) (and_parts (not (is_mark d)) (are_frees ws) e).0) m.0
acks_wait o c (Page i fo n) ws past k e m = k.is_open m.0
acks_wait o c End ws past k e m = k.no_end m
acks_wait o c (Answer r) ws past k e m = k.is_open m.0
acks_wait o c Gone ws past k e m = k.not_gone m.none_left
acks_wait o c w ws past k e m = false_true e

blocked_waits : (o : Orders) (c : ℕ) (w : What) (ws : List What) (past : List Entry) → Ruled o past → is_row o.setup (Caller c) (w ∷ ws) past ≡ true → May o w (Caller c) past → IsBlocked o (Caller c) past → ⊥
blocked_waits o c w ws past r e m (inl b) = judge_waits o c w ws past (known o c past r) e m b
blocked_waits o c w ws past r e m (inr b) = acks_wait o c w ws past (ack_waits o past (call c past) (bracket c past) (next_command o (Caller c) past) (known o c past r) b) e m

pub blocked_silent : (o : Orders) (e : Entry) (past h : List Entry) (c : ℕ) → Right o h → Stands e past h → e.actor ≡ Caller c → same_turn e past ≡ false → IsBlocked o (Caller c) past → ⊥
blocked_silent o e past h c r s a n b =
    let x = begins o e past h r s n in
    let t : IsTurn o e.turn (Caller c) (e.what ∷ x.0) past = subst (λ (z : Actor). IsTurn o e.turn z (e.what ∷ x.0) past) a x.1.turn in
    blocked_waits o c e.what x.0 past x.1.rules t.row t.each_may.0 b

-- a Judge begins its turn
abbrev no_judge : List What → Bool
no_judge [] = true
no_judge (Judge i ∷ ws) = false
no_judge (_ ∷ ws) = no_judge ws

judge_in : (ws : List What) (i : Ioctl) (us : List What) → no_judge (ws ++ Judge i ∷ us) ≡ false
judge_in [] i us = refl
judge_in (Judge j ∷ ws) i us = refl
judge_in (_ ∷ ws) i us = judge_in ws i us

frees_none : (ws : List What) → are_frees ws ≡ true → no_judge ws ≡ true
frees_none [] e = refl
frees_none (Free fo n ∷ ws) e = frees_none ws e
frees_none (_ ∷ ws) e = false_true e

first_none : (p : Plan) (ws : List What) → is_first_row p ws ≡ true → no_judge ws ≡ true
first_none (Refused r) (Answer x ∷ []) e = refl
first_none (SamePlan r) (Answer x ∷ []) e = refl
first_none (Reads r w) (Answer x ∷ []) e = refl
first_none (Short r n) (Change f ∷ (Answer x ∷ [])) e = refl
first_none (Bracketed r s) [] e = refl
first_none (Paged p) [] e = refl
first_none _ ws e = false_true e

marking_none : (m : Option Effect) (ws : List What) → is_marking m ws ≡ true → no_judge ws ≡ true
marking_none None [] e = refl
marking_none (Some m) (Change d ∷ []) e = refl
marking_none m ws e = false_true e

begin_none : (p : Plan) (ws : List What) → is_begin_row p ws ≡ true → no_judge ws ≡ true
begin_none (Bracketed f spans) ws e = marking_none (mark_of f) ws e
begin_none _ ws e = false_true e

begins_none : (s : Setup) (z : Option Call) (ws : List What) (past : List Entry) → begins_by s z ws past ≡ true → no_judge ws ≡ true
begins_none s None ws past e = false_true e
begins_none s (Some x) ws past e = begin_none (plan_of s x past) ws e

tail_none : (s : Setup) (c : ℕ) (w : What) (ws : List What) (past : List Entry) → is_caller_row s c (w ∷ ws) past ≡ true → no_judge ws ≡ true
tail_none s c (Judge i) ws past e = first_none (plan s i (flat past)) ws e
tail_none s c (Begin x) ws past e = begins_none s (call c past) ws past e
tail_none s c (Change x) ws past e = frees_none ws (and_parts (not (is_mark x)) (are_frees ws) e).1
tail_none s c Acked [] past e = refl
tail_none s c End (Answer x ∷ []) past e = refl
tail_none s c (Page i fo n) [] past e = refl
tail_none s c (Answer x) [] past e = refl
tail_none s c Gone [] past e = refl
tail_none s c w ws past e = false_true e

judge_first : (s : Setup) (c : ℕ) (ws : List What) (i : Ioctl) (us : List What) (past : List Entry) → is_caller_row s c (ws ++ Judge i ∷ us) past ≡ true → ws ≡ []
judge_first s c [] i us past e = refl
judge_first s c (w ∷ ws) i us past e = absurd (both_ways (no_judge (ws ++ Judge i ∷ us)) (judge_in ws i us) (tail_none s c w (ws ++ Judge i ∷ us) past e))

-- the call right after its Judge
judged_call : (o : Orders) (t c : ℕ) (i : Ioctl) (past : List Entry) → call c (by t (Caller c) (Judge i) ∷ past) ≡ Some (record { judged = length past; ioctl = i; made = false; pages = 0 })
judged_call o t c i past = cond-true (eqb c c) (Some (record { judged = length past; ioctl = i; made = false; pages = 0 })) (call c past) (eq-eqb c c refl)

judged_plan : (s : Setup) (t c : ℕ) (i : Ioctl) (past : List Entry) → plan s i (flat_at (length past) (by t (Caller c) (Judge i) ∷ past)) ≡ plan s i (flat past)
judged_plan s t c i past = ap (λ (f : Flat). plan s i f) (flat_at_keep (length past) (by t (Caller c) (Judge i)) past (self (length past)) ∙ flat_at_all past)
  where
    self : (n : ℕ) → n ≤ n
    self n = omega arith

judged_answer : (o : Orders) (t c : ℕ) (i : Ioctl) (r : Reply) (past : List Entry) → RightAnswer o.setup r (call c (by t (Caller c) (Judge i) ∷ past)) (by t (Caller c) (Judge i) ∷ past) → IsAnswer o.setup r (record { judged = length past; ioctl = i; made = false; pages = 0 }) (plan o.setup i (flat past)) (by t (Caller c) (Judge i) ∷ past)
judged_answer o t c i r past a =
    let q = by t (Caller c) (Judge i) ∷ past in
    let x : Call = record { judged = length past; ioctl = i; made = false; pages = 0 } in
    subst (λ (p : Plan). IsAnswer o.setup r x p q) (judged_plan o.setup t c i past) (subst (λ (z : Option Call). RightAnswer o.setup r z q) (judged_call o t c i past) a)

-- the turn of a Judge
record Judged (o : Orders) (e : Entry) (past h : List Entry) (c : ℕ) (i : Ioctl) : Type 0 where
  rest : List What
  entries : turn_entries e.turn h ≡ Judge i ∷ rest
  row : is_first_row (plan o.setup i (flat past)) rest ≡ true
  each : EachMay o e.turn (Caller c) rest (by e.turn (Caller c) (Judge i) ∷ past)
  whole : before_number (suc e.turn) h ≡ onto e.turn e.actor rest (e ∷ past)

own_entry : (e : Entry) (i : Ioctl) → e.what ≡ Judge i → by e.turn e.actor (Judge i) ≡ e
own_entry e i w = ap (λ (x : What). by e.turn e.actor x) (sym w)

judged : (o : Orders) (e : Entry) (past h : List Entry) (c : ℕ) (i : Ioctl) → Right o h → Stands e past h → e.actor ≡ Caller c → e.what ≡ Judge i → Judged o e past h c i
judged o e past h c i r s a w =
    let k = e.turn in
    let x = in_turn o e past h r s in
    let p = before_number k h in
    let front = x.place.before in
    let rest = x.place.after in
    let row : is_caller_row o.setup c (front ++ Judge i ∷ rest) p ≡ true = subst (λ (v : What). is_caller_row o.setup c (front ++ v ∷ rest) p ≡ true) w
    (subst (λ (z : Actor). is_row o.setup z (front ++ e.what ∷ rest) p ≡ true) a
    (subst (λ (ws : List What). is_row o.setup e.actor ws p ≡ true) x.place.entries x.turn.row)) in
    let y = first_of o e past h x (judge_first o.setup c front i rest p row) in
    let t : IsTurn o k (Caller c) (Judge i ∷ rest) past = subst (λ (v : What). IsTurn o k (Caller c) (v ∷ rest) past) w (subst (λ (z : Actor). IsTurn o k z (e.what ∷ rest) past) a y.turn) in
    record {
      rest = rest;
      entries = y.entries ∙ ap (λ (v : What). v ∷ rest) w;
      row = t.row;
      each = t.each_may.1;
      whole = x.whole ∙ (ap (λ (ws : List What). onto k e.actor ws p) y.entries ∙ ap (λ (q : List Entry). onto k e.actor (e.what ∷ rest) q) y.before_is);
    }

-- a refusal
the_answer : (o : Orders) (t c : ℕ) (i : Ioctl) (errno : Errno) (r : Reply) (rest : List What) (past : List Entry) → plan o.setup i (flat past) ≡ Refused errno → rest ≡ Answer r ∷ [] → EachMay o t (Caller c) rest (by t (Caller c) (Judge i) ∷ past) → r ≡ Bad errno
the_answer o t c i errno r rest past p e m =
    let q = by t (Caller c) (Judge i) ∷ past in
    let y : EachMay o t (Caller c) (Answer r ∷ []) q = subst (λ (ws : List What). EachMay o t (Caller c) ws q) e m in
    subst (λ (z : Plan). IsAnswer o.setup r (record { judged = length past; ioctl = i; made = false; pages = 0 }) z q) p (judged_answer o t c i r past y.0.1)

refused_rest : (o : Orders) (t c : ℕ) (i : Ioctl) (errno : Errno) (rest : List What) (past : List Entry) → plan o.setup i (flat past) ≡ Refused errno → is_first_row (plan o.setup i (flat past)) rest ≡ true → EachMay o t (Caller c) rest (by t (Caller c) (Judge i) ∷ past) → rest ≡ Answer (Bad errno) ∷ []
refused_rest o t c i errno rest past p row m =
    let x : FirstRow (Refused errno) rest = first_row (Refused errno) rest (subst (λ (z : Plan). is_first_row z rest ≡ true) p row) in
    x.1 ∙ ap (λ (r : Reply). Answer r ∷ []) (the_answer o t c i errno x.0 rest past p x.1 m)

pub refused_answers : (o : Orders) (e : Entry) (past h : List Entry) (c : ℕ) (i : Ioctl) (errno : Errno) → Right o h → Stands e past h → e.actor ≡ Caller c → e.what ≡ Judge i → plan o.setup i (flat past) ≡ Refused errno → OnlyAnswers errno i e past h
refused_answers o e past h c i errno r s a w p =
    let x = judged o e past h c i r s a w in
    let f : x.rest ≡ Answer (Bad errno) ∷ [] = refused_rest o e.turn c i errno x.rest past p x.row x.each in
    let q : before_number (suc e.turn) h ≡ by e.turn e.actor (Answer (Bad errno)) ∷ (e ∷ past) = x.whole ∙ ap (λ (ws : List What). onto e.turn e.actor ws (e ∷ past)) f in
    record {
      next = stands_cut (suc e.turn) (by e.turn e.actor (Answer (Bad errno))) (e ∷ past) h (subst (Stands (by e.turn e.actor (Answer (Bad errno))) (e ∷ past)) (sym q) (inl (refl, refl)));
      alone = x.entries ∙ ap (λ (ws : List What). Judge i ∷ ws) f;
    }

-- and no other plan answers an errno at once
good_bad : (n : ℕ) (errno : Errno) → Bad errno ≡ Good n → ⊥
good_bad n errno e = cc

same_bad : (x y : Errno) → Bad x ≡ Bad y → x ≡ y
same_bad x y e = cc

bad_plan : (o : Orders) (x : Call) (errno : Errno) (p : Plan) (q : List Entry) → is_first_row p (Answer (Bad errno) ∷ []) ≡ true → IsAnswer o.setup (Bad errno) x p q → p ≡ Refused errno
bad_plan o x errno (Refused r) q e a = ap (λ (z : Errno). Refused z) (sym (same_bad errno r a))
bad_plan o x errno (SamePlan n) q e a = absurd (good_bad n errno a)
bad_plan o x errno (Reads g w) q e a = absurd (good_bad _ errno a)
bad_plan o x errno (Short f n) q e a = false_true e
bad_plan o x errno (Bracketed f spans) q e a = false_true e
bad_plan o x errno (Paged p) q e a = false_true e

tails : (v w : What) (ws us : List What) → v ∷ ws ≡ w ∷ us → ws ≡ us
tails v w ws us e = cc

pub answers_refused : (o : Orders) (e : Entry) (past h : List Entry) (c : ℕ) (i : Ioctl) (errno : Errno) → Right o h → Stands e past h → e.actor ≡ Caller c → e.what ≡ Judge i → turn_entries e.turn h ≡ Judge i ∷ (Answer (Bad errno) ∷ []) → plan o.setup i (flat past) ≡ Refused errno
answers_refused o e past h c i errno r s a w k =
    let x = judged o e past h c i r s a w in
    let q = by e.turn (Caller c) (Judge i) ∷ past in
    let f : x.rest ≡ Answer (Bad errno) ∷ [] = tails (Judge i) (Judge i) x.rest (Answer (Bad errno) ∷ []) (sym x.entries ∙ k) in
    let m : EachMay o e.turn (Caller c) (Answer (Bad errno) ∷ []) q = subst (λ (ws : List What). EachMay o e.turn (Caller c) ws q) f x.each in
    bad_plan o (record { judged = length past; ioctl = i; made = false; pages = 0 }) errno (plan o.setup i (flat past)) q
    (subst (λ (ws : List What). is_first_row (plan o.setup i (flat past)) ws ≡ true) f x.row)
    (judged_answer o e.turn c i (Bad errno) past m.0.1)
