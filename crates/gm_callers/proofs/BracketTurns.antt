-- What a turn of a bracket owes by the tables: when each of its entries may come, and its row.
use Rattle.std.proofs.Common.{◌≡◌, ℕ, ◌<◌, ◌≤◌, ◌&&◌, List, [], ◌∷◌, Bool, true, false, not, length, suc, Option, Some, None, arith, subst, sym, refl, ◌∙◌, ap, leb, inl, inr}
use Rattle.std.proofs.lemmas.Bool.{cases_Bool}
use Rattle.std.proofs.lemmas.Bool.Decides.{nat_tests}
use Rattle.gm_base.specs.Extent.{Extent}
use Rattle.gm_base.specs.Scripts.{Orders}
use Rattle.gm_base.specs.declared.values.Actor.TheVariants.{Caller as OfCaller}
use Rattle.gm_base.specs.declared.values.Setup.{Setup}
use Rattle.gm_calls.specs.declared.call.Step.TheVariants as step
use Rattle.gm_flat.specs.Calls.{Plan, Bracketed, mark_of}
use Rattle.gm_flat.specs.Histories.{Call as Past, call, Bracket, bracket, is_mark}
use Rattle.gm_flat.specs.Mappings.{flushed, inside}
use Rattle.gm_flat.specs.Replay.{flat_at}
use Rattle.gm_flat.specs.RightCalls.{IsAnswer, IsChange, IsEffect, IsMark, RightAnswer, RightBegin, RightChange}
use Rattle.gm_flat.specs.RightLives.{plan_of}
use Rattle.gm_flat.specs.RightOrder.{Acks, Begins, Changes, Ends, IsDue, IsDueBy, WaitsForFlush, WaitsToAck, are_frees, begins_by, is_begin_row, is_marking, is_row}
use Rattle.gm_flat.specs.Roomy.{Roomy}
use Rattle.gm_flat.specs.declared.effect.Effect.{Effect}
use Rattle.gm_flat.specs.declared.effect.Effect.TheVariants.{Mark, NoSlot, Move}
use Rattle.gm_flat.specs.declared.effect.Reply.TheVariants.{Good}
use Rattle.gm_flat.specs.declared.entry.Entry.{Entry}
use Rattle.gm_flat.specs.declared.entry.What.{What}
use Rattle.gm_flat.specs.declared.entry.What.TheVariants.{Begin, Acked, Change, End, Answer}
use Rattle.gm_laws.proofs.Counted.{asked_rises}
use Rattle.gm_laws.specs.Counting.{asked_at}
use Rattle.gm_laws.specs.May.{May}
use Rattle.gm_callers.proofs.Lists.{self}
use Rattle.gm_callers.proofs.Moves.{InBracket, acked_is, begun_is, by, changed_is, in_bracket, spans_here}
use Rattle.gm_callers.proofs.Stays.{plan_keep, quiet}
use Rattle.gm_callers.proofs.Unmarked.{bracket_unmarked}
use Rattle.gm_callers.specs.Callers.{caller_at, request_in, spans_in}
use Rattle.gm_callers.specs.Stand.{Asked, CallersStand, IsAt}
use Rattle.gm_callers.specs.Waiting.{IsUnflushed, WaitsOnVcpu}
use Rattle.gm_callers.specs.declared.caller.Caller.{Caller}
use Rattle.gm_callers.specs.declared.caller.InProgress.{InProgress}

-- it begins

planned_begin : {s : Setup} {cs : List Caller} {past : List Entry} (c : ℕ) (effect : Effect) → (g : InBracket s cs c effect None past) → plan_of s g.y past ≡ Bracketed effect (spans_in (caller_at cs c).call).list
planned_begin {s = s} {cs = cs} {past = past} c effect g = spans_here (caller_at cs c).call g.x effect (plan_of s g.y past) g.is_x g.stage.is_judged

begins : (x : Option Past) (b : Option Bracket) (y : Past) → x ≡ Some y → b ≡ None → y.made ≡ false → Begins x b
begins x b y e f h = rw (e, f) h

right_begin : (s : Setup) (ss : List Extent) (effect : Effect) (x : Option Past) (y : Past) (past : List Entry) → x ≡ Some y → plan_of s y past ≡ Bracketed effect ss → RightBegin s ss x past
right_begin s ss effect x y past e h = subst (λ (z : Option Past). RightBegin s ss z past) (sym e) (effect, h)

pub may_begin : (o : Orders) {cs : List Caller} {past : List Entry} (c : ℕ) (effect : Effect) → CallersStand o.setup cs past → c < o.setup.callers → IsAt effect None (caller_at cs c).call → May o (Begin (spans_in (caller_at cs c).call)) (OfCaller c) past
may_begin o {cs = cs} {past = past} c effect st lt at =
    let g = in_bracket c effect None st lt at in
    (begins (call c past) (bracket c past) g.y g.call_is g.stage.no_bracket g.stage.unmade, right_begin o.setup (spans_in (caller_at cs c).call).list effect (call c past) g.y past g.call_is (planned_begin c effect g))

-- and marks the slot of a deletion or a move

pub mark_marks : (effect mark : Effect) → mark_of effect ≡ Some mark → is_mark mark ≡ true
mark_marks (NoSlot slot) (Mark k) e = refl
mark_marks (Move slot base) (Mark k) e = refl
mark_marks (NoSlot slot) _ e = absurd (cc)
mark_marks (Move slot base) _ e = absurd (cc)
mark_marks _ mark e = absurd (cc)

-- a mark moves no caller
pub marked : {s : Setup} {cs : List Caller} {past : List Entry} (t c : ℕ) (effect mark : Effect) → mark_of effect ≡ Some mark → CallersStand s cs past → CallersStand s cs (by t c (Change mark) ∷ past)
marked {past = past} t c effect mark e st = quiet (by t c (Change mark)) past (ap not (mark_marks effect mark e)) st

mark_due : (s : Setup) (mark : Effect) (y : Past) (b : Bracket) (past : List Entry) → is_mark mark ≡ true → y.made ≡ false → length past ≡ suc b.begun → Changes s mark (Some y) (Some b) past
mark_due s mark y b past k made due = (made, subst (λ (t : Bool). IsDueBy t (length past) y.judged (plan_of s y past) (Some b)) (sym k) due)

mark_right : (s : Setup) (effect mark : Effect) (ss : List Extent) (y : Past) (past : List Entry) → is_mark mark ≡ true → mark_of effect ≡ Some mark → plan_of s y past ≡ Bracketed effect ss → RightChange s mark (Some y) past
mark_right s effect mark ss y past k e p = subst (λ (t : Bool). IsChange t mark (plan_of s y past)) (sym k) (subst (λ (q : Plan). IsMark mark q) (sym p) e)

pub may_mark : (o : Orders) {cs : List Caller} {past : List Entry} (t c : ℕ) (effect mark : Effect) → CallersStand o.setup cs past → c < o.setup.callers → IsAt effect None (caller_at cs c).call → mark_of effect ≡ Some mark → May o (Change mark) (OfCaller c) (by t c (Begin (spans_in (caller_at cs c).call)) ∷ past)
may_mark o {cs = cs} {past = past} t c effect mark st lt at e =
    let g = in_bracket c effect None st lt at in
    let ss : Roomy = spans_in (caller_at cs c).call in
    let w : Entry = by t c (Begin ss) in
    let b : Bracket = record { begun = length past; spans = ss.list; acked = false } in
    let k = mark_marks effect mark e in
    let here : bracket c (w ∷ past) ≡ Some b = rw (self c) refl in (
      subst (λ (z : Option Past). Changes o.setup mark z (bracket c (w ∷ past)) (w ∷ past)) (sym g.call_is)
          (subst (λ (z : Option Bracket). Changes o.setup mark (Some g.y) z (w ∷ past)) (sym here) (mark_due o.setup mark g.y b (w ∷ past) k g.stage.unmade refl)),
      subst (λ (z : Option Past). RightChange o.setup mark z (w ∷ past)) (sym g.call_is)
          (mark_right o.setup effect mark ss.list g.y (w ∷ past) k e (plan_keep o.setup g.y w past g.ties.so_far ∙ planned_begin c effect g)),
    )

-- the rows of the turn that begins

begin_row : (s : Setup) (c : ℕ) (effect : Effect) (ss : List Extent) (roomy : Roomy) (ws : List What) (y : Past) (past : List Entry) → call c past ≡ Some y → plan_of s y past ≡ Bracketed effect ss → is_marking (mark_of effect) ws ≡ true → is_row s (OfCaller c) (Begin roomy ∷ ws) past ≡ true
begin_row s c effect ss roomy ws y past e p h = ap (λ (z : Option Past). begins_by s z ws past) e ∙ (ap (λ (q : Plan). is_begin_row q ws) p ∙ h)

pub row_begin : {s : Setup} {cs : List Caller} {past : List Entry} (c : ℕ) (effect : Effect) (spans : Roomy) → CallersStand s cs past → c < s.callers → IsAt effect None (caller_at cs c).call → mark_of effect ≡ None → is_row s (OfCaller c) (Begin spans ∷ []) past ≡ true
row_begin {s = s} {cs = cs} {past = past} c effect spans st lt at e =
    let g = in_bracket c effect None st lt at in
    begin_row s c effect (spans_in (caller_at cs c).call).list spans [] g.y past g.call_is (planned_begin c effect g) (ap (λ (m : Option Effect). is_marking m []) e)

pub row_mark : {s : Setup} {cs : List Caller} {past : List Entry} (c : ℕ) (effect mark : Effect) (spans : Roomy) → CallersStand s cs past → c < s.callers → IsAt effect None (caller_at cs c).call → mark_of effect ≡ Some mark → is_row s (OfCaller c) (Begin spans ∷ Change mark ∷ []) past ≡ true
row_mark {s = s} {cs = cs} {past = past} c effect mark spans st lt at e =
    let g = in_bracket c effect None st lt at in
    begin_row s c effect (spans_in (caller_at cs c).call).list spans (Change mark ∷ []) g.y past g.call_is (planned_begin c effect g) (ap (λ (m : Option Effect). is_marking m (Change mark ∷ [])) e ∙ mark_marks effect mark e)

-- it is acknowledged, or waits for a vCPU

-- the bracket of a call that has begun it
record Open (cs : List Caller) (c : ℕ) (past : List Entry) : Type 0 where
  b : Bracket
  bracket_is : bracket c past ≡ Some b
  asked_is : Asked (request_in (caller_at cs c).call) b past

open_bracket : {s : Setup} {cs : List Caller} {past : List Entry} (c : ℕ) (effect : Effect) → CallersStand s cs past → c < s.callers → IsAt effect (Some step.Begin) (caller_at cs c).call → Open cs c past
open_bracket {s = s} {cs = cs} {past = past} c effect st lt at =
    let g = in_bracket c effect (Some step.Begin) st lt at in
    let z = begun_is effect g.x.request g.y.made (bracket c past) (plan_of s g.y past) past g.stage in
    record { b = z.0; bracket_is = z.1; asked_is = subst (λ (p : Option InProgress). Asked (request_in p) z.0 past) (sym g.is_x) z.2.asked_is }

-- each vCPU inside has flushed since
pub all_flushed : {s : Setup} {cs : List Caller} {past : List Entry} (c : ℕ) (effect : Effect) → CallersStand s cs past → c < s.callers → IsAt effect (Some step.Begin) (caller_at cs c).call → ((v : ℕ) → inside v past ≡ true → request_in (caller_at cs c).call ≤ asked_at (flushed v past) past) → Acks (bracket c past) past
all_flushed {past = past} c effect st lt at done =
    let o = open_bracket c effect st lt at in
    subst (λ (z : Option Bracket). Acks z past) (sym o.bracket_is) (
      o.asked_is.not_acked,
      λ (w : WaitsForFlush o.b past).
          let up = asked_rises (flushed w.vcpu past) o.b.begun past w.not_flushed in
          let q = o.asked_is.before_is in
          let d = done w.vcpu w.is_inside in
          absurd (omega arith),
    )

pub may_ack : (o : Orders) {cs : List Caller} {past : List Entry} (c : ℕ) (effect : Effect) → CallersStand o.setup cs past → c < o.setup.callers → IsAt effect (Some step.Begin) (caller_at cs c).call → ((v : ℕ) → inside v past ≡ true → request_in (caller_at cs c).call ≤ asked_at (flushed v past) past) → May o Acked (OfCaller c) past
may_ack o c effect st lt at done = all_flushed c effect st lt at done

-- a vCPU inside has not
le_or : (a b : ℕ) → (b < a → ⊥) → a ≤ b
le_or a b h = elim (cases_Bool (leb a b)) [ inl e ↦ yes a b e | inr e ↦ absurd (h (over a b e)) ]
  where
    yes : (a b : ℕ) → leb a b ≡ true → a ≤ b
    yes a b e = grind (arith, nat_tests)

    over : (a b : ℕ) → leb a b ≡ false → b < a
    over a b e = grind (arith, nat_tests)

not_yet : (r v : ℕ) (b : Bracket) (past : List Entry) → Asked r b past → asked_at (flushed v past) past < r → flushed v past ≤ b.begun
not_yet r v b past asked less = le_or (flushed v past) b.begun (λ after.
    let up = asked_rises (suc b.begun) (flushed v past) past after in
    let q = asked.request_is in
    omega arith)

pub waits_inside : {s : Setup} {cs : List Caller} {past : List Entry} (c v : ℕ) (effect : Effect) → CallersStand s cs past → c < s.callers → IsAt effect (Some step.Begin) (caller_at cs c).call → inside v past ≡ true → asked_at (flushed v past) past < request_in (caller_at cs c).call → WaitsToAck (bracket c past) past
waits_inside {cs = cs} {past = past} c v effect st lt at i less =
    let o = open_bracket c effect st lt at in
    subst (λ (z : Option Bracket). WaitsToAck z past) (sym o.bracket_is) (
      o.asked_is.not_acked,
      record { vcpu = v; is_inside = i; not_flushed = not_yet (request_in (caller_at cs c).call) v o.b past o.asked_is less },
    )

-- this vCPU is the least that has not
pub waits_on_vcpu : {s : Setup} {cs : List Caller} {past : List Entry} (c v : ℕ) (effect : Effect) → CallersStand s cs past → c < s.callers → IsAt effect (Some step.Begin) (caller_at cs c).call → inside v past ≡ true → asked_at (flushed v past) past < request_in (caller_at cs c).call → ((u : ℕ) → u < v → inside u past ≡ true → request_in (caller_at cs c).call ≤ asked_at (flushed u past) past) → WaitsOnVcpu c v past
waits_on_vcpu {cs = cs} {past = past} c v effect st lt at i less done =
    let o = open_bracket c effect st lt at in
    record {
      waits = waits_inside c v effect st lt at i less;
      unflushed = subst (λ (z : Option Bracket). IsUnflushed z v past) (sym o.bracket_is) (i, not_yet (request_in (caller_at cs c).call) v o.b past o.asked_is less);
      least = λ u before h. flushed_first (request_in (caller_at cs c).call) u o.b past o.asked_is (done u before) (subst (λ (z : Option Bracket). IsUnflushed z u past) o.bracket_is h);
    }
  where
    flushed_first : (r u : ℕ) (b : Bracket) (past : List Entry) → Asked r b past → (inside u past ≡ true → r ≤ asked_at (flushed u past) past) → (inside u past ≡ true) × (flushed u past ≤ b.begun) → ⊥
    flushed_first r u b past asked done h =
        let up = asked_rises (flushed u past) b.begun past h.1 in
        let q = asked.before_is in
        let d = done h.0 in
        omega arith

-- it makes its change

pub unmarked : {s : Setup} {cs : List Caller} {past : List Entry} (c : ℕ) (effect : Effect) → CallersStand s cs past → c < s.callers → IsAt effect (Some step.Acked) (caller_at cs c).call → is_mark effect ≡ false
unmarked {s = s} {past = past} c effect st lt at =
    let g = in_bracket c effect (Some step.Acked) st lt at in
    let z = acked_is effect g.x.request g.y.made (bracket c past) (plan_of s g.y past) past g.stage in
    bracket_unmarked s g.y.ioctl (flat_at g.y.judged past) effect z.0.spans z.2.is_bracket

change_due : (s : Setup) (effect : Effect) (y : Past) (b : Bracket) (past : List Entry) → is_mark effect ≡ false → y.made ≡ false → plan_of s y past ≡ Bracketed effect b.spans → b.acked ≡ true → Changes s effect (Some y) (Some b) past
change_due s effect y b past k made p a =
    (made, subst (λ (t : Bool). IsDueBy t (length past) y.judged (plan_of s y past) (Some b)) (sym k) (subst (λ (q : Plan). IsDue (length past) y.judged q (Some b)) (sym p) a))

change_right : (s : Setup) (effect : Effect) (ss : List Extent) (y : Past) (past : List Entry) → is_mark effect ≡ false → plan_of s y past ≡ Bracketed effect ss → RightChange s effect (Some y) past
change_right s effect ss y past k p = subst (λ (t : Bool). IsChange t effect (plan_of s y past)) (sym k) (subst (λ (q : Plan). IsEffect effect q) (sym p) refl)

pub may_change : (o : Orders) {cs : List Caller} {past : List Entry} (c : ℕ) (effect : Effect) → CallersStand o.setup cs past → c < o.setup.callers → IsAt effect (Some step.Acked) (caller_at cs c).call → May o (Change effect) (OfCaller c) past
may_change o {past = past} c effect st lt at =
    let g = in_bracket c effect (Some step.Acked) st lt at in
    let z = acked_is effect g.x.request g.y.made (bracket c past) (plan_of o.setup g.y past) past g.stage in
    let k = unmarked c effect st lt at in (
      subst (λ (x : Option Past). Changes o.setup effect x (bracket c past) past) (sym g.call_is)
          (subst (λ (b : Option Bracket). Changes o.setup effect (Some g.y) b past) (sym z.1) (change_due o.setup effect g.y z.0 past k z.2.made_is z.2.is_bracket z.2.is_acked)),
      subst (λ (x : Option Past). RightChange o.setup effect x past) (sym g.call_is) (change_right o.setup effect z.0.spans g.y past k z.2.is_bracket),
    )

pub row_change : (s : Setup) (c : ℕ) (effect : Effect) (ws : List What) (past : List Entry) → is_mark effect ≡ false → are_frees ws ≡ true → is_row s (OfCaller c) (Change effect ∷ ws) past ≡ true
row_change s c effect ws past k f = ap (λ (t : Bool). not t && are_frees ws) k ∙ f

-- it ends, and the call is answered

ends : (x : Option Past) (b : Option Bracket) (y : Past) (z : Bracket) → x ≡ Some y → b ≡ Some z → y.made ≡ true → Ends x b
ends x b y z e f h = rw (e, f) h

pub may_end : (o : Orders) {cs : List Caller} {past : List Entry} (c : ℕ) (effect : Effect) → CallersStand o.setup cs past → c < o.setup.callers → IsAt effect (Some step.Change) (caller_at cs c).call → May o End (OfCaller c) past
may_end o {past = past} c effect st lt at =
    let g = in_bracket c effect (Some step.Change) st lt at in
    let z = changed_is effect g.x.request g.y.made (bracket c past) (plan_of o.setup g.y past) past g.stage in
    ends (call c past) (bracket c past) g.y z.0 g.call_is z.1 z.2.made_is

pub may_answer : (o : Orders) {cs : List Caller} {past : List Entry} (t c : ℕ) (effect : Effect) → CallersStand o.setup cs past → c < o.setup.callers → IsAt effect (Some step.Change) (caller_at cs c).call → May o (Answer (Good 0)) (OfCaller c) (by t c End ∷ past)
may_answer o {past = past} t c effect st lt at =
    let g = in_bracket c effect (Some step.Change) st lt at in
    let z = changed_is effect g.x.request g.y.made (bracket c past) (plan_of o.setup g.y past) past g.stage in
    let new : List Entry = by t c End ∷ past in (
      rw (self c) refl,
      subst (λ (x : Option Past). RightAnswer o.setup (Good 0) x new) (sym g.call_is)
          (subst (λ (q : Plan). IsAnswer o.setup (Good 0) g.y q new) (sym (plan_keep o.setup g.y (by t c End) past g.ties.so_far ∙ z.2.is_bracket)) (z.2.made_is, refl)),
    )
