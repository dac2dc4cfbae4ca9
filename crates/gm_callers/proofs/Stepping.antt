-- The steps of a call in progress.
use Rattle.std.proofs.Common.{◌≡◌, ℕ, ◌<◌, List, Bool, true, false, Option, Some, None, IsSome, subst, sym, refl, ◌∙◌, ap, cond}
use Rattle.std.proofs.lemmas.Bool.{both_ways}
use Rattle.gm_base.specs.declared.values.Setup.{Setup}
use Rattle.gm_calls.specs.Steps.{IsInOrder, after_in_bracket, after_in_row, is_at_end, is_of_row, step_after}
use Rattle.gm_calls.specs.declared.call.Step.{Step}
use Rattle.gm_calls.specs.declared.call.Step.TheVariants as step
use Rattle.gm_calls.specs.declared.judged.Judged.{Judged}
use Rattle.gm_calls.specs.declared.judged.Judged.TheVariants as judgement
use Rattle.gm_calls.specs.declared.judged.PagePlan.{PagePlan}
use Rattle.gm_flat.specs.Calls.{Plan}
use Rattle.gm_flat.specs.Histories.{Bracket, bracket}
use Rattle.gm_flat.specs.RightLives.{plan_of}
use Rattle.gm_flat.specs.Roomy.{Roomy}
use Rattle.gm_flat.specs.declared.effect.Effect.{Effect}
use Rattle.gm_flat.specs.declared.entry.Entry.{Entry}
use Rattle.gm_callers.proofs.Moves.{going, in_bracket}
use Rattle.gm_callers.specs.Callers.{HasSpans, IsThere, caller_at, spans_of}
use Rattle.gm_callers.specs.Stand.{AddsPages, CallersStand, IsAt, IsJudged, StageIs}
use Rattle.gm_callers.specs.declared.caller.Caller.{Caller}
use Rattle.gm_callers.specs.declared.caller.InProgress.{InProgress}

-- a call in progress is in order
of_row : (j : Judged) (o : Option Step) (spans : Option Roomy) (r : ℕ) (made : Bool) (b : Option Bracket) (p : Plan) (past : List Entry) → StageIs j o spans r made b p past → is_of_row j o ≡ true
of_row j None spans r made b p past h = refl
of_row (judgement.Bracket effect) (Some step.Begin) spans r made b p past h = refl
of_row (judgement.Bracket effect) (Some step.Acked) spans r made b p past h = refl
of_row (judgement.Bracket effect) (Some step.Change) spans r made b p past h = refl
of_row (judgement.Pages q) (Some step.PageStep) spans r made b p past h = refl
of_row _ (Some _) spans r made b p past h = absurd h

not_at_end : (j : Judged) (o : Option Step) (spans : Option Roomy) (r : ℕ) (made : Bool) (b : Option Bracket) (p : Plan) (past : List Entry) → StageIs j o spans r made b p past → is_at_end j o ≡ false
not_at_end (judgement.Bracket effect) None spans r made b p past h = refl
not_at_end (judgement.Pages q) None spans r made b p past h = refl
not_at_end (judgement.Refused errno) None spans r made b p past h = absurd h.is_judged
not_at_end (judgement.Same answer) None spans r made b p past h = absurd h.is_judged
not_at_end (judgement.Short effect answer) None spans r made b p past h = absurd h.is_judged
not_at_end (judgement.Bracket effect) (Some step.Begin) spans r made b p past h = refl
not_at_end (judgement.Bracket effect) (Some step.Acked) spans r made b p past h = refl
not_at_end (judgement.Bracket effect) (Some step.Change) spans r made b p past h = refl
not_at_end (judgement.Pages q) (Some step.PageStep) spans r made b p past h = refl
not_at_end _ (Some _) spans r made b p past h = absurd h

pub in_order : {s : Setup} {cs : List Caller} {past : List Entry} (c : ℕ) (x : InProgress) → CallersStand s cs past → c < s.callers → (caller_at cs c).call ≡ Some x → IsInOrder x.call
in_order {s = s} {past = past} c x st lt e =
    let g = going c x st lt e in
    record {
      of_row = of_row x.call.judged x.call.done x.spans x.request g.past_call.made (bracket c past) (plan_of s g.past_call past) past g.ties.stage_is;
      answered = λ h. absurd (both_ways (is_at_end x.call.judged x.call.done) (not_at_end x.call.judged x.call.done x.spans x.request g.past_call.made (bracket c past) (plan_of s g.past_call past) past g.ties.stage_is) h);
    }

pub unanswered : {s : Setup} {cs : List Caller} {past : List Entry} (c : ℕ) (x : InProgress) → CallersStand s cs past → c < s.callers → (caller_at cs c).call ≡ Some x → x.call.answered ≡ false
unanswered c x st lt e = (going c x st lt e).ties.unanswered

-- the step that follows is that of its row
pub row_step : {s : Setup} {cs : List Caller} {past : List Entry} (c : ℕ) (x : InProgress) → CallersStand s cs past → c < s.callers → (caller_at cs c).call ≡ Some x → step_after x.call ≡ after_in_row x.call.judged x.call.done
row_step c x st lt e = ap (λ (t : Bool). cond t None (after_in_row x.call.judged x.call.done)) (unanswered c x st lt e)

-- which step was done, by the one that follows
before_begin : (o : Option Step) → after_in_bracket o ≡ Some step.Begin → o ≡ None
before_begin None e = refl
before_begin (Some step.Begin) e = absurd (cc)
before_begin (Some step.Acked) e = absurd (cc)
before_begin (Some step.Change) e = absurd (cc)
before_begin (Some step.PageStep) e = absurd (cc)
before_begin (Some step.End) e = absurd (cc)

before_acked : (o : Option Step) → after_in_bracket o ≡ Some step.Acked → o ≡ Some step.Begin
before_acked None e = absurd (cc)
before_acked (Some step.Begin) e = refl
before_acked (Some step.Acked) e = absurd (cc)
before_acked (Some step.Change) e = absurd (cc)
before_acked (Some step.PageStep) e = absurd (cc)
before_acked (Some step.End) e = absurd (cc)

before_change : (o : Option Step) → after_in_bracket o ≡ Some step.Change → o ≡ Some step.Acked
before_change None e = absurd (cc)
before_change (Some step.Begin) e = absurd (cc)
before_change (Some step.Acked) e = refl
before_change (Some step.Change) e = absurd (cc)
before_change (Some step.PageStep) e = absurd (cc)
before_change (Some step.End) e = absurd (cc)

before_end : (o : Option Step) → after_in_bracket o ≡ Some step.End → o ≡ Some step.Change
before_end None e = absurd (cc)
before_end (Some step.Begin) e = absurd (cc)
before_end (Some step.Acked) e = absurd (cc)
before_end (Some step.Change) e = refl
before_end (Some step.PageStep) e = absurd (cc)
before_end (Some step.End) e = absurd (cc)

follows : {s : Setup} {cs : List Caller} {past : List Entry} (c : ℕ) (x : InProgress) (effect : Effect) (o : Option Step) → CallersStand s cs past → c < s.callers → (caller_at cs c).call ≡ Some x → x.call.judged ≡ judgement.Bracket effect → step_after x.call ≡ o → after_in_bracket x.call.done ≡ o
follows c x effect o st lt e j a = sym (ap (λ (k : Judged). after_in_row k x.call.done) j) ∙ sym (row_step c x st lt e) ∙ a

is_at : (o : Option InProgress) (effect : Effect) (d : Option Step) (x : InProgress) → o ≡ Some x → x.call.judged ≡ judgement.Bracket effect → x.call.done ≡ d → IsAt effect d o
is_at o effect d x e j h = subst (λ (z : Option InProgress). IsAt effect d z) (sym e) (j, h)

pub at_begin : {s : Setup} {cs : List Caller} {past : List Entry} (c : ℕ) (x : InProgress) (effect : Effect) → CallersStand s cs past → c < s.callers → (caller_at cs c).call ≡ Some x → x.call.judged ≡ judgement.Bracket effect → step_after x.call ≡ Some step.Begin → IsAt effect None (caller_at cs c).call
at_begin {cs = cs} c x effect st lt e j a = is_at (caller_at cs c).call effect None x e j (before_begin x.call.done (follows c x effect (Some step.Begin) st lt e j a))

pub at_acked : {s : Setup} {cs : List Caller} {past : List Entry} (c : ℕ) (x : InProgress) (effect : Effect) → CallersStand s cs past → c < s.callers → (caller_at cs c).call ≡ Some x → x.call.judged ≡ judgement.Bracket effect → step_after x.call ≡ Some step.Acked → IsAt effect (Some step.Begin) (caller_at cs c).call
at_acked {cs = cs} c x effect st lt e j a = is_at (caller_at cs c).call effect (Some step.Begin) x e j (before_acked x.call.done (follows c x effect (Some step.Acked) st lt e j a))

pub at_change : {s : Setup} {cs : List Caller} {past : List Entry} (c : ℕ) (x : InProgress) (effect : Effect) → CallersStand s cs past → c < s.callers → (caller_at cs c).call ≡ Some x → x.call.judged ≡ judgement.Bracket effect → step_after x.call ≡ Some step.Change → IsAt effect (Some step.Acked) (caller_at cs c).call
at_change {cs = cs} c x effect st lt e j a = is_at (caller_at cs c).call effect (Some step.Acked) x e j (before_change x.call.done (follows c x effect (Some step.Change) st lt e j a))

pub at_end : {s : Setup} {cs : List Caller} {past : List Entry} (c : ℕ) (x : InProgress) (effect : Effect) → CallersStand s cs past → c < s.callers → (caller_at cs c).call ≡ Some x → x.call.judged ≡ judgement.Bracket effect → step_after x.call ≡ Some step.End → IsAt effect (Some step.Change) (caller_at cs c).call
at_end {cs = cs} c x effect st lt e j a = is_at (caller_at cs c).call effect (Some step.Change) x e j (before_end x.call.done (follows c x effect (Some step.End) st lt e j a))

-- what the methods of the callers ask for
pub bracket_open : (effect : Effect) (d : Option Step) (o : Option InProgress) → IsAt effect d o → IsSome o
bracket_open effect d None h = absurd h
bracket_open effect d (Some x) h = refl

pub pages_open : (q : PagePlan) (o : Option InProgress) → AddsPages q o → IsSome o
pages_open q None h = absurd h
pages_open q (Some x) h = refl

there : (effect : Effect) (spans : Option Roomy) (p : Plan) → IsJudged (judgement.Bracket effect) spans p → IsThere spans
there effect (Some ss) p h = tt
there effect None p h = absurd h

pub has_spans : {s : Setup} {cs : List Caller} {past : List Entry} (c : ℕ) (effect : Effect) → CallersStand s cs past → c < s.callers → IsAt effect None (caller_at cs c).call → HasSpans (caller_at cs c).call
has_spans {s = s} {cs = cs} {past = past} c effect st lt at =
    let g = in_bracket c effect None st lt at in
    subst (λ (o : Option InProgress). IsThere (spans_of o)) (sym g.is_x) (there effect g.x.spans (plan_of s g.y past) g.stage.is_judged)
