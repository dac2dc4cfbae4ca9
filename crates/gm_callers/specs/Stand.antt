-- How the callers stand for a history.
use Rattle.std.specs.Prelude.{◌≡◌, ℕ, suc, ◌<◌, ◌≤◌, List, Bool, true, false, not, length, Option, Some, None}
use Rattle.gm_base.specs.declared.values.Actor.{Actor}
use Rattle.gm_base.specs.declared.values.Actor.TheVariants.{Vcpu, Caller as OfCaller}
use Rattle.gm_base.specs.declared.values.Setup.{Setup}
use Rattle.gm_calls.specs.Judgements.{pages_of}
use Rattle.gm_calls.specs.LockSets.{HasItsLocks}
use Rattle.gm_calls.specs.declared.call.Step.{Step}
use Rattle.gm_calls.specs.declared.call.Step.TheVariants.{Begin, Acked, Change, PageStep}
use Rattle.gm_calls.specs.declared.judged.Judged.{Judged}
use Rattle.gm_calls.specs.declared.judged.Judged.TheVariants as judgement
use Rattle.gm_calls.specs.declared.judged.PagePlan.{PagePlan}
use Rattle.gm_flat.specs.Calls.{Plan, Bracketed, Paged}
use Rattle.gm_flat.specs.Histories.{Call as Past, call, Bracket, bracket, gone, done, is_mark}
use Rattle.gm_flat.specs.Replay.{flat_at}
use Rattle.gm_flat.specs.RightLives.{plan_of}
use Rattle.gm_flat.specs.Roomy.{Roomy}
use Rattle.gm_flat.specs.declared.effect.Effect.{Effect}
use Rattle.gm_flat.specs.declared.entry.Entry.{Entry}
use Rattle.gm_flat.specs.declared.entry.What.{What}
use Rattle.gm_flat.specs.declared.entry.What.TheVariants.{Free, Change as ChangeEntry}
use Rattle.gm_laws.specs.Counting.{asked_at}
use Rattle.gm_callers.specs.Callers.{caller_at}
use Rattle.gm_callers.specs.Rooming.{IsEmptyOrRoomy}
use Rattle.gm_callers.specs.declared.caller.Caller.{Caller}
use Rattle.gm_callers.specs.declared.caller.InProgress.{InProgress}

-- whether an entry moves a caller: entries of vCPUs, frees and marks don't
abbrev pub moves_callers : What → Actor → Bool
moves_callers w (Vcpu v) = false
moves_callers (Free folio pages) (OfCaller c) = false
moves_callers (ChangeEntry effect) (OfCaller c) = not (is_mark effect)
moves_callers w (OfCaller c) = true

-- what a call that goes on was judged to be is its plan: a bracket with its spans, or pages
abbrev pub IsJudged : Judged → Option Roomy → Plan → Type 0
IsJudged (judgement.Bracket effect) (Some spans) plan = plan ≡ Bracketed effect spans.list
IsJudged (judgement.Bracket effect) None plan = ⊥
IsJudged (judgement.Pages q) spans plan = plan ≡ Paged (pages_of q)
IsJudged (judgement.Refused errno) spans plan = ⊥
IsJudged (judgement.Same answer) spans plan = ⊥
IsJudged (judgement.Short effect answer) spans plan = ⊥

-- a bracket that isn't acknowledged: the number of its request is one more than the Begins before its own
pub record Asked (request : ℕ) (b : Bracket) (past : List Entry) : Type 0 where
  pub not_acked : b.acked ≡ false
  pub so_far : b.begun < length past
  pub before_is : request ≡ suc (asked_at b.begun past)
  pub request_is : request ≡ asked_at (suc b.begun) past

-- a call that has done no step after its judgement: it hasn't made its change, and has no bracket
pub record AtJudged (j : Judged) (spans : Option Roomy) (made : Bool) (b : Option Bracket) (plan : Plan) : Type 0 where
  pub is_judged : IsJudged j spans plan
  pub unmade : made ≡ false
  pub no_bracket : b ≡ None

-- a call whose bracket has begun, been acknowledged, or made its change
pub record AtBegun (effect : Effect) (request : ℕ) (made : Bool) (b : Bracket) (plan : Plan) (past : List Entry) : Type 0 where
  pub is_bracket : plan ≡ Bracketed effect b.spans
  pub unmade : made ≡ false
  pub asked_is : Asked request b past

pub record AtAcked (effect : Effect) (made is_made : Bool) (b : Bracket) (plan : Plan) : Type 0 where
  pub is_bracket : plan ≡ Bracketed effect b.spans
  pub made_is : made ≡ is_made
  pub is_acked : b.acked ≡ true

-- a bracket by the step done
abbrev pub BracketIs : Effect → Step → ℕ → Bool → Option Bracket → Plan → List Entry → Type 0
BracketIs effect Begin request made (Some b) plan past = AtBegun effect request made b plan past
BracketIs effect Acked request made (Some b) plan past = AtAcked effect made false b plan
BracketIs effect Change request made (Some b) plan past = AtAcked effect made true b plan
BracketIs effect step request made b plan past = ⊥

-- a call that adds pages, after a page
abbrev pub PagesAre : PagePlan → Step → Bool → Option Bracket → Plan → Type 0
PagesAre q PageStep made b plan = AtJudged (judgement.Pages q) None made b plan
PagesAre q step made b plan = ⊥

-- by what was judged and the last step done
abbrev pub StageIs : Judged → Option Step → Option Roomy → ℕ → Bool → Option Bracket → Plan → List Entry → Type 0
StageIs j None spans request made b plan past = AtJudged j spans made b plan
StageIs (judgement.Bracket effect) (Some step) spans request made b plan past = BracketIs effect step request made b plan past
StageIs (judgement.Pages q) (Some step) spans request made b plan past = PagesAre q step made b plan
StageIs (judgement.Refused errno) (Some step) spans request made b plan past = ⊥
StageIs (judgement.Same answer) (Some step) spans request made b plan past = ⊥
StageIs (judgement.Short effect answer) (Some step) spans request made b plan past = ⊥

-- a call in progress is the history's; its locks and its plan are those at its Judge
pub record CallIs (s : Setup) (x : InProgress) (y : Past) (b : Option Bracket) (past : List Entry) : Type 0 where
  pub ioctl_is : x.call.ioctl ≡ y.ioctl
  pub so_far : y.judged ≤ length past
  pub locks_are : HasItsLocks x.call.locks y.ioctl (flat_at y.judged past)
  pub pages_is : x.call.pages ≡ y.pages
  pub unanswered : x.call.answered ≡ false
  pub stage_is : StageIs x.call.judged x.call.done x.spans x.request y.made b (plan_of s y past) past

-- a caller has a call in progress exactly where the history has one
abbrev pub OpenIs : Setup → Option InProgress → Option Past → Option Bracket → List Entry → Type 0
OpenIs s None None None past = Unit {0}
OpenIs s (Some x) (Some y) b past = CallIs s x y b past
OpenIs s _ y b past = ⊥

pub record CallerIs (s : Setup) (x : Caller) (c : ℕ) (past : List Entry) : Type 0 where
  pub ended_is : x.ended ≡ done (OfCaller c) past
  pub open_is : OpenIs s x.call (call c past) (bracket c past) past
  pub gone_is : x.gone ≡ gone (OfCaller c) past
  pub spans_fit : IsEmptyOrRoomy x.spans

pub record CallersStand (s : Setup) (cs : List Caller) (past : List Entry) : Type 0 where
  pub count_is : length cs ≡ s.callers
  pub each : (c : ℕ) → c < s.callers → CallerIs s (caller_at cs c) c past
  pub none_beyond : (c : ℕ) → s.callers ≤ c → (call c past ≡ None) × (bracket c past ≡ None)

-- the call in progress makes this change in a bracket, and this is its last step
abbrev pub IsAt : Effect → Option Step → Option InProgress → Type 0
IsAt effect step None = ⊥
IsAt effect step (Some x) = (x.call.judged ≡ judgement.Bracket effect) × (x.call.done ≡ step)

-- the call in progress adds these pages
abbrev pub AddsPages : PagePlan → Option InProgress → Type 0
AddsPages q None = ⊥
AddsPages q (Some x) = x.call.judged ≡ judgement.Pages q
