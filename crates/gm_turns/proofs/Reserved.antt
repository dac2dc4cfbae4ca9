-- A caller with room for its next turn stands for the same history.
use Rattle.std.proofs.Common.{◌≡◌, ℕ, ◌<◌, List, Bool, length, get_or, set, Option, Some, None, arith, refl, ◌∙◌, ap, sym, subst, eqb, inl, inr}
use Rattle.std.proofs.lemmas.Bool.{cases_Bool, eqb-true, eqb-false}
use Rattle.std.proofs.lemmas.List.{get_or-set_other, get_or-set_same, length-set}
use Rattle.gm_base.specs.declared.values.Setup.{Setup}
use Rattle.gm_callers.proofs.Lists.{set_each}
use Rattle.gm_callers.specs.Callers.{caller_at, no_caller}
use Rattle.gm_callers.specs.Rooming.{IsEmptyOrRoomy, IsRoomy, fitted, made, reserved, reserved_by, trimmed}
use Rattle.gm_callers.specs.Stand.{AtJudged, CallIs, CallerIs, IsJudged, OpenIs, StageIs}
use Rattle.gm_callers.specs.declared.caller.Caller.{Caller}
use Rattle.gm_callers.specs.declared.caller.InProgress.{InProgress}
use Rattle.gm_calls.specs.declared.call.Step.{Step}
use Rattle.gm_calls.specs.declared.judged.Judged.{Judged}
use Rattle.gm_calls.specs.declared.judged.Judged.TheVariants as judgement
use Rattle.gm_flat.specs.Calls.{Plan}
use Rattle.gm_flat.specs.Histories.{Call as Past, Bracket, bracket, call}
use Rattle.gm_flat.specs.Roomy.{Roomy}
use Rattle.gm_flat.specs.declared.entry.Entry.{Entry}
use Rattle.gm_turns.specs.HasMoreRoom.{CallersHaveMoreRoom, judged_of}

fitted_judged : (j : Judged) (spans : Option Roomy) (plan : Plan) → IsJudged j spans plan → IsJudged j (fitted None spans) plan
fitted_judged (judgement.Bracket effect) None plan h = absurd h
fitted_judged (judgement.Bracket effect) (Some spans) plan h = h
fitted_judged (judgement.Pages q) spans plan h = h
fitted_judged (judgement.Refused errno) spans plan h = absurd h
fitted_judged (judgement.Same answer) spans plan h = absurd h
fitted_judged (judgement.Short effect answer) spans plan h = absurd h

fitted_stage : (j : Judged) (done : Option Step) (spans : Option Roomy) (request : ℕ) (is_made : Bool) (b : Option Bracket) (plan : Plan) (past : List Entry) → StageIs j done spans request is_made b plan past → StageIs j done (fitted done spans) request is_made b plan past
fitted_stage j None spans request is_made b plan past h =
    let g : AtJudged j spans is_made b plan = h in
    record { is_judged = fitted_judged j spans plan g.is_judged; unmade = g.unmade; no_bracket = g.no_bracket }
fitted_stage j (Some step) spans request is_made b plan past h = h

open_trimmed : (s : Setup) (p : InProgress) (y : Option Past) (b : Option Bracket) (past : List Entry) → OpenIs s (Some p) y b past → OpenIs s (Some (trimmed p)) y b past
open_trimmed s p None b past h = absurd h
open_trimmed s p (Some y) b past h =
    let g : CallIs s p y b past = h in
    record {
      ioctl_is = g.ioctl_is;
      so_far = g.so_far;
      locks_are = g.locks_are;
      pages_is = g.pages_is;
      unanswered = g.unanswered;
      stage_is = fitted_stage p.call.judged p.call.done p.spans p.request y.made b _ past g.stage_is;
    }

made_fit : (spans : Option Roomy) → IsEmptyOrRoomy spans → IsEmptyOrRoomy (made spans)
made_fit None h = (refl, omega arith)
made_fit (Some spans) h = h

made_roomy : (spans : Option Roomy) → IsRoomy spans → IsRoomy (made spans)
made_roomy None h = absurd h
made_roomy (Some spans) h = h

stands_by : (s : Setup) (x : Caller) (c : ℕ) (past : List Entry) (o : Option InProgress) → x.call ≡ o → CallerIs s x c past → CallerIs s (reserved_by o x) c past
stands_by s x c past None e h = record { ended_is = h.ended_is; open_is = h.open_is; gone_is = h.gone_is; spans_fit = made_fit x.spans h.spans_fit }
stands_by s x c past (Some p) e h = record {
  ended_is = h.ended_is;
  open_is = open_trimmed s p (call c past) (bracket c past) past (subst (λ (o : Option InProgress). OpenIs s o (call c past) (bracket c past) past) e h.open_is);
  gone_is = h.gone_is;
  spans_fit = h.spans_fit;
}

judged_by : (x : Caller) (o : Option InProgress) → x.call ≡ o → judged_of (reserved_by o x).call ≡ judged_of x.call
judged_by x None e = refl
judged_by x (Some p) e = sym (ap judged_of e)

roomy_by : (x : Caller) (o : Option InProgress) → IsRoomy x.spans → IsRoomy (reserved_by o x).spans
roomy_by x None h = made_roomy x.spans h
roomy_by x (Some p) h = h

-- what holds of each caller under its number holds after one is replaced
each_set : (P : ℕ → Caller → Type 0) (cs : List Caller) (c : ℕ) (x : Caller) → c < length cs → P c x → ((u : ℕ) → P u (caller_at cs u)) → (u : ℕ) → P u (caller_at (set cs c x) u)
each_set P cs c x lt here other u = elim (cases_Bool (eqb c u)) [
  | inl e ↦ let s : c ≡ u = eqb-true c u e in subst (λ (k : ℕ). P k (get_or (set cs c x) k no_caller)) s (subst (P c) (sym (get_or-set_same cs c x no_caller lt)) here)
  | inr e ↦ subst (P u) (sym (get_or-set_other cs c u x no_caller (λ s. eqb-false c u e (sym s)))) (other u)
]

pub same_callers : (cs : List Caller) → CallersHaveMoreRoom cs cs
same_callers cs = record { stands = λ s past h. h; judged = λ c. refl; roomy = λ c h. h }

pub callers_more : (cs : List Caller) (c : ℕ) → c < length cs → CallersHaveMoreRoom cs (set cs c (reserved (caller_at cs c)))
callers_more cs c lt =
    let x = caller_at cs c in
    record {
      stands = λ s past h.
          let in_setup : c < s.callers = let n = h.count_is in omega arith in
          record {
            count_is = length-set cs c (reserved x) ∙ h.count_is;
            each = λ u lu. set_each (λ (k : ℕ) (y : Caller). CallerIs s y k past) cs s.callers c (reserved x) no_caller h.count_is in_setup (stands_by s x c past x.call refl (h.each c in_setup)) (λ k lk ne. h.each k lk) u lu;
            none_beyond = h.none_beyond;
          };
      judged = each_set (λ (k : ℕ) (y : Caller). judged_of y.call ≡ judged_of (caller_at cs k).call) cs c (reserved x) lt (judged_by x x.call refl) (λ u. refl);
      roomy = each_set (λ (k : ℕ) (y : Caller). IsRoomy (caller_at cs k).spans → IsRoomy y.spans) cs c (reserved x) lt (roomy_by x x.call) (λ u h. h);
    }
