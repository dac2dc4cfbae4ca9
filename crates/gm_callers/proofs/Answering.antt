-- Turns that answer a call, and what is done for a caller beside its entries.
use Rattle.std.proofs.Common.{◌≡◌, ℕ, ◌+◌, ◌<◌, List, [], ◌∷◌, set, suc, Option, Some, None, arith, refl, ◌∙◌}
use Rattle.gm_base.specs.declared.calls.Ioctl.{Ioctl}
use Rattle.gm_base.specs.declared.values.Actor.TheVariants.{Caller as OfCaller}
use Rattle.gm_base.specs.declared.values.Setup.{Setup}
use Rattle.gm_calls.specs.declared.call.Step.{Step}
use Rattle.gm_calls.specs.declared.judged.Judged.{Judged}
use Rattle.gm_calls.specs.declared.judged.Judged.TheVariants as judgement
use Rattle.gm_flat.specs.Calls.{Plan}
use Rattle.gm_flat.specs.Histories.{Call as Past, call, Bracket, bracket, done}
use Rattle.gm_flat.specs.RightLives.{plan_of}
use Rattle.gm_flat.specs.Roomy.{Roomy}
use Rattle.gm_flat.specs.declared.effect.Effect.{Effect}
use Rattle.gm_flat.specs.declared.effect.Reply.{Reply}
use Rattle.gm_flat.specs.declared.entry.Entry.{Entry}
use Rattle.gm_flat.specs.declared.entry.What.TheVariants.{Judge, Change, End, Answer}
use Rattle.gm_callers.proofs.Lists.{self}
use Rattle.gm_callers.proofs.Moves.{by, idle, moved}
use Rattle.gm_callers.specs.Callers.{answered, caller_at, without_room}
use Rattle.gm_callers.specs.Rooming.{IsEmptyOrRoomy, fitted, made, reserved, reserved_by, trimmed}
use Rattle.gm_callers.specs.Stand.{CallIs, CallersStand, IsJudged, OpenIs, StageIs}
use Rattle.gm_callers.specs.declared.caller.Caller.{Caller}
use Rattle.gm_callers.specs.declared.caller.InProgress.{InProgress}

plus_one : (a b : ℕ) → a ≡ b → a + 1 ≡ suc b
plus_one a b h = omega arith

-- its call is answered, outside a bracket
pub answers : {s : Setup} {cs : List Caller} {past : List Entry} (t c : ℕ) (reply : Reply) → CallersStand s cs past → c < s.callers → bracket c past ≡ None → CallersStand s (set cs c (answered (caller_at cs c))) (by t c (Answer reply) ∷ past)
answers {s = s} {cs = cs} {past = past} t c reply st lt none =
    let old = st.each c lt in
    moved t c (Answer reply ∷ []) past (answered (caller_at cs c)) st lt
    (record {
      ended_is = rw (self c) (plus_one (caller_at cs c).ended (done (OfCaller c) past) old.ended_is);
      gone_is = old.gone_is;
      spans_fit = old.spans_fit;
      open_is = rw (self c, none) tt;
    })

-- its bracket ends, and its call is answered in the same turn
pub ended : {s : Setup} {cs : List Caller} {past : List Entry} (t c : ℕ) (reply : Reply) → CallersStand s cs past → c < s.callers → CallersStand s (set cs c (answered (caller_at cs c))) (by t c (Answer reply) ∷ by t c End ∷ past)
ended {s = s} {cs = cs} {past = past} t c reply st lt =
    let old = st.each c lt in
    moved t c (End ∷ Answer reply ∷ []) past (answered (caller_at cs c)) st lt
    (record {
      ended_is = rw (self c) (plus_one (caller_at cs c).ended (done (OfCaller c) past) old.ended_is);
      gone_is = old.gone_is;
      spans_fit = old.spans_fit;
      open_is = rw (self c) tt;
    })

-- its call is judged and answered in one turn
pub stayed : {s : Setup} {cs : List Caller} {past : List Entry} (t c : ℕ) (i : Ioctl) (reply : Reply) → CallersStand s cs past → c < s.callers → (caller_at cs c).call ≡ None → CallersStand s (set cs c (answered (caller_at cs c))) (by t c (Answer reply) ∷ by t c (Judge i) ∷ past)
stayed {s = s} {cs = cs} {past = past} t c i reply st lt none =
    let old = st.each c lt in
    let n = idle c st lt none in
    moved t c (Judge i ∷ Answer reply ∷ []) past (answered (caller_at cs c)) st lt
    (record {
      ended_is = rw (self c) (plus_one (caller_at cs c).ended (done (OfCaller c) past) old.ended_is);
      gone_is = old.gone_is;
      spans_fit = old.spans_fit;
      open_is = rw (self c, n.1) tt;
    })

-- it is judged, makes its change and is answered in one turn
pub at_once : {s : Setup} {cs : List Caller} {past : List Entry} (t c : ℕ) (i : Ioctl) (effect : Effect) (reply : Reply) → CallersStand s cs past → c < s.callers → (caller_at cs c).call ≡ None → CallersStand s (set cs c (answered (caller_at cs c))) (by t c (Answer reply) ∷ by t c (Change effect) ∷ by t c (Judge i) ∷ past)
at_once {s = s} {cs = cs} {past = past} t c i effect reply st lt none =
    let old = st.each c lt in
    let n = idle c st lt none in
    moved t c (Judge i ∷ Change effect ∷ Answer reply ∷ []) past (answered (caller_at cs c)) st lt
    (record {
      ended_is = rw (self c) (plus_one (caller_at cs c).ended (done (OfCaller c) past) old.ended_is);
      gone_is = old.gone_is;
      spans_fit = old.spans_fit;
      open_is = rw (self c, n.1) tt;
    })

-- its spans for the judgement of a call are taken
pub taken : {s : Setup} {cs : List Caller} {past : List Entry} (c : ℕ) → CallersStand s cs past → c < s.callers → CallersStand s (set cs c (without_room (caller_at cs c))) past
taken {cs = cs} {past = past} c st lt =
    let old = st.each c lt in
    moved 0 c [] past (without_room (caller_at cs c)) st lt (record { ended_is = old.ended_is; gone_is = old.gone_is; spans_fit = tt; open_is = old.open_is })

-- room is made for its next turn
made_fits : (o : Option Roomy) → IsEmptyOrRoomy o → IsEmptyOrRoomy (made o)
made_fits None h = (refl, omega arith)
made_fits (Some ss) h = h

fits_still : (p : Option InProgress) (x : Caller) → IsEmptyOrRoomy x.spans → IsEmptyOrRoomy (reserved_by p x).spans
fits_still None x h = made_fits x.spans h
fits_still (Some p) x h = h

ended_still : (p : Option InProgress) (x : Caller) → (reserved_by p x).ended ≡ x.ended
ended_still None x = refl
ended_still (Some p) x = refl

gone_still : (p : Option InProgress) (x : Caller) → (reserved_by p x).gone ≡ x.gone
gone_still None x = refl
gone_still (Some p) x = refl

judged_still : (j : Judged) (spans : Option Roomy) (p : Plan) → IsJudged j spans p → IsJudged j (fitted None spans) p
judged_still (judgement.Bracket effect) (Some ss) p h = h
judged_still (judgement.Bracket effect) None p h = absurd h
judged_still (judgement.Pages q) spans p h = h
judged_still (judgement.Refused errno) spans p h = absurd h
judged_still (judgement.Same answer) spans p h = absurd h
judged_still (judgement.Short effect answer) spans p h = absurd h

stage_still : (j : Judged) (o : Option Step) (spans : Option Roomy) (r : ℕ) (y : Past) (b : Option Bracket) (p : Plan) (past : List Entry) → StageIs j o spans r y.made b p past → StageIs j o (fitted o spans) r y.made b p past
stage_still j None spans r y b p past h = record { is_judged = judged_still j spans p h.is_judged; unmade = h.unmade; no_bracket = h.no_bracket }
stage_still j (Some step) spans r y b p past h = h

call_still : (s : Setup) (x : InProgress) (y : Past) (b : Option Bracket) (past : List Entry) → CallIs s x y b past → CallIs s (trimmed x) y b past
call_still s x y b past h = record {
  ioctl_is = h.ioctl_is;
  so_far = h.so_far;
  locks_are = h.locks_are;
  pages_is = h.pages_is;
  unanswered = h.unanswered;
  stage_is = stage_still x.call.judged x.call.done x.spans x.request y b (plan_of s y past) past h.stage_is;
}

open_still : (s : Setup) (p : Option InProgress) (x : Caller) (y : Option Past) (b : Option Bracket) (past : List Entry) → x.call ≡ p → OpenIs s p y b past → OpenIs s (reserved_by p x).call y b past
open_still s None x None None past e h = rw e tt
open_still s (Some p) x (Some y) b past e h = call_still s p y b past h
open_still s None x (Some y) b past e h = absurd h
open_still s None x None (Some b) past e h = absurd h
open_still s (Some p) x None b past e h = absurd h

pub roomed : {s : Setup} {cs : List Caller} {past : List Entry} (c : ℕ) → CallersStand s cs past → c < s.callers → CallersStand s (set cs c (reserved (caller_at cs c))) past
roomed {s = s} {cs = cs} {past = past} c st lt =
    let old = st.each c lt in
    let x = caller_at cs c in
    moved 0 c [] past (reserved x) st lt
    (record {
      ended_is = ended_still x.call x ∙ old.ended_is;
      gone_is = gone_still x.call x ∙ old.gone_is;
      spans_fit = fits_still x.call x old.spans_fit;
      open_is = open_still s x.call x (call c past) (bracket c past) past refl old.open_is;
    })
