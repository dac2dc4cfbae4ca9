-- The turns of one caller: what moves it, and what that leaves of the others.
use Rattle.std.proofs.Common.{◌≡◌, ℕ, ◌+◌, ◌<◌, ◌≤◌, List, [], ◌∷◌, Bool, true, false, length, set, suc, Option, Some, None, arith, subst, sym, refl, ◌∙◌, ap, eqb, leb}
use Rattle.std.proofs.lemmas.List.{length-set}
use Rattle.std.proofs.lemmas.Bool.Decides.{nat_tests}
use Rattle.gm_base.specs.declared.calls.Ioctl.{Ioctl}
use Rattle.gm_base.specs.declared.values.Actor.TheVariants.{Caller as OfCaller}
use Rattle.gm_base.specs.declared.values.Folio.{Folio}
use Rattle.gm_base.specs.declared.values.Setup.{Setup}
use Rattle.gm_calls.specs.LockSets.{HasItsLocks}
use Rattle.gm_calls.specs.declared.call.Call.{Call}
use Rattle.gm_calls.specs.declared.call.Step.{Step}
use Rattle.gm_calls.specs.declared.call.Step.TheVariants as step
use Rattle.gm_calls.specs.declared.judged.Judged.{Judged}
use Rattle.gm_calls.specs.declared.judged.Judged.TheVariants as judgement
use Rattle.gm_calls.specs.declared.judged.PagePlan.{PagePlan}
use Rattle.gm_calls.specs.declared.lock_set.LockSet.{LockSet}
use Rattle.gm_flat.specs.Calls.{Plan, plan}
use Rattle.gm_flat.specs.FlatState.{Flat}
use Rattle.gm_flat.specs.Histories.{Call as Past, call, Bracket, bracket, is_mark}
use Rattle.gm_flat.specs.Locks.{takes}
use Rattle.gm_flat.specs.Replay.{flat, flat_at}
use Rattle.gm_flat.specs.RightLives.{plan_of}
use Rattle.gm_flat.specs.Roomy.{Roomy}
use Rattle.gm_flat.specs.declared.effect.Effect.{Effect}
use Rattle.gm_flat.specs.declared.entry.Entry.{Entry}
use Rattle.gm_flat.specs.declared.entry.What.{What}
use Rattle.gm_flat.specs.declared.entry.What.TheVariants.{Page, Gone, Judge, Begin, Acked, Change}
use Rattle.gm_laws.proofs.Counted.{asked_before}
use Rattle.gm_laws.proofs.Kit.{flat_at_all, flat_at_keep}
use Rattle.gm_laws.specs.Counting.{asked, asked_at}
use Rattle.gm_laws.specs.Turns.{onto}
use Rattle.gm_callers.proofs.Lists.{self, set_each}
use Rattle.gm_callers.proofs.Stays.{caller_stays, open_later, plan_keep, still_other}
use Rattle.gm_callers.specs.Callers.{begun, caller_at, judging, leaving, no_caller, paged, spans_in, stepped}
use Rattle.gm_callers.specs.Stand.{AddsPages, AtAcked, AtBegun, AtJudged, BracketIs, CallIs, CallerIs, CallersStand, IsAt, IsJudged, OpenIs, StageIs}
use Rattle.gm_callers.specs.declared.caller.Caller.{Caller}
use Rattle.gm_callers.specs.declared.caller.InProgress.{InProgress}

abbrev pub by : ℕ → ℕ → What → Entry
by t c w = record { turn = t; actor = OfCaller c; what = w }

beyond : (c d n : ℕ) → c < n → n ≤ d → eqb c d ≡ false
beyond c d n h k = grind (arith, nat_tests)

-- entries of another caller
others_stay : {s : Setup} (t c u : ℕ) (ws : List What) (past : List Entry) (x : Caller) → eqb c u ≡ false → CallerIs s x u past → CallerIs s x u (onto t (OfCaller c) ws past)
others_stay t c u [] past x apart h = h
others_stay {s = s} t c u (w ∷ ws) past x apart h = others_stay t c u ws (by t c w ∷ past) x apart (caller_stays s x u (by t c w) past (still_other u w (OfCaller c) apart) h)

none_stays : (t c u : ℕ) (ws : List What) (past : List Entry) → eqb c u ≡ false → (call u past ≡ None) × (bracket u past ≡ None) → (call u (onto t (OfCaller c) ws past) ≡ None) × (bracket u (onto t (OfCaller c) ws past) ≡ None)
none_stays t c u [] past apart h = h
none_stays t c u (w ∷ ws) past apart h =
    let k = still_other u w (OfCaller c) apart in
    none_stays t c u ws (by t c w ∷ past) apart (k.call_stays (length past) (call u past) ∙ h.0, k.bracket_stays (length past) (bracket u past) ∙ h.1)

-- one caller moves, by entries of its own
pub moved : {s : Setup} {cs : List Caller} (t c : ℕ) (ws : List What) (past : List Entry) (x : Caller) → CallersStand s cs past → c < s.callers → CallerIs s x c (onto t (OfCaller c) ws past) → CallersStand s (set cs c x) (onto t (OfCaller c) ws past)
moved {s = s} {cs = cs} t c ws past x st lt here = record {
  count_is = length-set cs c x ∙ st.count_is;
  each = set_each (λ (u : ℕ) (y : Caller). CallerIs s y u (onto t (OfCaller c) ws past)) cs s.callers c x no_caller st.count_is lt here (λ u lu apart. others_stay t c u ws past (caller_at cs u) apart (st.each u lu));
  none_beyond = λ u le. none_stays t c u ws past (beyond c u s.callers lt le) (st.none_beyond u le);
}

-- a caller in progress has a call in the history
pub record Going (s : Setup) (c : ℕ) (x : InProgress) (past : List Entry) : Type 0 where
  pub past_call : Past
  pub call_is : call c past ≡ Some past_call
  pub ties : CallIs s x past_call (bracket c past) past

some_same : (a b : InProgress) → Some a ≡ Some b → a ≡ b
some_same a b e = cc

some_is : (s : Setup) (o : Option InProgress) (x : InProgress) (y : Option Past) (b : Option Bracket) (past : List Entry) → o ≡ Some x → OpenIs s o y b past → (z : Past) × (y ≡ Some z) × CallIs s x z b past
some_is s (Some v) x (Some y) b past e h = (y, refl, subst (λ (w : InProgress). CallIs s w y b past) (some_same v x e) h)
some_is s (Some v) x None b past e h = absurd h
some_is s None x y b past e h = absurd (cc)

pub going : {s : Setup} {cs : List Caller} {past : List Entry} (c : ℕ) (x : InProgress) → CallersStand s cs past → c < s.callers → (caller_at cs c).call ≡ Some x → Going s c x past
going {s = s} {cs = cs} {past = past} c x st lt e =
    let g = some_is s (caller_at cs c).call x (call c past) (bracket c past) past e (st.each c lt).open_is in
    record { past_call = g.0; call_is = g.1; ties = g.2 }

-- a caller in a bracket, with its stage
pub record InBracket (s : Setup) (cs : List Caller) (c : ℕ) (effect : Effect) (o : Option Step) (past : List Entry) : Type 0 where
  pub x : InProgress
  pub is_x : (caller_at cs c).call ≡ Some x
  pub judged_is : x.call.judged ≡ judgement.Bracket effect
  pub done_is : x.call.done ≡ o
  pub y : Past
  pub call_is : call c past ≡ Some y
  pub ties : CallIs s x y (bracket c past) past
  pub stage : StageIs (judgement.Bracket effect) o x.spans x.request y.made (bracket c past) (plan_of s y past) past

at_some : (effect : Effect) (o : Option Step) (p : Option InProgress) → IsAt effect o p → (x : InProgress) × (p ≡ Some x) × (x.call.judged ≡ judgement.Bracket effect) × (x.call.done ≡ o)
at_some effect o None h = absurd h
at_some effect o (Some x) h = (x, refl, h.0, h.1)

pub in_bracket : {s : Setup} {cs : List Caller} {past : List Entry} (c : ℕ) (effect : Effect) (o : Option Step) → CallersStand s cs past → c < s.callers → IsAt effect o (caller_at cs c).call → InBracket s cs c effect o past
in_bracket {s = s} {cs = cs} {past = past} c effect o st lt at =
    let a = at_some effect o (caller_at cs c).call at in
    let x = a.0 in
    let g = going c x st lt a.1 in
    let y = g.past_call in
    record {
      x = x;
      is_x = a.1;
      judged_is = a.2;
      done_is = a.3;
      y = y;
      call_is = g.call_is;
      ties = g.ties;
      stage =
          subst (λ (j : Judged). StageIs j o x.spans x.request y.made (bracket c past) (plan_of s y past) past) a.2
          (subst (λ (d : Option Step). StageIs x.call.judged d x.spans x.request y.made (bracket c past) (plan_of s y past) past) a.3 g.ties.stage_is);
    }

-- a caller that adds pages, with its stage
pub record AddingPages (s : Setup) (cs : List Caller) (c : ℕ) (q : PagePlan) (past : List Entry) : Type 0 where
  pub x : InProgress
  pub is_x : (caller_at cs c).call ≡ Some x
  pub judged_is : x.call.judged ≡ judgement.Pages q
  pub y : Past
  pub call_is : call c past ≡ Some y
  pub ties : CallIs s x y (bracket c past) past
  pub stage : AtJudged (judgement.Pages q) None y.made (bracket c past) (plan_of s y past)

pages_some : (q : PagePlan) (p : Option InProgress) → AddsPages q p → (x : InProgress) × (p ≡ Some x) × (x.call.judged ≡ judgement.Pages q)
pages_some q None h = absurd h
pages_some q (Some x) h = (x, refl, h)

pages_stage : (q : PagePlan) (o : Option Step) (spans : Option Roomy) (r : ℕ) (made : Bool) (b : Option Bracket) (p : Plan) (past : List Entry) → StageIs (judgement.Pages q) o spans r made b p past → AtJudged (judgement.Pages q) None made b p
pages_stage q None spans r made b p past h = record { is_judged = h.is_judged; unmade = h.unmade; no_bracket = h.no_bracket }
pages_stage q (Some step.PageStep) spans r made b p past h = h
pages_stage q (Some _) spans r made b p past h = absurd h

pub adding_pages : {s : Setup} {cs : List Caller} {past : List Entry} (c : ℕ) (q : PagePlan) → CallersStand s cs past → c < s.callers → AddsPages q (caller_at cs c).call → AddingPages s cs c q past
adding_pages {s = s} {cs = cs} {past = past} c q st lt at =
    let a = pages_some q (caller_at cs c).call at in
    let x = a.0 in
    let g = going c x st lt a.1 in
    let y = g.past_call in
    record {
      x = x;
      is_x = a.1;
      judged_is = a.2;
      y = y;
      call_is = g.call_is;
      ties = g.ties;
      stage = pages_stage q x.call.done x.spans x.request y.made (bracket c past) (plan_of s y past) past (subst (λ (j : Judged). StageIs j x.call.done x.spans x.request y.made (bracket c past) (plan_of s y past) past) a.2 g.ties.stage_is);
    }

-- a caller without a call in progress
none_open : (s : Setup) (o : Option InProgress) (y : Option Past) (b : Option Bracket) (past : List Entry) → o ≡ None → OpenIs s o y b past → (y ≡ None) × (b ≡ None)
none_open s None None None past e h = (refl, refl)
none_open s None (Some y) b past e h = absurd h
none_open s None None (Some b) past e h = absurd h
none_open s (Some x) y b past e h = absurd (cc)

pub idle : {s : Setup} {cs : List Caller} {past : List Entry} (c : ℕ) → CallersStand s cs past → c < s.callers → (caller_at cs c).call ≡ None → (call c past ≡ None) × (bracket c past ≡ None)
idle {s = s} {cs = cs} {past = past} c st lt none = none_open s (caller_at cs c).call (call c past) (bracket c past) past none (st.each c lt).open_is

-- what ties a call after its Judge
locks_keep : (locks : LockSet) (y : Past) (e : Entry) (past : List Entry) → y.judged ≤ length past → HasItsLocks locks y.ioctl (flat_at y.judged past) → HasItsLocks locks y.ioctl (flat_at y.judged (e ∷ past))
locks_keep locks y e past le h lock = h lock ∙ sym (ap (λ (f : Flat). takes lock y.ioctl f) (flat_at_keep y.judged e past le))

-- the flat state at the position of an entry
pub at_before : (e : Entry) (past : List Entry) → flat_at (length past) (e ∷ past) ≡ flat past
at_before e past = flat_at_keep (length past) e past (omega arith) ∙ flat_at_all past

-- a call is judged to make its change in a bracket, or to add pages
abbrev pub call_of : Ioctl → LockSet → Judged → Call
call_of ioctl locks j = record { ioctl = ioctl; locks = locks; judged = j; done = None; pages = 0; answered = false }

pub judged : {s : Setup} {cs : List Caller} {past : List Entry} (t c : ℕ) (i : Ioctl) (locks : LockSet) (j : Judged) (spans : Option Roomy) → CallersStand s cs past → c < s.callers → (caller_at cs c).call ≡ None → HasItsLocks locks i (flat past) → IsJudged j spans (plan s i (flat past)) → CallersStand s (set cs c (judging (caller_at cs c) (call_of i locks j) spans)) (by t c (Judge i) ∷ past)
judged {s = s} {cs = cs} {past = past} t c i locks j spans st lt none held planned =
    let old = st.each c lt in
    let n = idle c st lt none in
    moved t c (Judge i ∷ []) past (judging (caller_at cs c) (call_of i locks j) spans) st lt
    (record {
      ended_is = old.ended_is;
      gone_is = old.gone_is;
      spans_fit = old.spans_fit;
      open_is =
          rw (self c, n.1)
          (record {
            ioctl_is = refl;
            so_far = omega arith;
            locks_are = λ lock. held lock ∙ sym (ap (λ (f : Flat). takes lock i f) (at_before (by t c (Judge i)) past));
            pages_is = refl;
            unanswered = refl;
            stage_is = record {
              is_judged = subst (λ (p : Plan). IsJudged j spans p) (sym (ap (λ (f : Flat). plan s i f) (at_before (by t c (Judge i)) past))) planned;
              unmade = refl;
              no_bracket = refl;
            };
          });
    })

-- it begins its bracket
asked_here : (ss : Roomy) (t c : ℕ) (past : List Entry) → asked_at (suc (length past)) (by t c (Begin ss) ∷ past) ≡ suc (asked past)
asked_here ss t c past = rw (not_le (length past)) refl
  where
    not_le : (n : ℕ) → leb (suc n) n ≡ false
    not_le n = grind (arith, nat_tests)

-- the spans of a call that is to begin its bracket
pub spans_here : (o : Option InProgress) (x : InProgress) (effect : Effect) (p : Plan) → o ≡ Some x → IsJudged (judgement.Bracket effect) x.spans p → IsJudged (judgement.Bracket effect) (Some (spans_in o)) p
spans_here (Some v) x effect p e h = by_spans v.spans (subst (λ (z : InProgress). IsJudged (judgement.Bracket effect) z.spans p) (sym (some_same v x e)) h)
  where
    by_spans : (o : Option Roomy) → IsJudged (judgement.Bracket effect) o p → IsJudged (judgement.Bracket effect) (Some (spans_in (Some (record v { spans = o })))) p
    by_spans (Some ss) h = h
    by_spans None h = absurd h
spans_here None x effect p e h = absurd (cc)

-- its spans are those that go into the entry
began_by : {s : Setup} {cs : List Caller} {past : List Entry} (t c r : ℕ) (effect : Effect) (ss : Roomy) → CallersStand s cs past → c < s.callers → IsAt effect None (caller_at cs c).call → r ≡ suc (asked past) → ss ≡ spans_in (caller_at cs c).call → CallersStand s (set cs c (begun (caller_at cs c) r)) (by t c (Begin ss) ∷ past)
began_by {s = s} {cs = cs} {past = past} t c r effect ss st lt at q same =
    let old = st.each c lt in
    let g = in_bracket c effect None st lt at in
    let x = g.x in
    let y = g.y in
    let e : Entry = by t c (Begin ss) in
    let b : Bracket = record { begun = length past; spans = ss.list; acked = false } in
    let kept : plan_of s y (e ∷ past) ≡ plan_of s y past = plan_keep s y e past g.ties.so_far in
    let planned : IsJudged (judgement.Bracket effect) (Some ss) (plan_of s y past) =
    subst (λ (z : Roomy). IsJudged (judgement.Bracket effect) (Some z) (plan_of s y past)) (sym same) (spans_here (caller_at cs c).call x effect (plan_of s y past) g.is_x g.stage.is_judged) in
    let stage : AtBegun effect r y.made b (plan_of s y (e ∷ past)) (e ∷ past) = record {
      is_bracket = kept ∙ planned;
      unmade = g.stage.unmade;
      asked_is = record { not_acked = refl; so_far = omega arith; before_is = q ∙ ap (λ (n : ℕ). suc n) (sym (asked_before e past)); request_is = q ∙ sym (asked_here ss t c past) };
    } in
    moved t c (Begin ss ∷ []) past (begun (caller_at cs c) r) st lt
    (record {
      ended_is = old.ended_is;
      gone_is = old.gone_is;
      spans_fit = old.spans_fit;
      open_is =
          rw (g.is_x, g.call_is, self c)
          (record {
            ioctl_is = g.ties.ioctl_is;
            so_far = let l = g.ties.so_far in omega arith;
            locks_are = locks_keep x.call.locks y e past g.ties.so_far g.ties.locks_are;
            pages_is = g.ties.pages_is;
            unanswered = g.ties.unanswered;
            stage_is = subst (λ (j : Judged). StageIs j (Some step.Begin) None r y.made (Some b) (plan_of s y (e ∷ past)) (e ∷ past)) (sym g.judged_is) stage;
          });
    })

pub began : {s : Setup} {cs : List Caller} {past : List Entry} (t c r : ℕ) (effect : Effect) → CallersStand s cs past → c < s.callers → IsAt effect None (caller_at cs c).call → r ≡ suc (asked past) → CallersStand s (set cs c (begun (caller_at cs c) r)) (by t c (Begin (spans_in (caller_at cs c).call)) ∷ past)
began {cs = cs} t c r effect st lt at q = began_by t c r effect (spans_in (caller_at cs c).call) st lt at q refl

-- every vCPU inside has flushed
pub begun_is : (effect : Effect) (r : ℕ) (made : Bool) (b : Option Bracket) (p : Plan) (past : List Entry) → BracketIs effect step.Begin r made b p past → (z : Bracket) × (b ≡ Some z) × AtBegun effect r made z p past
begun_is effect r made (Some z) p past h = (z, refl, h)
begun_is effect r made None p past h = absurd h

pub acked_is : (effect : Effect) (r : ℕ) (made : Bool) (b : Option Bracket) (p : Plan) (past : List Entry) → BracketIs effect step.Acked r made b p past → (z : Bracket) × (b ≡ Some z) × AtAcked effect made false z p
acked_is effect r made (Some z) p past h = (z, refl, h)
acked_is effect r made None p past h = absurd h

pub changed_is : (effect : Effect) (r : ℕ) (made : Bool) (b : Option Bracket) (p : Plan) (past : List Entry) → BracketIs effect step.Change r made b p past → (z : Bracket) × (b ≡ Some z) × AtAcked effect made true z p
changed_is effect r made (Some z) p past h = (z, refl, h)
changed_is effect r made None p past h = absurd h

pub acked : {s : Setup} {cs : List Caller} {past : List Entry} (t c : ℕ) (effect : Effect) → CallersStand s cs past → c < s.callers → IsAt effect (Some step.Begin) (caller_at cs c).call → CallersStand s (set cs c (stepped (caller_at cs c) step.Acked)) (by t c Acked ∷ past)
acked {s = s} {cs = cs} {past = past} t c effect st lt at =
    let old = st.each c lt in
    let g = in_bracket c effect (Some step.Begin) st lt at in
    let x = g.x in
    let y = g.y in
    let e : Entry = by t c Acked in
    let z = begun_is effect x.request y.made (bracket c past) (plan_of s y past) past g.stage in
    let b : Bracket = record z.0 { acked = true } in
    let stage : AtAcked effect y.made false b (plan_of s y (e ∷ past)) = record { is_bracket = plan_keep s y e past g.ties.so_far ∙ z.2.is_bracket; made_is = z.2.unmade; is_acked = refl } in
    moved t c (Acked ∷ []) past (stepped (caller_at cs c) step.Acked) st lt
    (record {
      ended_is = old.ended_is;
      gone_is = old.gone_is;
      spans_fit = old.spans_fit;
      open_is =
          rw (g.is_x, g.call_is, self c, z.1)
          (record {
            ioctl_is = g.ties.ioctl_is;
            so_far = let l = g.ties.so_far in omega arith;
            locks_are = locks_keep x.call.locks y e past g.ties.so_far g.ties.locks_are;
            pages_is = g.ties.pages_is;
            unanswered = g.ties.unanswered;
            stage_is = subst (λ (j : Judged). StageIs j (Some step.Acked) x.spans x.request y.made (Some b) (plan_of s y (e ∷ past)) (e ∷ past)) (sym g.judged_is) stage;
          });
    })

-- it makes its change
pub changed : {s : Setup} {cs : List Caller} {past : List Entry} (t c : ℕ) (effect change : Effect) → CallersStand s cs past → c < s.callers → IsAt effect (Some step.Acked) (caller_at cs c).call → is_mark change ≡ false → CallersStand s (set cs c (stepped (caller_at cs c) step.Change)) (by t c (Change change) ∷ past)
changed {s = s} {cs = cs} {past = past} t c effect change st lt at unmarked =
    let old = st.each c lt in
    let g = in_bracket c effect (Some step.Acked) st lt at in
    let x = g.x in
    let y = g.y in
    let e : Entry = by t c (Change change) in
    let z = acked_is effect x.request y.made (bracket c past) (plan_of s y past) past g.stage in
    let stage : AtAcked effect true true z.0 (plan_of s y (e ∷ past)) = record { is_bracket = plan_keep s y e past g.ties.so_far ∙ z.2.is_bracket; made_is = refl; is_acked = z.2.is_acked } in
    moved t c (Change change ∷ []) past (stepped (caller_at cs c) step.Change) st lt
    (record {
      ended_is = old.ended_is;
      gone_is = old.gone_is;
      spans_fit = old.spans_fit;
      open_is =
          rw (g.is_x, g.call_is, self c, unmarked, z.1)
          (record {
            ioctl_is = g.ties.ioctl_is;
            so_far = let l = g.ties.so_far in omega arith;
            locks_are = locks_keep x.call.locks y e past g.ties.so_far g.ties.locks_are;
            pages_is = g.ties.pages_is;
            unanswered = g.ties.unanswered;
            stage_is = subst (λ (j : Judged). StageIs j (Some step.Change) x.spans x.request true (Some z.0) (plan_of s y (e ∷ past)) (e ∷ past)) (sym g.judged_is) stage;
          });
    })

-- it adds a page
pub pages : {s : Setup} {cs : List Caller} {past : List Entry} (t c index : ℕ) (f : Folio) (n : ℕ) (q : PagePlan) → CallersStand s cs past → c < s.callers → AddsPages q (caller_at cs c).call → CallersStand s (set cs c (paged (caller_at cs c))) (by t c (Page index f n) ∷ past)
pages {s = s} {cs = cs} {past = past} t c index f n q st lt at =
    let old = st.each c lt in
    let g = adding_pages c q st lt at in
    let x = g.x in
    let y = g.y in
    let e : Entry = by t c (Page index f n) in
    let stage : AtJudged (judgement.Pages q) None y.made (bracket c past) (plan_of s y (e ∷ past)) = record { is_judged = plan_keep s y e past g.ties.so_far ∙ g.stage.is_judged; unmade = g.stage.unmade; no_bracket = g.stage.no_bracket } in
    moved t c (Page index f n ∷ []) past (paged (caller_at cs c)) st lt
    (record {
      ended_is = old.ended_is;
      gone_is = old.gone_is;
      spans_fit = old.spans_fit;
      open_is =
          rw (g.is_x, g.call_is, self c)
          (record {
            ioctl_is = g.ties.ioctl_is;
            so_far = let l = g.ties.so_far in omega arith;
            locks_are = locks_keep x.call.locks y e past g.ties.so_far g.ties.locks_are;
            pages_is = plus_one x.call.pages y.pages g.ties.pages_is;
            unanswered = g.ties.unanswered;
            stage_is = subst (λ (j : Judged). StageIs j (Some step.PageStep) x.spans x.request y.made (bracket c past) (plan_of s y (e ∷ past)) (e ∷ past)) (sym g.judged_is) stage;
          });
    })
  where
    plus_one : (a b : ℕ) → a ≡ b → a + 1 ≡ suc b
    plus_one a b h = omega arith

-- it writes gone
pub leaves : {s : Setup} {cs : List Caller} {past : List Entry} (t c : ℕ) → CallersStand s cs past → c < s.callers → CallersStand s (set cs c (leaving (caller_at cs c))) (by t c Gone ∷ past)
leaves {s = s} {cs = cs} {past = past} t c st lt =
    let old = st.each c lt in
    moved t c (Gone ∷ []) past (leaving (caller_at cs c)) st lt
    (record {
      ended_is = old.ended_is;
      gone_is = rw (self c) refl;
      spans_fit = old.spans_fit;
      open_is = open_later s (caller_at cs c).call (call c past) (bracket c past) (by t c Gone) past old.open_is;
    })
