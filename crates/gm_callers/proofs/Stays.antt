-- What an entry that moves no caller leaves as it was.
use Rattle.std.proofs.Common.{◌≡◌, ℕ, ◌≤◌, ◌&&◌, List, [], ◌∷◌, Bool, true, false, not, length, replicate, suc, Option, Some, None, arith, subst, sym, refl, ◌∙◌, ap, cond}
use Rattle.std.proofs.lemmas.List.{get_or-replicate, length-replicate}
use Rattle.gm_base.specs.declared.values.Actor.{Actor}
use Rattle.gm_base.specs.declared.values.Actor.TheVariants.{Vcpu, Caller as OfCaller}
use Rattle.gm_base.specs.declared.values.Folio.{Folio}
use Rattle.gm_base.specs.declared.values.Setup.{Setup}
use Rattle.gm_calls.specs.declared.call.Step.{Step}
use Rattle.gm_calls.specs.declared.call.Step.TheVariants as step
use Rattle.gm_calls.specs.declared.judged.Judged.{Judged}
use Rattle.gm_calls.specs.declared.judged.Judged.TheVariants as judgement
use Rattle.gm_flat.specs.Calls.{Plan, plan}
use Rattle.gm_flat.specs.FlatState.{Flat}
use Rattle.gm_flat.specs.Histories.{Call as Past, call, call_step, Bracket, bracket, bracket_step, done, ends_one, gone, gone_step, is_caller, is_mark, same_actor, with_change}
use Rattle.gm_flat.specs.Locks.{takes}
use Rattle.gm_flat.specs.RightLives.{plan_of}
use Rattle.gm_flat.specs.RightOrder.{are_frees}
use Rattle.gm_flat.specs.Roomy.{Roomy}
use Rattle.gm_flat.specs.declared.entry.Entry.{Entry}
use Rattle.gm_flat.specs.declared.entry.What.{What}
use Rattle.gm_flat.specs.declared.entry.What.TheVariants.{Touch, Left, Judge, Begin, Acked, Change, Page, End, Answer, Free, Gone}
use Rattle.gm_laws.proofs.Counted.{asked_keep}
use Rattle.gm_laws.proofs.Kit.{flat_at_keep}
use Rattle.gm_laws.specs.Turns.{onto}
use Rattle.gm_callers.specs.Callers.{caller_at, no_caller}
use Rattle.gm_callers.specs.Stand.{Asked, CallIs, CallerIs, CallersStand, OpenIs, StageIs, moves_callers}
use Rattle.gm_callers.specs.declared.caller.Caller.{Caller}
use Rattle.gm_callers.specs.declared.caller.InProgress.{InProgress}

-- an entry doesn't move the caller
pub record Still (c : ℕ) (w : What) (a : Actor) : Type 0 where
  pub call_stays : (n : ℕ) (x : Option Past) → call_step c w a n x ≡ x
  pub bracket_stays : (n : ℕ) (x : Option Bracket) → bracket_step c w a n x ≡ x
  pub none_gone : gone_step w (same_actor (OfCaller c) a) ≡ false
  pub none_done : ends_one w (same_actor (OfCaller c) a) ≡ false

call_other : (c : ℕ) (w : What) (a : Actor) (n : ℕ) (x : Option Past) → is_caller c a ≡ false → call_step c w a n x ≡ x
call_other c (Judge i) a n x h = rw h refl
call_other c (Change e) a n x h = rw h refl
call_other c (Page i f p) a n x h = rw h refl
call_other c (Answer r) a n x h = rw h refl
call_other c _ a n x h = refl

bracket_other : (c : ℕ) (w : What) (a : Actor) (n : ℕ) (x : Option Bracket) → is_caller c a ≡ false → bracket_step c w a n x ≡ x
bracket_other c (Begin ss) a n x h = rw h refl
bracket_other c Acked a n x h = rw h refl
bracket_other c End a n x h = rw h refl
bracket_other c _ a n x h = refl

gone_other : (w : What) (own : Bool) → own ≡ false → gone_step w own ≡ false
gone_other Gone own h = h
gone_other _ own h = refl

done_other : (w : What) (own : Bool) → own ≡ false → ends_one w own ≡ false
done_other (Touch a b l v f) own h = h
done_other (Left why) own h = h
done_other (Answer r) own h = h
done_other _ own h = refl

pub still_other : (c : ℕ) (w : What) (a : Actor) → is_caller c a ≡ false → Still c w a
still_other c w a h = record {
  call_stays = λ n x. call_other c w a n x h;
  bracket_stays = λ n x. bracket_other c w a n x h;
  none_gone = gone_other w (same_actor (OfCaller c) a) h;
  none_done = done_other w (same_actor (OfCaller c) a) h;
}

mark_stays : (t u : Bool) (x : Option Past) → not u ≡ false → cond (t && not u) (with_change x) x ≡ x
mark_stays true u x h = rw h refl
mark_stays false u x h = refl

pub still : (c : ℕ) (w : What) (a : Actor) → moves_callers w a ≡ false → Still c w a
still c w (Vcpu v) h = still_other c w (Vcpu v) refl
still c (Free folio pages) (OfCaller d) h = record { call_stays = λ n x. refl; bracket_stays = λ n x. refl; none_gone = refl; none_done = refl }
still c (Change e) (OfCaller d) h = record { call_stays = λ n x. mark_stays (is_caller c (OfCaller d)) (is_mark e) x h; bracket_stays = λ n x. refl; none_gone = refl; none_done = refl }
still c _ (OfCaller d) h = absurd (cc)

-- what was asked, the plan and the locks at a position that has been

pub plan_keep : (s : Setup) (y : Past) (e : Entry) (past : List Entry) → y.judged ≤ length past → plan_of s y (e ∷ past) ≡ plan_of s y past
plan_keep s y e past h = ap (λ (f : Flat). plan s y.ioctl f) (flat_at_keep y.judged e past h)

asked_later : (r : ℕ) (b : Bracket) (e : Entry) (past : List Entry) → Asked r b past → Asked r b (e ∷ past)
asked_later r b e past h = record {
  not_acked = h.not_acked;
  so_far = let l = h.so_far in omega arith;
  before_is = let l = h.so_far in h.before_is ∙ ap (λ (n : ℕ). suc n) (sym (asked_keep b.begun e past (omega arith)));
  request_is = h.request_is ∙ sym (asked_keep (suc b.begun) e past h.so_far);
}

pub stage_later : (j : Judged) (o : Option Step) (spans : Option Roomy) (r : ℕ) (made : Bool) (b : Option Bracket) (p : Plan) (e : Entry) (past : List Entry) → StageIs j o spans r made b p past → StageIs j o spans r made b p (e ∷ past)
stage_later j None spans r made b p e past h = h
stage_later (judgement.Bracket effect) (Some step.Begin) spans r made (Some b) p e past h = record { is_bracket = h.is_bracket; unmade = h.unmade; asked_is = asked_later r b e past h.asked_is }
stage_later (judgement.Bracket effect) (Some step.Acked) spans r made (Some b) p e past h = h
stage_later (judgement.Bracket effect) (Some step.Change) spans r made (Some b) p e past h = h
stage_later (judgement.Pages q) (Some step.PageStep) spans r made b p e past h = h
stage_later _ (Some _) spans r made b p e past h = absurd h

pub call_later : (s : Setup) (x : InProgress) (y : Past) (b : Option Bracket) (e : Entry) (past : List Entry) → CallIs s x y b past → CallIs s x y b (e ∷ past)
call_later s x y b e past h = record {
  ioctl_is = h.ioctl_is;
  so_far = let l = h.so_far in omega arith;
  locks_are = λ lock. h.locks_are lock ∙ sym (ap (λ (f : Flat). takes lock y.ioctl f) (flat_at_keep y.judged e past h.so_far));
  pages_is = h.pages_is;
  unanswered = h.unanswered;
  stage_is = subst (λ (p : Plan). StageIs x.call.judged x.call.done x.spans x.request y.made b p (e ∷ past)) (sym (plan_keep s y e past h.so_far)) (stage_later x.call.judged x.call.done x.spans x.request y.made b (plan_of s y past) e past h.stage_is);
}

pub open_later : (s : Setup) (o : Option InProgress) (y : Option Past) (b : Option Bracket) (e : Entry) (past : List Entry) → OpenIs s o y b past → OpenIs s o y b (e ∷ past)
open_later s None None None e past h = h
open_later s (Some x) (Some y) b e past h = call_later s x y b e past h
open_later s None (Some y) b e past h = absurd h
open_later s None None (Some b) e past h = absurd h
open_later s (Some x) None b e past h = absurd h

pub caller_stays : (s : Setup) (x : Caller) (c : ℕ) (e : Entry) (past : List Entry) → Still c e.what e.actor → CallerIs s x c past → CallerIs s x c (e ∷ past)
caller_stays s x c e past t h = record {
  ended_is = h.ended_is ∙ sym (ap (λ (b : Bool). cond b (suc (done (OfCaller c) past)) (done (OfCaller c) past)) t.none_done);
  gone_is = h.gone_is ∙ sym (ap (λ (b : Bool). cond b true (gone (OfCaller c) past)) t.none_gone);
  spans_fit = h.spans_fit;
  open_is =
      subst (λ (y : Option Past). OpenIs s x.call y (bracket c (e ∷ past)) (e ∷ past)) (sym (t.call_stays (length past) (call c past)))
      (subst (λ (b : Option Bracket). OpenIs s x.call (call c past) b (e ∷ past)) (sym (t.bracket_stays (length past) (bracket c past)))
      (open_later s x.call (call c past) (bracket c past) e past h.open_is));
}

-- an entry that moves no caller
pub quiet : {s : Setup} {cs : List Caller} (e : Entry) (past : List Entry) → moves_callers e.what e.actor ≡ false → CallersStand s cs past → CallersStand s cs (e ∷ past)
quiet {s = s} {cs = cs} e past h st = record {
  count_is = st.count_is;
  each = λ c lt. caller_stays s (caller_at cs c) c e past (still c e.what e.actor h) (st.each c lt);
  none_beyond = λ c le. let t = still c e.what e.actor h in let n = st.none_beyond c le in (t.call_stays (length past) (call c past) ∙ n.0, t.bracket_stays (length past) (bracket c past) ∙ n.1);
}

-- no entry yet
pub opens : (s : Setup) → CallersStand s (replicate s.callers no_caller) []
opens s = record {
  count_is = length-replicate s.callers no_caller;
  each = λ c lt. subst (λ (x : Caller). CallerIs s x c []) (sym (get_or-replicate s.callers c no_caller no_caller lt)) (record { ended_is = refl; open_is = tt; gone_is = refl; spans_fit = tt });
  none_beyond = λ c le. (refl, refl);
}

-- frees move no caller
free_quiet : (folio : Folio) (n : ℕ) (a : Actor) → moves_callers (Free folio n) a ≡ false
free_quiet folio n (Vcpu v) = refl
free_quiet folio n (OfCaller c) = refl

pub frees_over : {s : Setup} {cs : List Caller} (t : ℕ) (a : Actor) (ws : List What) (past : List Entry) → are_frees ws ≡ true → CallersStand s cs past → CallersStand s cs (onto t a ws past)
frees_over t a [] past h st = st
frees_over t a (Free folio n ∷ ws) past h st = frees_over t a ws (record { turn = t; actor = a; what = Free folio n } ∷ past) h (quiet (record { turn = t; actor = a; what = Free folio n }) past (free_quiet folio n a) st)
frees_over t a (_ ∷ ws) past h st = absurd (cc)
