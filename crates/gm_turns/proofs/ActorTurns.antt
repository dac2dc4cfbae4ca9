-- Which command or step of an actor comes next, and that a turn of it was taken.
use Rattle.std.proofs.Common.{◌≡◌, ℕ, ◌<◌, List, [], ◌∷◌, Bool, true, false, length, zero, suc, get_or, Option, Some, None, arith, subst, sym, ◌∙◌, ap, refl, cond}
use Rattle.std.specs.Prelude.{IfSome, MatchOption, slice_get}
use Rattle.gm_base.specs.declared.script.Command.{Command}
use Rattle.gm_base.specs.declared.values.Actor.TheVariants.{Vcpu, Caller}
use Rattle.gm_base.specs.declared.values.Setup.{Setup}
use Rattle.gm_callers.proofs.NextCommand as caller
use Rattle.gm_callers.specs.Callers.{caller_at}
use Rattle.gm_callers.specs.Stand.{BracketIs, CallIs, OpenIs, StageIs}
use Rattle.gm_callers.specs.declared.caller.InProgress.{InProgress}
use Rattle.gm_calls.specs.Steps.{IsInOrder, after_in_row, is_at_end, is_of_row, step_after}
use Rattle.gm_calls.specs.declared.call.Step.{Step}
use Rattle.gm_calls.specs.declared.call.Step.TheVariants.{Begin, Acked, Change, PageStep, End}
use Rattle.gm_calls.specs.declared.judged.Judged.{Judged}
use Rattle.gm_calls.specs.declared.judged.Judged.TheVariants as judgement
use Rattle.gm_flat.specs.Calls.{Plan}
use Rattle.gm_flat.specs.Histories.{Bracket, Call as Past, bracket, call}
use Rattle.gm_flat.specs.RightOrder.{IsBlocked, command_at, next_command}
use Rattle.gm_flat.specs.Roomy.{Roomy}
use Rattle.gm_flat.specs.declared.entry.Entry.{Entry}
use Rattle.gm_laws.proofs.Kit.{some_same}
use Rattle.gm_turns.specs.Ready.{IsAccess, IsIoctl, IsReady, Settled, Turned}
use Rattle.gm_turns.specs.Room.{orders_of}
use Rattle.gm_turns.specs.Stepping.{IsStepOf}
use Rattle.gm_turns.specs.Turning.{Rested, Taken, Waited}
use Rattle.gm_turns.specs.Waiting.{WaitsOn}
use Rattle.gm_turns.specs.declared.outcome.Blocker.{Blocker}
use Rattle.gm_turns.specs.declared.parts.Core.{Core}
use Rattle.gm_vcpus.proofs.Allowed as vcpu
use Rattle.gm_vcpus.specs.Vcpus.{no_vcpu, vcpu_at}

-- the command of an index

command_get : (cs : List Command) (n : ℕ) → command_at cs n ≡ slice_get cs n
command_get [] n = refl
command_get (c ∷ cs) zero = refl
command_get (c ∷ cs) (suc n) = command_get cs n

get_or_any : {A : Type 0} (xs : List A) (v : ℕ) (d e : A) → v < length xs → get_or xs v d ≡ get_or xs v e
get_or_any [] v d e lt = absurd (omega arith)
get_or_any (x ∷ xs) zero d e lt = refl
get_or_any (x ∷ xs) (suc v) d e lt = get_or_any xs v d e (omega arith)

both : (commands cs : List Command) (n m : ℕ) (o : Option Command) → commands ≡ cs → n ≡ m → o ≡ slice_get commands n → slice_get cs m ≡ o
both commands cs n m o e f h = rw (← e, ← f) (sym h)

pub next_of_vcpu : (k : Core) (v : ℕ) → Settled k → v < k.setup.vcpus → (commands : List Command) (n : ℕ) (o : Option Command) → commands ≡ get_or k.vcpu_commands.items v commands → n ≡ (vcpu_at k.vcpus v).ended → o ≡ slice_get commands n → (next_command (orders_of k) (Vcpu v) k.log.past ≡ o) × IfSome o IsAccess
next_of_vcpu k v t lt commands n o e f h =
    let xs = k.vcpu_commands.items in
    let len : length xs ≡ k.setup.vcpus = t.commanded.vcpu_lists in
    let cs : commands ≡ get_or xs v [] = e ∙ get_or_any xs v commands [] (omega arith) in
    let q : slice_get (get_or xs v []) (vcpu_at k.vcpus v).ended ≡ o = both commands (get_or xs v []) n (vcpu_at k.vcpus v).ended o cs f h in
    (vcpu.next_is (orders_of k) v t.stands.vcpus lt ∙ (command_get (get_or xs v []) (vcpu_at k.vcpus v).ended ∙ q), subst (λ (x : Option Command). IfSome x IsAccess) q (t.commanded.touches v (vcpu_at k.vcpus v).ended))

pub next_of_caller : (k : Core) (c : ℕ) → Settled k → c < k.setup.callers → (commands : List Command) (n : ℕ) (o : Option Command) → commands ≡ get_or k.caller_commands.items c commands → n ≡ (caller_at k.callers c).ended → o ≡ slice_get commands n → (next_command (orders_of k) (Caller c) k.log.past ≡ o) × IfSome o IsIoctl
next_of_caller k c t lt commands n o e f h =
    let xs = k.caller_commands.items in
    let len : length xs ≡ k.setup.callers = t.commanded.caller_lists in
    let cs : commands ≡ get_or xs c [] = e ∙ get_or_any xs c commands [] (omega arith) in
    let q : slice_get (get_or xs c []) (caller_at k.callers c).ended ≡ o = both commands (get_or xs c []) n (caller_at k.callers c).ended o cs f h in
    (caller.next_is (orders_of k) c t.stands.callers lt ∙ (command_get (get_or xs c []) (caller_at k.callers c).ended ∙ q), subst (λ (x : Option Command). IfSome x IsIoctl) q (t.commanded.calls c (caller_at k.callers c).ended))

-- the step that follows of a call in progress

pub record InOrder (j : Judged) (d : Option Step) : Type 0 where
  pub of_row : is_of_row j d ≡ true
  pub goes_on : is_at_end j d ≡ false

order_by : (j : Judged) (d : Option Step) (spans : Option Roomy) (r : ℕ) (made : Bool) (b : Option Bracket) (p : Plan) (past : List Entry) → StageIs j d spans r made b p past → InOrder j d
order_by (judgement.Bracket effect) None spans r made b p past h = record { of_row = refl; goes_on = refl }
order_by (judgement.Bracket effect) (Some Begin) spans r made b p past h = record { of_row = refl; goes_on = refl }
order_by (judgement.Bracket effect) (Some Acked) spans r made b p past h = record { of_row = refl; goes_on = refl }
order_by (judgement.Bracket effect) (Some Change) spans r made b p past h = record { of_row = refl; goes_on = refl }
order_by (judgement.Bracket effect) (Some End) spans r made None p past h = absurd h
order_by (judgement.Bracket effect) (Some End) spans r made (Some b) p past h = absurd h
order_by (judgement.Bracket effect) (Some PageStep) spans r made None p past h = absurd h
order_by (judgement.Bracket effect) (Some PageStep) spans r made (Some b) p past h = absurd h
order_by (judgement.Pages q) None spans r made b p past h = record { of_row = refl; goes_on = refl }
order_by (judgement.Pages q) (Some Begin) spans r made b p past h = absurd h
order_by (judgement.Pages q) (Some Acked) spans r made b p past h = absurd h
order_by (judgement.Pages q) (Some Change) spans r made b p past h = absurd h
order_by (judgement.Pages q) (Some End) spans r made b p past h = absurd h
order_by (judgement.Pages q) (Some PageStep) spans r made b p past h = record { of_row = refl; goes_on = refl }
order_by (judgement.Refused errno) None spans r made b p past h = absurd h.is_judged
order_by (judgement.Refused errno) (Some d) spans r made b p past h = absurd h
order_by (judgement.Same answer) None spans r made b p past h = absurd h.is_judged
order_by (judgement.Same answer) (Some d) spans r made b p past h = absurd h
order_by (judgement.Short effect answer) None spans r made b p past h = absurd h.is_judged
order_by (judgement.Short effect answer) (Some d) spans r made b p past h = absurd h

step_by : (x : InProgress) (j : Judged) (d : Option Step) (P : Type 0) → x.call.judged ≡ j → x.call.done ≡ d → InOrder j d → MatchOption (after_in_row j d) P (IsStepOf (Some x))
step_by x (judgement.Bracket effect) None P e f h = (effect, (e, f))
step_by x (judgement.Bracket effect) (Some Begin) P e f h = (effect, (e, f))
step_by x (judgement.Bracket effect) (Some Acked) P e f h = (effect, (e, f))
step_by x (judgement.Bracket effect) (Some Change) P e f h = (effect, (e, f))
step_by x (judgement.Bracket effect) (Some End) P e f h = absurd (let g = h.goes_on in cc)
step_by x (judgement.Bracket effect) (Some PageStep) P e f h = absurd (let g = h.of_row in cc)
step_by x (judgement.Pages q) d P e f h = (q, e)
step_by x (judgement.Refused errno) d P e f h = absurd (let g = h.goes_on in cc)
step_by x (judgement.Same answer) d P e f h = absurd (let g = h.goes_on in cc)
step_by x (judgement.Short effect answer) d P e f h = absurd (let g = h.goes_on in cc)

-- a call in progress is in order, and its step follows
pub record Follows (x : InProgress) : Type 1 where
  pub in_order : IsInOrder x.call
  pub step : (P : Type 0) (o : Option Step) → o ≡ step_after x.call → MatchOption o P (IsStepOf (Some x))

both_answers : {P : Type 0} (b : Bool) → b ≡ false → b ≡ true → P
both_answers b e f = absurd (cc)

follows_by : (s : Setup) (x : InProgress) (y : Past) (b : Option Bracket) (past : List Entry) → CallIs s x y b past → Follows x
follows_by s x y b past t =
    let r = order_by x.call.judged x.call.done x.spans x.request y.made b _ past t.stage_is in
    record {
      in_order = record { of_row = r.of_row; answered = λ e. both_answers (is_at_end x.call.judged x.call.done) r.goes_on e };
      step = λ P o e. subst (λ (z : Option Step). MatchOption z P (IsStepOf (Some x))) (sym (e ∙ ap (λ (u : Bool). cond u None (after_in_row x.call.judged x.call.done)) t.unanswered)) (step_by x x.call.judged x.call.done P refl refl r);
    }

open_follows : (s : Setup) (o : Option InProgress) (x : InProgress) (y : Option Past) (b : Option Bracket) (past : List Entry) → o ≡ Some x → OpenIs s o y b past → Follows x
open_follows s None x y b past e t = absurd (cc)
open_follows s (Some z) x None b past e t = absurd t
open_follows s (Some z) x (Some y) b past e t = subst Follows (some_same z x e) (follows_by s z y b past t)

pub follows : (k : Core) (c : ℕ) (x : InProgress) → Settled k → c < k.setup.callers → (caller_at k.callers c).call ≡ Some x → Follows x
follows k c x t lt e = open_follows k.setup (caller_at k.callers c).call x (call c k.log.past) (bracket c k.log.past) k.log.past e (t.stands.callers.each c lt).open_is

-- turns that were taken

pub caller_taken : (k n : Core) (c : ℕ) → IsReady k (Caller c) → (caller_at k.callers c).gone ≡ false → (IsBlocked (orders_of k) (Caller c) k.log.past → ⊥) → Turned k n (Caller c) false → Taken k n (Caller c)
caller_taken k n c r present free t = record { present = sym (r.settled.stands.callers.each c r.actor_is).gone_is ∙ present; unblocked = free; turned = t }

pub vcpu_taken : (k n : Core) (v : ℕ) → IsReady k (Vcpu v) → (vcpu_at k.vcpus v).gone ≡ false → Turned k n (Vcpu v) false → Taken k n (Vcpu v)
vcpu_taken k n v r present t = record { present = sym (r.settled.stands.vcpus.each v no_vcpu r.actor_is).gone_is ∙ present; unblocked = vcpu.never_blocked (orders_of k) v k.log.past; turned = t }

pub caller_gone : (k : Core) (c : ℕ) → IsReady k (Caller c) → (caller_at k.callers c).gone ≡ true → Rested k k (Caller c)
caller_gone k c r e = record { same = refl; absent = sym (r.settled.stands.callers.each c r.actor_is).gone_is ∙ e }

pub vcpu_gone : (k : Core) (v : ℕ) → IsReady k (Vcpu v) → (vcpu_at k.vcpus v).gone ≡ true → Rested k k (Vcpu v)
vcpu_gone k v r e = record { same = refl; absent = sym (r.settled.stands.vcpus.each v no_vcpu r.actor_is).gone_is ∙ e }

pub caller_waits : (k n : Core) (c : ℕ) (b : Blocker) → IsReady k (Caller c) → (caller_at k.callers c).gone ≡ false → WaitsOn (orders_of k) (Caller c) b k.log.past → n ≡ k → Waited k n (Caller c) b
caller_waits k n c b r present w e = record { same = e; present = sym (r.settled.stands.callers.each c r.actor_is).gone_is ∙ present; waits = w }
