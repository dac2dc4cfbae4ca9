-- A caller's next command, when it departs, and what bounds its counts.
use Rattle.std.proofs.Common.{◌≡◌, ℕ, ◌<◌, ◌≤◌, ◌&&◌, List, [], ◌∷◌, Bool, true, false, not, length, suc, Option, Some, None, arith, sym, ◌∙◌, ap, cond}
use Rattle.gm_base.specs.Scripts.{Orders, commands_of}
use Rattle.gm_base.specs.declared.values.Actor.{Actor}
use Rattle.gm_base.specs.declared.values.Actor.TheVariants.{Caller as OfCaller}
use Rattle.gm_base.specs.declared.values.Setup.{Setup}
use Rattle.gm_calls.specs.declared.judged.PagePlan.{PagePlan}
use Rattle.gm_flat.specs.Histories.{Call as Past, call, call_step, is_caller, is_mark, with_change, with_page}
use Rattle.gm_flat.specs.RightOrder.{command_at, next_command}
use Rattle.gm_flat.specs.declared.entry.Entry.{Entry}
use Rattle.gm_flat.specs.declared.entry.What.{What}
use Rattle.gm_flat.specs.declared.entry.What.TheVariants.{Judge, Change, Page, Answer, Gone}
use Rattle.gm_laws.proofs.Counted.{done_le}
use Rattle.gm_laws.specs.May.{May}
use Rattle.gm_callers.proofs.Moves.{adding_pages}
use Rattle.gm_callers.specs.Callers.{caller_at, pages_in}
use Rattle.gm_callers.specs.Stand.{AddsPages, CallersStand}
use Rattle.gm_callers.specs.declared.caller.Caller.{Caller}

-- its next command is the one after those that it has ended
pub next_is : (o : Orders) {cs : List Caller} {past : List Entry} (c : ℕ) → CallersStand o.setup cs past → c < o.setup.callers → next_command o (OfCaller c) past ≡ command_at (commands_of o (OfCaller c)) (caller_at cs c).ended
next_is o c st lt = ap (λ (n : ℕ). command_at (commands_of o (OfCaller c)) n) (sym (st.each c lt).ended_is)

-- it may write `gone` once, where no command is left
pub may_leave : (o : Orders) {cs : List Caller} {past : List Entry} (c : ℕ) → CallersStand o.setup cs past → c < o.setup.callers → next_command o (OfCaller c) past ≡ None → (caller_at cs c).gone ≡ false → May o Gone (OfCaller c) past
may_leave o c st lt none here = record { none_left = none; once = sym (st.each c lt).gone_is ∙ here }

-- counts are below the history's length
pub ended_le : {s : Setup} {cs : List Caller} {past : List Entry} (c : ℕ) → CallersStand s cs past → c < s.callers → (caller_at cs c).ended ≤ length past
ended_le {past = past} c st lt =
    let e = (st.each c lt).ended_is in
    let l = done_le (OfCaller c) past in
    omega arith

-- the pages of the call of a caller, and none where it has none
abbrev pages_now : Option Past → ℕ
pages_now None = 0
pages_now (Some x) = x.pages

with_page-le : (n : ℕ) (x : Option Past) → pages_now x ≤ n → pages_now (with_page x) ≤ suc n
with_page-le n None h = omega arith
with_page-le n (Some x) h = omega arith

with_change-le : (n : ℕ) (x : Option Past) → pages_now x ≤ n → pages_now (with_change x) ≤ suc n
with_change-le n None h = omega arith
with_change-le n (Some x) h = omega arith

pick_le : (t : Bool) (n : ℕ) (x y : Option Past) → pages_now x ≤ n → pages_now y ≤ n → pages_now (cond t x y) ≤ n
pick_le true n x y a b = a
pick_le false n x y a b = b

step_le : (c : ℕ) (w : What) (a : Actor) (n : ℕ) (x : Option Past) → pages_now x ≤ n → pages_now (call_step c w a n x) ≤ suc n
step_le c (Judge i) a n x h = pick_le (is_caller c a) (suc n) (Some (record { judged = n; ioctl = i; made = false; pages = 0 })) x (omega arith) (omega arith)
step_le c (Change e) a n x h = pick_le (is_caller c a && not (is_mark e)) (suc n) (with_change x) x (with_change-le n x h) (omega arith)
step_le c (Page i f p) a n x h = pick_le (is_caller c a) (suc n) (with_page x) x (with_page-le n x h) (omega arith)
step_le c (Answer r) a n x h = pick_le (is_caller c a) (suc n) None x (omega arith) (omega arith)
step_le c _ a n x h = omega arith

pages_le : (c : ℕ) (past : List Entry) → pages_now (call c past) ≤ length past
pages_le c [] = omega arith
pages_le c (e ∷ past) = step_le c e.what e.actor (length past) (call c past) (pages_le c past)

pub added_le : {s : Setup} {cs : List Caller} {past : List Entry} (c : ℕ) (q : PagePlan) → CallersStand s cs past → c < s.callers → AddsPages q (caller_at cs c).call → pages_in (caller_at cs c).call ≤ length past
added_le {past = past} c q st lt at =
    let g = adding_pages c q st lt at in
    let l = pages_le c past in
    let e = ap pages_in g.is_x ∙ g.ties.pages_is ∙ sym (ap pages_now g.call_is) in
    omega arith
