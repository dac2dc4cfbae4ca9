-- Which caller holds a lock that a call needs, and who is blocked.
use Rattle.std.proofs.Common.{◌≡◌, ℕ, ◌<◌, ◌≤◌, ◌&&◌, ◌||◌, List, Bool, true, false, not, Option, Some, None, arith, subst, sym, refl, ◌∙◌, ap, eqb, inl, inr, [], ◌∷◌, length, zero, suc, ◌⊎◌}
use Rattle.std.proofs.lemmas.Bool.{and_from, and_parts, both_ways, cases_Bool, cases_lt, eqb-true, or_left, or_right}
use Rattle.std.proofs.lemmas.Bool.Decides.{nat_tests}
use Rattle.gm_base.specs.Scripts.{Orders}
use Rattle.gm_base.specs.declared.calls.Ioctl.{Ioctl}
use Rattle.gm_base.specs.declared.script.Command.TheVariants.{Call as CallCommand}
use Rattle.gm_base.specs.declared.values.Actor.TheVariants.{Caller as OfCaller}
use Rattle.gm_base.specs.declared.values.Setup.{Setup}
use Rattle.gm_calls.specs.LockSets.{HasItsLocks, has_lock}
use Rattle.gm_calls.specs.declared.call.Step.TheVariants as step
use Rattle.gm_calls.specs.declared.lock_set.LockSet.{LockSet}
use Rattle.gm_calls.specs.declared.judged.PagePlan.{PagePlan}
use Rattle.gm_flat.specs.Histories.{Call as Past, call, Bracket, bracket}
use Rattle.gm_flat.specs.Locks.{FileLock, Lock, SlotsLock, WaitsForLock}
use Rattle.gm_flat.specs.Mappings.{flushed, inside}
use Rattle.gm_flat.specs.Replay.{flat}
use Rattle.gm_flat.specs.RightLives.{plan_of}
use Rattle.gm_flat.specs.RightOrder.{Acks, IsBlocked, Judges, WaitsToAck, next_command}
use Rattle.gm_flat.specs.Slots.{is_file}
use Rattle.gm_flat.specs.declared.effect.Effect.{Effect}
use Rattle.gm_flat.specs.declared.entry.Entry.{Entry}
use Rattle.gm_laws.specs.Counting.{asked_at}
use Rattle.gm_callers.proofs.BracketTurns.{all_flushed, waits_inside}
use Rattle.gm_callers.proofs.Moves.{acked_is, adding_pages, changed_is, going, idle, in_bracket}
use Rattle.gm_callers.specs.Callers.{caller_at, request_in}
use Rattle.gm_callers.specs.Holding.{HaveCommon, call_meets, is_holder, is_wanted, locks_meet}
use Rattle.gm_callers.specs.Stand.{AddsPages, CallIs, CallersStand, IsAt, OpenIs}
use Rattle.gm_callers.specs.Waiting.{HoldsNeeded, WaitsOnCaller}
use Rattle.gm_callers.specs.declared.caller.Caller.{Caller}
use Rattle.gm_callers.specs.declared.caller.InProgress.{InProgress}

-- two sets of locks meet exactly where they have a lock in common

file_wanted : (o : Option ℕ) (file : ℕ) (needed : LockSet) → is_file o file ≡ true → has_lock (FileLock file) needed ≡ true → is_wanted o needed ≡ true
file_wanted (Some f) file needed e h = subst (λ (k : ℕ). has_lock (FileLock k) needed ≡ true) (sym (eqb-true f file e)) h
file_wanted None file needed e h = absurd (cc)

either_wanted : (a b : Bool) → (a || b) ≡ true → (a ≡ true) ⊎ (b ≡ true)
either_wanted true b h = inl refl
either_wanted false b h = inr h

pub meet : (held needed : LockSet) (lock : Lock) → has_lock lock held ≡ true → has_lock lock needed ≡ true → locks_meet held needed ≡ true
meet held needed SlotsLock h n = or_left (held.slots && needed.slots) (is_wanted held.first needed || is_wanted held.second needed) (and_from held.slots needed.slots h n)
meet held needed (FileLock file) h n =
    or_right (held.slots && needed.slots) (is_wanted held.first needed || is_wanted held.second needed)
    (elim (either_wanted (is_file held.first file) (is_file held.second file) h) [
      | inl e ↦ or_left (is_wanted held.first needed) (is_wanted held.second needed) (file_wanted held.first file needed e n)
      | inr e ↦ or_right (is_wanted held.first needed) (is_wanted held.second needed) (file_wanted held.second file needed e n)
    ])

wanted_file : (o : Option ℕ) (needed : LockSet) → is_wanted o needed ≡ true → (file : ℕ) × (is_file o file ≡ true) × (has_lock (FileLock file) needed ≡ true)
wanted_file (Some f) needed h = (f, same f, h)
  where
    same : (n : ℕ) → eqb n n ≡ true
    same n = grind (arith, nat_tests)
wanted_file None needed h = absurd (cc)

pub common : (held needed : LockSet) → locks_meet held needed ≡ true → HaveCommon held needed
common held needed h = elim (either_wanted (held.slots && needed.slots) (is_wanted held.first needed || is_wanted held.second needed) h) [
  | inl b ↦ let p = and_parts held.slots needed.slots b in record { lock = SlotsLock; is_held = p.0; is_needed = p.1 }
  | inr f ↦ elim (either_wanted (is_wanted held.first needed) (is_wanted held.second needed) f) [
    | inl a ↦ let w = wanted_file held.first needed a in record { lock = FileLock w.0; is_held = or_left (is_file held.first w.0) (is_file held.second w.0) w.1; is_needed = w.2 }
    | inr a ↦ let w = wanted_file held.second needed a in record { lock = FileLock w.0; is_held = or_right (is_file held.first w.0) (is_file held.second w.0) w.1; is_needed = w.2 }
  ]
]

-- who holds a lock that a call needs

apart : (a b : ℕ) → (a ≡ b → ⊥) → not (eqb a b) ≡ true
apart a b h = elim (cases_Bool (eqb a b)) [
  | inl e ↦ absurd (h (eqb-true a b e))
  | inr e ↦ ap not e
]

not_same : (a b : ℕ) → not (eqb a b) ≡ true → a ≡ b → ⊥
not_same a b h e = grind (arith, nat_tests)

-- the struct of a caller whose call the history has
open_call : (s : Setup) (p : Option InProgress) (x : Option Past) (y : Past) (b : Option Bracket) (past : List Entry) → x ≡ Some y → OpenIs s p x b past → (z : InProgress) × (p ≡ Some z) × CallIs s z y b past
open_call s (Some z) (Some w) y b past e h = (z, refl, subst (λ (v : Past). CallIs s z v b past) (same w y e) h)
  where
    same : (a b : Past) → Some a ≡ Some b → a ≡ b
    same a b e = cc
open_call s p None y b past e h = absurd (cc)
open_call s None (Some w) y b past e h = absurd h

is_caller : {s : Setup} {cs : List Caller} {past : List Entry} (d : ℕ) (y : Past) → CallersStand s cs past → call d past ≡ Some y → d < s.callers
is_caller {s = s} d y st e = elim (cases_lt d s.callers) [
  | inl lt ↦ lt
  | inr ge ↦ let n = sym (st.none_beyond d ge).0 ∙ e in absurd (cc)
]

pub holds_is : {s : Setup} {cs : List Caller} {past : List Entry} (c d : ℕ) (i : Ioctl) (needed : LockSet) → CallersStand s cs past → HasItsLocks needed i (flat past) → HoldsNeeded c d i past → is_holder cs c needed d ≡ true
holds_is {s = s} {cs = cs} {past = past} c d i needed st locks h =
    let y = h.holds.0 in
    let lt = is_caller d y st h.holds.1 in
    let z = open_call s (caller_at cs d).call (call d past) y (bracket d past) past h.holds.1 (st.each d lt).open_is in
    let meets : locks_meet z.0.call.locks needed ≡ true = meet z.0.call.locks needed h.lock (z.2.locks_are h.lock ∙ h.holds.2) (locks h.lock ∙ h.needed) in
    and_from (not (eqb d c)) (call_meets (caller_at cs d).call needed) (apart d c h.another) (ap (λ (p : Option InProgress). call_meets p needed) z.1 ∙ meets)

meets_some : (p : Option InProgress) (needed : LockSet) → call_meets p needed ≡ true → (z : InProgress) × (p ≡ Some z) × (locks_meet z.call.locks needed ≡ true)
meets_some (Some z) needed h = (z, refl, h)
meets_some None needed h = absurd (cc)

beyond_none : (xs : List Caller) (d : ℕ) (needed : LockSet) → call_meets (caller_at xs d).call needed ≡ true → d < length xs
beyond_none [] d needed h = absurd (cc)
beyond_none (x ∷ xs) zero needed h = omega arith
beyond_none (x ∷ xs) (suc d) needed h = let lt : d < length xs = beyond_none xs d needed h in omega arith

pub is_holds : {s : Setup} {cs : List Caller} {past : List Entry} (c d : ℕ) (i : Ioctl) (needed : LockSet) → CallersStand s cs past → HasItsLocks needed i (flat past) → is_holder cs c needed d ≡ true → HoldsNeeded c d i past
is_holds {s = s} {cs = cs} {past = past} c d i needed st locks h =
    let p = and_parts (not (eqb d c)) (call_meets (caller_at cs d).call needed) h in
    let z = meets_some (caller_at cs d).call needed p.1 in
    let lt : d < s.callers = subst (λ (n : ℕ). d < n) st.count_is (beyond_none cs d needed p.1) in
    let g = going d z.0 st lt z.1 in
    let k = common z.0.call.locks needed z.2 in
    record {
      another = λ same. not_same d c p.0 same;
      lock = k.lock;
      holds = (g.past_call, g.call_is, sym (g.ties.locks_are k.lock) ∙ k.is_held);
      needed = sym (locks k.lock) ∙ k.is_needed;
    }

-- nobody holds a lock that it needs
pub locks_free : {s : Setup} {cs : List Caller} {past : List Entry} (c : ℕ) (i : Ioctl) (needed : LockSet) → CallersStand s cs past → HasItsLocks needed i (flat past) → ((d : ℕ) → is_holder cs c needed d ≡ false) → WaitsForLock c i past → ⊥
locks_free {cs = cs} c i needed st locks none w =
    both_ways (is_holder cs c needed w.holder) (none w.holder) (holds_is c w.holder i needed st locks (record { another = w.another; lock = w.lock; holds = w.holds; needed = w.needed }))

pub may_judge : (o : Orders) {cs : List Caller} {past : List Entry} (c : ℕ) (i : Ioctl) (needed : LockSet) → CallersStand o.setup cs past → c < o.setup.callers → (caller_at cs c).call ≡ None → next_command o (OfCaller c) past ≡ Some (CallCommand i) → HasItsLocks needed i (flat past) → ((d : ℕ) → is_holder cs c needed d ≡ false) → Judges o c i past
may_judge o c i needed st lt none command locks free = record {
  command = command;
  none_in_progress = (idle c st lt none).0;
  locks_free = locks_free c i needed st locks free;
}

-- this caller is the least that does
pub waits_on : (o : Orders) {cs : List Caller} {past : List Entry} (c d : ℕ) (i : Ioctl) (needed : LockSet) → CallersStand o.setup cs past → c < o.setup.callers → (caller_at cs c).call ≡ None → next_command o (OfCaller c) past ≡ Some (CallCommand i) → HasItsLocks needed i (flat past) → is_holder cs c needed d ≡ true → ((k : ℕ) → k < d → is_holder cs c needed k ≡ false) → WaitsOnCaller o c d past
waits_on o {cs = cs} c d i needed st lt none command locks one least = record {
  none_in_progress = (idle c st lt none).0;
  ioctl = i;
  command = command;
  holds = is_holds c d i needed st locks one;
  least = λ k less h. both_ways (is_holder cs c needed k) (least k less) (holds_is c k i needed st locks h);
}

-- who is blocked

pub blocked_on_caller : (o : Orders) (c d : ℕ) (past : List Entry) → WaitsOnCaller o c d past → IsBlocked o (OfCaller c) past
blocked_on_caller o c d past w = inl (record {
  none_in_progress = w.none_in_progress;
  ioctl = w.ioctl;
  command = w.command;
  waits = record { lock = w.holds.lock; holder = d; another = w.holds.another; holds = w.holds.holds; needed = w.holds.needed };
})

pub blocked_on_vcpu : (o : Orders) {cs : List Caller} {past : List Entry} (c v : ℕ) (effect : Effect) → CallersStand o.setup cs past → c < o.setup.callers → IsAt effect (Some step.Begin) (caller_at cs c).call → inside v past ≡ true → asked_at (flushed v past) past < request_in (caller_at cs c).call → IsBlocked o (OfCaller c) past
blocked_on_vcpu o c v effect st lt at i less = inr (waits_inside c v effect st lt at i less)

no_ack : (b : Option Bracket) (past : List Entry) → b ≡ None → WaitsToAck b past → ⊥
no_ack None past e h = h
no_ack (Some b) past e h = cc

is_acked : (b : Option Bracket) (z : Bracket) (past : List Entry) → b ≡ Some z → z.acked ≡ true → WaitsToAck b past → ⊥
is_acked None z past e a h = h
is_acked (Some b) z past e a h = let same : b ≡ z = some_same b z e in both_ways b.acked h.0 (ap (λ (k : Bracket). k.acked) same ∙ a)
  where
    some_same : (a b : Bracket) → Some a ≡ Some b → a ≡ b
    some_same a b e = cc

acks_not : (b : Option Bracket) (past : List Entry) → Acks b past → WaitsToAck b past → ⊥
acks_not None past m h = h
acks_not (Some b) past m h = m.1 h.1

same_call : (i j : Ioctl) → Some (CallCommand i) ≡ Some (CallCommand j) → i ≡ j
same_call i j e = cc

-- a caller whose call may be judged
pub unblocked_judging : (o : Orders) {cs : List Caller} {past : List Entry} (c : ℕ) (i : Ioctl) → CallersStand o.setup cs past → c < o.setup.callers → (caller_at cs c).call ≡ None → Judges o c i past → IsBlocked o (OfCaller c) past → ⊥
unblocked_judging o {past = past} c i st lt none m h = elim h [
  | inl j ↦ m.locks_free (subst (λ (x : Ioctl). WaitsForLock c x past) (same_call j.ioctl i (sym j.command ∙ m.command)) j.waits)
  | inr k ↦ no_ack (bracket c past) past (idle c st lt none).1 k
]

-- one that has no command left
pub unblocked_ending : (o : Orders) {cs : List Caller} {past : List Entry} (c : ℕ) → CallersStand o.setup cs past → c < o.setup.callers → (caller_at cs c).call ≡ None → next_command o (OfCaller c) past ≡ None → IsBlocked o (OfCaller c) past → ⊥
unblocked_ending o {past = past} c st lt none n h = elim h [
  | inl j ↦ let e = sym n ∙ j.command in cc
  | inr k ↦ no_ack (bracket c past) past (idle c st lt none).1 k
]

-- one whose call is in progress waits for no lock
not_judging : (o : Orders) (c : ℕ) (y : Past) (past : List Entry) → call c past ≡ Some y → (WaitsToAck (bracket c past) past → ⊥) → IsBlocked o (OfCaller c) past → ⊥
not_judging o c y past e n h = elim h [
  | inl j ↦ let k = sym j.none_in_progress ∙ e in cc
  | inr w ↦ n w
]

pub unblocked_begin : (o : Orders) {cs : List Caller} {past : List Entry} (c : ℕ) (effect : Effect) → CallersStand o.setup cs past → c < o.setup.callers → IsAt effect None (caller_at cs c).call → IsBlocked o (OfCaller c) past → ⊥
unblocked_begin o {past = past} c effect st lt at =
    let g = in_bracket c effect None st lt at in
    not_judging o c g.y past g.call_is (no_ack (bracket c past) past g.stage.no_bracket)

-- nor for a vCPU, where each that is inside has flushed
pub unblocked_ack : (o : Orders) {cs : List Caller} {past : List Entry} (c : ℕ) (effect : Effect) → CallersStand o.setup cs past → c < o.setup.callers → IsAt effect (Some step.Begin) (caller_at cs c).call → ((v : ℕ) → inside v past ≡ true → request_in (caller_at cs c).call ≤ asked_at (flushed v past) past) → IsBlocked o (OfCaller c) past → ⊥
unblocked_ack o {past = past} c effect st lt at done =
    let g = in_bracket c effect (Some step.Begin) st lt at in
    not_judging o c g.y past g.call_is (acks_not (bracket c past) past (all_flushed c effect st lt at done))

-- nor after its acknowledgement
pub unblocked_change : (o : Orders) {cs : List Caller} {past : List Entry} (c : ℕ) (effect : Effect) → CallersStand o.setup cs past → c < o.setup.callers → IsAt effect (Some step.Acked) (caller_at cs c).call → IsBlocked o (OfCaller c) past → ⊥
unblocked_change o {past = past} c effect st lt at =
    let g = in_bracket c effect (Some step.Acked) st lt at in
    let z = acked_is effect g.x.request g.y.made (bracket c past) (plan_of o.setup g.y past) past g.stage in
    not_judging o c g.y past g.call_is (is_acked (bracket c past) z.0 past z.1 z.2.is_acked)

pub unblocked_end : (o : Orders) {cs : List Caller} {past : List Entry} (c : ℕ) (effect : Effect) → CallersStand o.setup cs past → c < o.setup.callers → IsAt effect (Some step.Change) (caller_at cs c).call → IsBlocked o (OfCaller c) past → ⊥
unblocked_end o {past = past} c effect st lt at =
    let g = in_bracket c effect (Some step.Change) st lt at in
    let z = changed_is effect g.x.request g.y.made (bracket c past) (plan_of o.setup g.y past) past g.stage in
    not_judging o c g.y past g.call_is (is_acked (bracket c past) z.0 past z.1 z.2.is_acked)

-- nor one that adds pages
pub unblocked_pages : (o : Orders) {cs : List Caller} {past : List Entry} (c : ℕ) (q : PagePlan) → CallersStand o.setup cs past → c < o.setup.callers → AddsPages q (caller_at cs c).call → IsBlocked o (OfCaller c) past → ⊥
unblocked_pages o {past = past} c q st lt at =
    let g = adding_pages c q st lt at in
    not_judging o c g.y past g.call_is (no_ack (bracket c past) past g.stage.no_bracket)
