-- Whom an actor waits for is one, and can go on.
use Rattle.std.proofs.Common.{◌≡◌, ℕ, ◌<◌, List, true, Option, Some, None, arith, sym, ◌∙◌, ap, subst, refl, inl, inr}
use Rattle.std.proofs.lemmas.Bool.{both_ways, cases_order}
use Rattle.std.specs.Prelude.{IfSome, IsSome}
use Rattle.gm_base.specs.Scripts.{IsOf, Orders}
use Rattle.gm_base.specs.declared.calls.Ioctl.{Ioctl}
use Rattle.gm_base.specs.declared.script.Command.TheVariants.{Call as CallCommand}
use Rattle.gm_base.specs.declared.values.Actor.{Actor}
use Rattle.gm_base.specs.declared.values.Actor.TheVariants.{Vcpu, Caller}
use Rattle.gm_base.specs.declared.values.Setup.{Setup}
use Rattle.gm_callers.proofs.Waits.{blocked_on_caller}
use Rattle.gm_callers.specs.Stand.{CallersStand, OpenIs}
use Rattle.gm_callers.specs.Callers.{caller_at}
use Rattle.gm_callers.specs.Waiting.{HoldsNeeded, IsUnflushed, WaitsOnCaller, WaitsOnVcpu}
use Rattle.gm_callers.specs.declared.caller.Caller.{Caller as OneCaller}
use Rattle.gm_callers.specs.declared.caller.InProgress.{InProgress}
use Rattle.gm_flat.specs.Histories.{Bracket, Call as Past, bracket, call, gone}
use Rattle.gm_flat.specs.Mappings.{inside, pending}
use Rattle.gm_flat.specs.RightHistory.{Right}
use Rattle.gm_flat.specs.RightOrder.{IsBlocked, WaitsToAck}
use Rattle.gm_flat.specs.declared.entry.Entry.{Entry}
use Rattle.gm_laws.proofs.Parts.{invariant_now}
use Rattle.gm_laws.specs.Invariant.{FlushedInside}
use Rattle.gm_machine.proofs.Actors.{caller_is, vcpu_is}
use Rattle.gm_machine.specs.Blockers.{BlockerGoesOn, FlushGoesOn, HolderGoesOn, blocker_in}
use Rattle.gm_machine.specs.Steps.{Seen, StepsTo}
use Rattle.gm_turns.specs.Waiting.{IsBlocker, WaitsOn}
use Rattle.gm_turns.specs.declared.outcome.Blocker.{Blocker}
use Rattle.gm_turns.specs.declared.outcome.Blocker.TheVariants.{Lock, Inside}
use Rattle.gm_turns.specs.declared.outcome.How.TheVariants.{Next, Kick}
use Rattle.gm_turns.specs.declared.outcome.Outcome.{Outcome}
use Rattle.gm_turns.specs.declared.outcome.Outcome.TheVariants.{Moved, Done, Nothing, Waits}

-- who waits is blocked

waits_blocked : (o : Orders) (a : Actor) (b : Blocker) (past : List Entry) → WaitsOn o a b past → IsBlocked o a past
waits_blocked o (Caller c) (Lock holder) past w = blocked_on_caller o c holder past w
waits_blocked o (Caller c) (Inside v) past w = inr w.waits
waits_blocked o (Vcpu v) b past w = w

-- an actor waits for one alone

least_of : (P : ℕ → Type 0) (m n : ℕ) → P m → P n → ((k : ℕ) → k < m → P k → ⊥) → ((k : ℕ) → k < n → P k → ⊥) → m ≡ n
least_of P m n h g below_m below_n = elim (cases_order m n) [
  | inl same ↦ same
  | inr other ↦ elim other [
    | inl less ↦ absurd (below_n m less h)
    | inr more ↦ absurd (below_m n more g)
  ]
]

same_call : (i j : Ioctl) → Some (CallCommand i) ≡ Some (CallCommand j) → i ≡ j
same_call i j e = cc

-- two callers that a call waits for are one
one_holder : (o : Orders) (c m n : ℕ) (past : List Entry) → WaitsOnCaller o c m past → WaitsOnCaller o c n past → m ≡ n
one_holder o c m n past w u =
    let same : u.ioctl ≡ w.ioctl = same_call u.ioctl w.ioctl (sym u.command ∙ w.command) in
    least_of (λ k. HoldsNeeded c k w.ioctl past) m n w.holds (subst (λ (i : Ioctl). HoldsNeeded c n i past) same u.holds) w.least
    (λ k less h. u.least k less (subst (λ (i : Ioctl). HoldsNeeded c k i past) (sym same) h))

one_vcpu : (c m n : ℕ) (past : List Entry) → WaitsOnVcpu c m past → WaitsOnVcpu c n past → m ≡ n
one_vcpu c m n past w u = least_of (λ k. IsUnflushed (bracket c past) k past) m n w.unflushed u.unflushed w.least u.least

waits_open : (b : Option Bracket) (past : List Entry) → b ≡ None → WaitsToAck b past → ⊥
waits_open None past e w = w
waits_open (Some b) past e w = cc

-- a caller without a call in progress has no bracket
abbrev NoBracket : Actor → List Entry → Type 0
NoBracket (Vcpu v) past = Unit {0}
NoBracket (Caller c) past = call c past ≡ None → bracket c past ≡ None

one_blocker : (o : Orders) (a : Actor) (b d : Blocker) (past : List Entry) → NoBracket a past → WaitsOn o a b past → WaitsOn o a d past → b ≡ d
one_blocker o (Caller c) (Lock m) (Lock n) past none w u = ap Lock (one_holder o c m n past w u)
one_blocker o (Caller c) (Inside m) (Inside n) past none w u = ap Inside (one_vcpu c m n past w u)
one_blocker o (Caller c) (Lock m) (Inside n) past none w u = absurd (waits_open (bracket c past) past (none w.none_in_progress) u.waits)
one_blocker o (Caller c) (Inside m) (Lock n) past none w u = absurd (waits_open (bracket c past) past (none u.none_in_progress) w.waits)
one_blocker o (Vcpu v) b d past none w u = absurd w

open_none : (s : Setup) (x : Option InProgress) (y : Option Past) (b : Option Bracket) (past : List Entry) → y ≡ None → OpenIs s x y b past → b ≡ None
open_none s None None None past e h = refl
open_none s None None (Some b) past e h = absurd h
open_none s (Some x) None b past e h = absurd h
open_none s x (Some y) b past e h = absurd (cc)

pub no_bracket : (s : Setup) (cs : List OneCaller) (a : Actor) (past : List Entry) → CallersStand s cs past → IsOf s a → NoBracket a past
no_bracket s cs (Vcpu v) past st lt = tt
no_bracket s cs (Caller c) past st lt = λ e. open_none s (caller_at cs c).call (call c past) (bracket c past) past e (st.each c lt).open_is

-- it is the one that a turn answers
pub turn_tells : (m new : Seen) (a : Actor) (b : Option Blocker) (outcome : Outcome) → NoBracket a m.past → IsBlocker m.orders a m.past b → StepsTo m new a Next outcome → b ≡ blocker_in outcome
turn_tells m new a None Moved none h s = refl
turn_tells m new a None Done none h s = refl
turn_tells m new a None Nothing none h s = absurd s
turn_tells m new a None (Waits d) none h s = elim h [
  | inl left ↦ absurd (both_ways (gone a m.past) s.present left)
  | inr free ↦ absurd (free (waits_blocked m.orders a d m.past s.waits))
]
turn_tells m new a (Some b) Moved none h s = absurd (s.unblocked (waits_blocked m.orders a b m.past h.1))
turn_tells m new a (Some b) Done none h s = absurd (both_ways (gone a m.past) h.0 s.absent)
turn_tells m new a (Some b) Nothing none h s = absurd s
turn_tells m new a (Some b) (Waits d) none h s = ap Some (one_blocker m.orders a b d m.past none h.1 s.waits)

-- and can go on

none_some : (o : Option Past) (x : Past) → o ≡ Some x → o ≡ None → ⊥
none_some o x e f = let g = sym e ∙ f in cc

some_is : (o : Option Past) (x : Past) → o ≡ Some x → IsSome o
some_is o x e = subst (λ (z : Option Past). IsSome z) (sym e) refl

holder_goes_on : (m : Seen) (c holder : ℕ) → Right m.orders m.past → WaitsOnCaller m.orders c holder m.past → HolderGoesOn m holder
holder_goes_on m c holder r w =
    let x = w.holds.holds in
    record {
      is_caller = caller_is m.orders m.past r.order holder x.0 x.1;
      in_progress = some_is (call holder m.past) x.0 x.1;
      no_lock = λ new other s. none_some (call holder m.past) x.0 x.1 s.waits.none_in_progress;
    }

kick_moves : (m new : Seen) (v : ℕ) (outcome : Outcome) → pending v m.past ≡ true → StepsTo m new (Vcpu v) Kick outcome → outcome ≡ Moved
kick_moves m new v Moved p s = refl
kick_moves m new v Done p s = absurd s
kick_moves m new v Nothing p s = absurd (both_ways (pending v m.past) s.none_pending p)
kick_moves m new v (Waits b) p s = absurd s

-- a vCPU that hasn't flushed since a bracket began is asked to
asked_by : (past : List Entry) (c v : ℕ) (o : Option Bracket) → bracket c past ≡ o → FlushedInside past → IsUnflushed o v past → (inside v past ≡ true) × (pending v past ≡ true)
asked_by past c v None e f u = absurd u
asked_by past c v (Some b) e f u = (
  u.0,
  elim (f.is_asked c v b e) [
    | inl since ↦ let before = u.1 in absurd (omega arith)
    | inr asked ↦ asked
  ],
)

flush_goes_on : (m : Seen) (c v : ℕ) → Right m.orders m.past → WaitsOnVcpu c v m.past → FlushGoesOn m v
flush_goes_on m c v r w =
    let a = asked_by m.past c v (bracket c m.past) refl (invariant_now m.orders m.past r).flushed_inside w.unflushed in
    record {
      is_vcpu = vcpu_is m.orders m.past r.order v a.0;
      is_pending = a.1;
      kick_moves = λ new outcome s. kick_moves m new v outcome a.1 s;
    }

pub blocker_goes_on : (m : Seen) (a : Actor) (b : Blocker) → Right m.orders m.past → WaitsOn m.orders a b m.past → BlockerGoesOn m b
blocker_goes_on m (Caller c) (Lock holder) r w = holder_goes_on m c holder r w
blocker_goes_on m (Caller c) (Inside v) r w = flush_goes_on m c v r w
blocker_goes_on m (Vcpu v) b r w = absurd w

pub told_goes_on : (m : Seen) (a : Actor) (b : Option Blocker) → Right m.orders m.past → IsBlocker m.orders a m.past b → IfSome b (BlockerGoesOn m)
told_goes_on m a None r h = tt
told_goes_on m a (Some b) r h = blocker_goes_on m a b r h.1
