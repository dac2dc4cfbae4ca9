-- What is told of a turn before it is taken, and what its outcome makes of it.
use Rattle.std.proofs.Common.{◌≡◌, ℕ, ◌+◌, true, false, Option, None, List, refl, sym, subst, ◌∙◌, inl, inr, ◌⊎◌}
use Rattle.gm_base.specs.Scripts.{Orders}
use Rattle.gm_base.specs.declared.values.Actor.{Actor}
use Rattle.gm_base.specs.declared.values.Actor.TheVariants.{Caller, Vcpu}
use Rattle.gm_callers.proofs.Waits.{blocked_on_caller}
use Rattle.gm_flat.specs.RightOrder.{IsBlocked}
use Rattle.gm_flat.specs.declared.entry.Entry.{Entry}
use Rattle.gm_laws.specs.Turns.{IsNewTurn, onto}
use Rattle.gm_turns.proofs.Loudness.{nothing_ahead, vcpu_told}
use Rattle.gm_turns.specs.Ahead.{ahead_in}
use Rattle.gm_turns.specs.Foretold.{Foretells}
use Rattle.gm_turns.specs.Ready.{TookTurn}
use Rattle.gm_turns.specs.Waiting.{WaitsOn}
use Rattle.gm_turns.specs.declared.outcome.Ahead.{Ahead}
use Rattle.gm_turns.specs.declared.outcome.Blocker.{Blocker}
use Rattle.gm_turns.specs.declared.outcome.Blocker.TheVariants.{Inside, Lock}
use Rattle.gm_turns.specs.declared.outcome.How.TheVariants.{Kick, Next}
use Rattle.gm_turns.specs.declared.outcome.Outcome.{Outcome}
use Rattle.gm_turns.specs.declared.outcome.Outcome.TheVariants.{Done, Moved, Nothing, Waits}
use Rattle.gm_machine.specs.Steps.{Seen, StepsTo}

blocked_on : (o : Orders) (a : Actor) (b : Blocker) (past : List Entry) → WaitsOn o a b past → IsBlocked o a past
blocked_on o (Caller c) (Lock d) past w = blocked_on_caller o c d past w
blocked_on o (Caller c) (Inside v) past w = inr w.waits
blocked_on o (Vcpu v) b past w = absurd w

-- the machine stays as it was
stayed : (m new : Seen) (told : Option Ahead) → IsNewTurn (m.turns + 1) m.past → new ≡ m → told ≡ None → told ≡ ahead_in (m.turns + 1) new.past
stayed m new told n same e = subst (λ (z : Seen). told ≡ ahead_in (m.turns + 1) z.past) (sym same) (e ∙ nothing_ahead (m.turns + 1) m.past n)

pub next_seen : (m new : Seen) (a : Actor) (told : Option Ahead) (outcome : Outcome) → IsNewTurn (m.turns + 1) m.past → Foretells m.orders a (m.turns + 1) m.past told → StepsTo m new a Next outcome → told ≡ ahead_in (m.turns + 1) new.past
next_seen m new a told Moved n f s = f.moves new.past s.present s.unblocked s.moves.turn
next_seen m new a told Done n f s = stayed m new told n s.same (f.stays (inl s.absent))
next_seen m new a told (Waits b) n f s = stayed m new told n s.same (f.stays (inr (blocked_on m.orders a b m.past s.waits)))
next_seen m new a told Nothing n f s = absurd s

kick_told : (o : Orders) (t v : ℕ) (before past : List Entry) → IsNewTurn t before → TookTurn o t (Vcpu v) true before past → None ≡ ahead_in t past
kick_told o t v before past n took = subst (λ (h : List Entry). None ≡ ahead_in t h) (sym took.past_is) (vcpu_told t v took.entries before n took.by_tables.row)

pub kick_seen : (m new : Seen) (a : Actor) (outcome : Outcome) → IsNewTurn (m.turns + 1) m.past → StepsTo m new a Kick outcome → None ≡ ahead_in (m.turns + 1) new.past
kick_seen m new (Vcpu v) Moved n s = kick_told m.orders (m.turns + 1) v m.past new.past n s.moves.turn
kick_seen m new (Vcpu v) Nothing n s = stayed m new None n s.same refl
kick_seen m new (Caller c) Moved n s = absurd s
kick_seen m new (Caller c) Nothing n s = absurd s
kick_seen m new a Done n s = absurd s
kick_seen m new a (Waits b) n s = absurd s
