use Rattle.std.proofs.Common.{ℕ, subst}
use Rattle.gm_tlb.specs.Requests.{IsDoneByAll, IsLeastWaiting}
use Rattle.gm_turns.proofs.Blocking.{ack_unblocked, waits_inside}
use Rattle.gm_turns.proofs.BracketTurns.{ack_turn}
use Rattle.gm_turns.proofs.brackets.acknowledge.Goals as goal

pub returns-in-Some-clause-waits : goal.returns-in-Some-clause-waits
returns-in-Some-clause-waits c = waits_inside c.args.core.now c.args.c c.in-Some.v c.requires.at.0 c.requires.ready.settled c.requires.ready.actor_is c.requires.at.1 (subst (λ (n : ℕ). IsLeastWaiting c.args.core.now.mmu.requests n c.in-Some.v) c.request.ensures c.in-Some.ensures)

pub returns-in-None-clause-acked : goal.returns-in-None-clause-acked
returns-in-None-clause-acked c = rw (c.note.ensures, c.step.ensures) (ack_turn c.args.core.now c.args.c c.requires.at.0 c.requires.ready c.requires.at.1 (subst (λ (n : ℕ). IsDoneByAll c.args.core.now.mmu.requests n) c.request.ensures c.in-None.ensures))

pub returns-in-None-clause-unblocked : goal.returns-in-None-clause-unblocked
returns-in-None-clause-unblocked c = ack_unblocked c.args.core.now c.args.c c.requires.at.0 c.requires.ready.settled c.requires.ready.actor_is c.requires.at.1 (subst (λ (n : ℕ). IsDoneByAll c.args.core.now.mmu.requests n) c.request.ensures c.in-None.ensures)
