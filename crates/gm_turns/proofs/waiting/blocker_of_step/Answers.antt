use Rattle.std.proofs.Common.{ℕ, subst}
use Rattle.gm_calls.specs.declared.call.Step.{Step}
use Rattle.gm_calls.specs.declared.call.Step.TheVariants as step
use Rattle.gm_callers.specs.Callers.{caller_at}
use Rattle.gm_tlb.specs.Requests.{IsDoneByAll, IsLeastWaiting}
use Rattle.gm_turns.proofs.Blocking.{acked_blocker, acked_free, step_free}
use Rattle.gm_turns.specs.Stepping.{IsStepOf}
use Rattle.gm_turns.proofs.waiting.blocker_of_step.Goals as goal

pub returns-in-Some : goal.returns-in-Some
returns-in-Some c =
    let k = c.args.core.now in
    let at = subst (λ (z : Step). IsStepOf (caller_at k.callers c.args.c).call z) c.in-Acked.is c.requires.step in
    acked_blocker k c.args.c c.in-Some.v c.requires.settled c.requires.actor c.requires.present at (subst (λ (n : ℕ). IsLeastWaiting k.mmu.requests n c.in-Some.v) c.request.ensures c.in-Some.ensures)

pub returns-in-None : goal.returns-in-None
returns-in-None c =
    let k = c.args.core.now in
    let at = subst (λ (z : Step). IsStepOf (caller_at k.callers c.args.c).call z) c.in-Acked.is c.requires.step in
    acked_free k c.args.c c.requires.settled c.requires.actor at (subst (λ (n : ℕ). IsDoneByAll k.mmu.requests n) c.request.ensures c.in-None.ensures)

pub returns-in-Begin : goal.returns-in-Begin
returns-in-Begin c =
    let k = c.args.core.now in
    step_free k c.args.c step.Begin tt c.requires.settled c.requires.actor (subst (λ (z : Step). IsStepOf (caller_at k.callers c.args.c).call z) c.in-Begin.is c.requires.step)

pub returns-in-Change : goal.returns-in-Change
returns-in-Change c =
    let k = c.args.core.now in
    step_free k c.args.c step.Change tt c.requires.settled c.requires.actor (subst (λ (z : Step). IsStepOf (caller_at k.callers c.args.c).call z) c.in-Change.is c.requires.step)

pub returns-in-End : goal.returns-in-End
returns-in-End c =
    let k = c.args.core.now in
    step_free k c.args.c step.End tt c.requires.settled c.requires.actor (subst (λ (z : Step). IsStepOf (caller_at k.callers c.args.c).call z) c.in-End.is c.requires.step)

pub returns-in-PageStep : goal.returns-in-PageStep
returns-in-PageStep c =
    let k = c.args.core.now in
    step_free k c.args.c step.PageStep tt c.requires.settled c.requires.actor (subst (λ (z : Step). IsStepOf (caller_at k.callers c.args.c).call z) c.in-PageStep.is c.requires.step)
