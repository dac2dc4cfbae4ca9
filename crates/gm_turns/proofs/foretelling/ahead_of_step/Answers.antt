use Rattle.std.proofs.Common.{arith, subst, sym}
use Rattle.gm_callers.specs.Callers.{caller_at}
use Rattle.gm_calls.specs.declared.call.Step.{Step}
use Rattle.gm_turns.proofs.BracketTurns.{one_open, seq_fits}
use Rattle.gm_turns.proofs.CoreForetold.{acked_foretold, begin_foretold, change_foretold, end_foretold, pages_foretold}
use Rattle.gm_turns.specs.Stepping.{IsStepOf}
use Rattle.gm_turns.proofs.foretelling.ahead_of_step.Goals as goal

pub end_ahead-requires-clause-open : goal.end_ahead-requires-clause-open
end_ahead-requires-clause-open c =
    let k = c.args.core.now in
    let at = subst (λ (z : Step). IsStepOf (caller_at k.callers c.args.c).call z) c.in-End.is c.requires.step in
    let one = one_open k c.args.c at.0 c.requires.ready at.1 in
    let e = c.requires.ready.settled.stands.mapping.count_is in
    omega arith

pub end_ahead-requires-clause-seq : goal.end_ahead-requires-clause-seq
end_ahead-requires-clause-seq c = seq_fits c.args.core.now c.args.c c.requires.ready

pub returns-in-Begin : goal.returns-in-Begin
returns-in-Begin c =
    let k = c.args.core.now in
    let at = subst (λ (z : Step). IsStepOf (caller_at k.callers c.args.c).call z) c.in-Begin.is c.requires.step in
    begin_foretold k c.args.c c.begin_ahead.result c.requires.ready c.requires.present at c.begin_ahead.ensures.loud c.begin_ahead.ensures.seq c.begin_ahead.ensures.count c.begin_ahead.ensures.hull

pub returns-in-Change : goal.returns-in-Change
returns-in-Change c =
    let k = c.args.core.now in
    let at = subst (λ (z : Step). IsStepOf (caller_at k.callers c.args.c).call z) c.in-Change.is c.requires.step in
    change_foretold k c.args.c c.effect_of.result c.change_ahead.result c.requires.ready c.requires.present (rw (c.effect_of.ensures at.0 (rw c.call.ensures at.1)) at.1) c.change_ahead.ensures

pub returns-in-End : goal.returns-in-End
returns-in-End c =
    let k = c.args.core.now in
    let at = subst (λ (z : Step). IsStepOf (caller_at k.callers c.args.c).call z) c.in-End.is c.requires.step in
    end_foretold k c.args.c at.0 c.end_ahead.result c.requires.ready c.requires.present at.1 c.end_ahead.ensures

pub returns-in-Acked : goal.returns-in-Acked
returns-in-Acked c =
    let k = c.args.core.now in
    let at = subst (λ (z : Step). IsStepOf (caller_at k.callers c.args.c).call z) c.in-Acked.is c.requires.step in
    acked_foretold k c.args.c at.0 c.requires.ready at.1

pub returns-in-PageStep : goal.returns-in-PageStep
returns-in-PageStep c =
    let k = c.args.core.now in
    let adds = subst (λ (z : Step). IsStepOf (caller_at k.callers c.args.c).call z) c.in-PageStep.is c.requires.step in
    pages_foretold k c.args.c adds.0 c.requires.ready adds.1
