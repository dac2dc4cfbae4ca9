use Rattle.std.proofs.Common.{◌≡◌, subst}
use Rattle.gm_callers.proofs.Waits.{unblocked_begin, unblocked_change, unblocked_end, unblocked_pages}
use Rattle.gm_callers.specs.Callers.{caller_at}
use Rattle.gm_calls.specs.declared.call.Step.{Step}
use Rattle.gm_turns.proofs.ActorTurns.{caller_taken}
use Rattle.gm_turns.specs.Room.{orders_of}
use Rattle.gm_turns.specs.Stepping.{IsStepOf}
use Rattle.gm_turns.proofs.caller_turns.step_turn.Goals as goal

pub returns-in-Begin : goal.returns-in-Begin
returns-in-Begin c =
    let k = c.args.core.now in
    let at = subst (λ (z : Step). IsStepOf (caller_at k.callers c.args.c).call z) c.in-Begin.is c.requires.step in
    caller_taken k _ c.args.c c.requires.ready c.requires.present (unblocked_begin (orders_of k) c.args.c at.0 c.requires.ready.settled.stands.callers c.requires.ready.actor_is at.1) c.begin.ensures

pub returns-in-Change : goal.returns-in-Change
returns-in-Change c =
    let k = c.args.core.now in
    let at = subst (λ (z : Step). IsStepOf (caller_at k.callers c.args.c).call z) c.in-Change.is c.requires.step in
    caller_taken k _ c.args.c c.requires.ready c.requires.present (unblocked_change (orders_of k) c.args.c at.0 c.requires.ready.settled.stands.callers c.requires.ready.actor_is at.1) c.change.ensures

pub returns-in-End : goal.returns-in-End
returns-in-End c =
    let k = c.args.core.now in
    let at = subst (λ (z : Step). IsStepOf (caller_at k.callers c.args.c).call z) c.in-End.is c.requires.step in
    caller_taken k _ c.args.c c.requires.ready c.requires.present (unblocked_end (orders_of k) c.args.c at.0 c.requires.ready.settled.stands.callers c.requires.ready.actor_is at.1) c.end.ensures

pub returns-in-PageStep : goal.returns-in-PageStep
returns-in-PageStep c =
    let k = c.args.core.now in
    let adds = subst (λ (z : Step). IsStepOf (caller_at k.callers c.args.c).call z) c.in-PageStep.is c.requires.step in
    caller_taken k _ c.args.c c.requires.ready c.requires.present (unblocked_pages (orders_of k) c.args.c adds.0 c.requires.ready.settled.stands.callers c.requires.ready.actor_is adds.1) c.page_turn.ensures
