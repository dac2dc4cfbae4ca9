use Rattle.std.proofs.Common.{◌≡◌, ◌∙◌, Option, None, subst, sym}
use Rattle.std.specs.Prelude.{MatchOption}
use Rattle.gm_callers.specs.Callers.{caller_at}
use Rattle.gm_callers.specs.declared.caller.InProgress.{InProgress}
use Rattle.gm_turns.proofs.ActorTurns.{follows}
use Rattle.gm_turns.specs.Stepping.{IsStepOf}
use Rattle.gm_turns.proofs.caller_turns.next_step.Goals as goal

pub after-requires : goal.after-requires
after-requires c = (follows c.args.core.now c.args.c c.in-Some.x c.requires.settled c.requires.actor (sym c.call.ensures ∙ c.in-Some.is)).in_order

pub returns-in-Some : goal.returns-in-Some
returns-in-Some c =
    let e = sym c.call.ensures ∙ c.in-Some.is in
    let f = follows c.args.core.now c.args.c c.in-Some.x c.requires.settled c.requires.actor e in
    subst (λ (o : Option InProgress). MatchOption c.after.result ((caller_at c.args.core.now.callers c.args.c).call ≡ None) (IsStepOf o)) (sym e) (f.step ((caller_at c.args.core.now.callers c.args.c).call ≡ None) c.after.result c.after.ensures.step)
