use Rattle.std.proofs.Common.{◌∙◌, Option, Some, ap, subst}
use Rattle.std.specs.Prelude.{IfSome}
use Rattle.gm_base.specs.declared.script.Command.{Command}
use Rattle.gm_turns.proofs.ActorTurns.{next_of_caller}
use Rattle.gm_turns.specs.Ready.{IsIoctl}
use Rattle.gm_turns.proofs.caller_turns.next_ioctl.Goals as goal

pub unreachable-requires : goal.unreachable-requires
unreachable-requires c =
    let p = next_of_caller c.args.core.now c.args.c c.requires.settled c.requires.actor c.index-commands.result.now c.ended.result c.get.result c.index-commands.ensures c.ended.ensures c.get.ensures in
    subst (λ (x : Option Command). IfSome x IsIoctl) (c.in-Some.is ∙ ap Some c.in-Touch.is) p.1

pub returns-in-Call : goal.returns-in-Call
returns-in-Call c =
    let p = next_of_caller c.args.core.now c.args.c c.requires.settled c.requires.actor c.index-commands.result.now c.ended.result c.get.result c.index-commands.ensures c.ended.ensures c.get.ensures in
    p.0 ∙ (c.in-Some.is ∙ ap Some c.in-Call.is)

pub returns-in-None : goal.returns-in-None
returns-in-None c =
    let p = next_of_caller c.args.core.now c.args.c c.requires.settled c.requires.actor c.index-commands.result.now c.ended.result c.get.result c.index-commands.ensures c.ended.ensures c.get.ensures in
    p.0 ∙ c.in-None.is
