use Rattle.std.proofs.Common.{◌∙◌, Option, Some, ap, subst}
use Rattle.std.specs.Prelude.{IfSome}
use Rattle.gm_base.specs.declared.script.Command.{Command}
use Rattle.gm_turns.proofs.ActorTurns.{next_of_vcpu}
use Rattle.gm_turns.specs.Ready.{IsAccess}
use Rattle.gm_turns.proofs.vcpu_turns.next_access.Goals as goal

pub unreachable-requires : goal.unreachable-requires
unreachable-requires c =
    let p = next_of_vcpu c.args.core.now c.args.v c.requires.settled c.requires.actor c.index-commands.result.now c.ended.result c.get.result c.index-commands.ensures c.ended.ensures c.get.ensures in
    subst (λ (x : Option Command). IfSome x IsAccess) (c.in-Some.is ∙ ap Some c.in-Call.is) p.1

pub returns-in-Touch : goal.returns-in-Touch
returns-in-Touch c =
    let p = next_of_vcpu c.args.core.now c.args.v c.requires.settled c.requires.actor c.index-commands.result.now c.ended.result c.get.result c.index-commands.ensures c.ended.ensures c.get.ensures in
    p.0 ∙ (c.in-Some.is ∙ ap Some c.in-Touch.is)

pub returns-in-None : goal.returns-in-None
returns-in-None c =
    let p = next_of_vcpu c.args.core.now c.args.v c.requires.settled c.requires.actor c.index-commands.result.now c.ended.result c.get.result c.index-commands.ensures c.ended.ensures c.get.ensures in
    p.0 ∙ c.in-None.is
