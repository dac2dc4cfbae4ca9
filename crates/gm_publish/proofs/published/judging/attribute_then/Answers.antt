use Rattle.std.proofs.Common.{◌∙◌}
use Rattle.gm_publish.proofs.Elsewhere.{attribute_left}
use Rattle.gm_publish.proofs.published.judging.attribute_then.Goals as goal

pub returns-then-leave_attribute : goal.returns-then-leave_attribute
returns-then-leave_attribute c = c.attribute.ensures ∙ attribute_left c.args.page c.args.count c.args.machine.now.past c.args.kept.now c.requires.kept (c.leave_attribute.ensures c.if-leave_attribute.true)
