use Rattle.std.proofs.Common.{take}
use Rattle.gm_publish.proofs.Judging.{looked_then}
use Rattle.gm_publish.proofs.published.judging.look_at.Goals as goal

pub returns : goal.returns
returns c = looked_then c.args.at c.args.page c.args.machine.now.past c.args.kept.now (take c.count_until-count.result c.args.kept.now) c.in_ok-slot.slot c.attribute_then-attr.result c.requires c.count_until-count.ensures.view (c.in_ok-slot.ensures {u = tt}) c.attribute_then-attr.ensures
