use Rattle.gm_publish.proofs.Before.{before_more}
use Rattle.gm_publish.proofs.published.elsewhere.leave_slot.Goals as goal

pub loop-change-preserved : goal.loop-change-preserved
loop-change-preserved c = before_more c.args.slot c.args.changes.now c.loop-change.change-index c.change-item.result c.loop-change-test.true c.change-item.is (c.leaves_slot.ensures c.if-not-leaves_slot.false) c.loop-change.invariant
