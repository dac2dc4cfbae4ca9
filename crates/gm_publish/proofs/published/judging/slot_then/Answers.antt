use Rattle.gm_publish.proofs.Elsewhere.{slot_left}
use Rattle.gm_publish.proofs.published.judging.slot_then.Goals as goal

pub returns-then-leave_slot : goal.returns-then-leave_slot
returns-then-leave_slot c = slot_left c.args.page c.args.count c.slot-slot.result c.args.machine.now.past c.args.kept.now c.requires.kept (c.leave_slot.ensures c.if-leave_slot.true) c.slot-slot.ensures
