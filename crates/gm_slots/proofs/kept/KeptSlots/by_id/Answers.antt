use Rattle.std.proofs.Common.{List, sym, subst}
use Rattle.gm_flat.specs.declared.views.SlotView.{SlotView}
use Rattle.gm_slots.specs.Good.{Good}
use Rattle.gm_slots.proofs.Keeping.{no_place}
use Rattle.gm_slots.proofs.kept.KeptSlots.by_id.Goals as goal

pub returns-else-id-lt-SLOT_IDS : goal.returns-else-id-lt-SLOT_IDS
returns-else-id-lt-SLOT_IDS c = sym (no_place c.args.self.now c.args.id (subst (λ (l : List SlotView). Good l) c.self.view_is c.self.invariant.0.good) c.if-id-lt-SLOT_IDS.false)
