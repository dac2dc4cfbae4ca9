use Rattle.std.proofs.Common.{List, ap, sym, ◌∙◌}
use Rattle.gm_flat.specs.declared.views.SlotView.{SlotView}
use Rattle.gm_flat.specs.Calls.{meets_slot}
use Rattle.gm_flat.specs.Effects.{dropped}
use Rattle.gm_views.proofs.Standing.{tested}
use Rattle.gm_views.proofs.slots.ShownSlots.can_add.Goals as goal

pub returns-then-pages_fit : goal.returns-then-pages_fit
returns-then-pages_fit c =
    tested c.args.slot.now c.args.self.now c.meets_other.result (sym c.has_new_id.ensures ∙ c.if-has_new_id.true) (sym c.pages_fit.ensures ∙ c.if-pages_fit.true)
    (c.meets_other.ensures ∙ ap (λ (l : List SlotView). meets_slot c.args.slot.now.base c.args.slot.now.pages (dropped c.args.slot.now.id l)) c.self.view_is)
