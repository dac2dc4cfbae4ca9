use Rattle.std.proofs.Common.{arith, rules}
use Rattle.gm_slots.proofs.Keeping.{kept_new, kept_view}
use Rattle.gm_slots.proofs.kept.KeptSlots.new.Goals as goal

pub invariant_of-result : goal.invariant_of-result
invariant_of-result c = (
  kept_view _ _ _ _ (kept_new c.in_ok-table.table.items c.in_ok-ages.ages.items c.in_ok-order.order.items (c.in_ok-table.ensures.items_if_clones_equal (λ y h. search rules)) c.in_ok-ages.ensures.items c.in_ok-order.ensures.items),
  omega (arith, c.in_ok-ages.ensures.exact),
  omega (arith, c.in_ok-order.ensures.exact),
)
