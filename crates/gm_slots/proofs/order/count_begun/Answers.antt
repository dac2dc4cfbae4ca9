use Rattle.std.proofs.Common.{leb, leb-true, leb-false, arith, rules}
use Rattle.std.proofs.lemmas.List.Sorted.{IsPartitionPoint-from_clause, IsPartitionedBy-leb}
use Rattle.gm_slots.specs.declared.order.Begin.{Begin}
use Rattle.gm_slots.proofs.Orders.{not_falling}
use Rattle.gm_slots.proofs.order.count_begun.Goals as goal

pub returns-clause-low : goal.returns-clause-low
returns-clause-low c =
    let parted = IsPartitionedBy-leb (λ (b : Begin). b.base) _ c.args.page (not_falling _ c.requires) in
    let point = IsPartitionPoint-from_clause (λ (b : Begin). leb b.base c.args.page) _ _ c.partition_point.ensures.partitioned parted (λ a r q k. search rules) in
    λ at d h. leb-true _ _ (point.0 at d (omega arith) h)

pub returns-clause-high : goal.returns-clause-high
returns-clause-high c =
    let parted = IsPartitionedBy-leb (λ (b : Begin). b.base) _ c.args.page (not_falling _ c.requires) in
    let point = IsPartitionPoint-from_clause (λ (b : Begin). leb b.base c.args.page) _ _ c.partition_point.ensures.partitioned parted (λ a r q k. search rules) in
    λ at d h l. leb-false _ _ (point.1 at d h l)
