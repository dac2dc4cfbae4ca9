use Rattle.std.proofs.Common.{ltb, ltb-true, ltb-false, arith, rules}
use Rattle.std.proofs.lemmas.List.Sorted.{IsPartitionPoint-from_clause, IsPartitionedBy-ltb}
use Rattle.gm_file.specs.declared.ranges.BoundRange.{BoundRange}
use Rattle.gm_file.proofs.Meeting.{starts_rise}
use Rattle.gm_file.proofs.ranges.count_begun.Goals as goal

pub returns-clause-low : goal.returns-clause-low
returns-clause-low c =
    let parted = IsPartitionedBy-ltb (λ (r : BoundRange). r.lo) _ c.args.index (starts_rise _ c.requires) in
    let point = IsPartitionPoint-from_clause (λ (r : BoundRange). ltb r.lo c.args.index) _ _ c.partition_point.ensures.partitioned parted (λ a r q k. search rules) in
    λ at d h. ltb-true _ _ (point.0 at d (omega arith) h)

pub returns-clause-high : goal.returns-clause-high
returns-clause-high c =
    let parted = IsPartitionedBy-ltb (λ (r : BoundRange). r.lo) _ c.args.index (starts_rise _ c.requires) in
    let point = IsPartitionPoint-from_clause (λ (r : BoundRange). ltb r.lo c.args.index) _ _ c.partition_point.ensures.partitioned parted (λ a r q k. search rules) in
    λ at d h l. ltb-false _ _ (point.1 at d h l)
