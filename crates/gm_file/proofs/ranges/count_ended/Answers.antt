use Rattle.std.proofs.Common.{leb, leb-true, leb-false, arith, rules}
use Rattle.std.proofs.lemmas.List.Sorted.{IsPartitionPoint-from_clause, IsPartitionedBy-leb}
use Rattle.gm_file.specs.declared.ranges.BoundRange.{BoundRange}
use Rattle.gm_file.proofs.Meeting.{ends_rise}
use Rattle.gm_file.proofs.ranges.count_ended.Goals as goal

pub returns-clause-low : goal.returns-clause-low
returns-clause-low c =
    let parted = IsPartitionedBy-leb (λ (r : BoundRange). r.hi) _ c.args.index (ends_rise _ c.requires) in
    let point = IsPartitionPoint-from_clause (λ (r : BoundRange). leb r.hi c.args.index) _ _ c.partition_point.ensures.partitioned parted (λ a r q k. search rules) in
    λ at d h. leb-true _ _ (point.0 at d (omega arith) h)

pub returns-clause-high : goal.returns-clause-high
returns-clause-high c =
    let parted = IsPartitionedBy-leb (λ (r : BoundRange). r.hi) _ c.args.index (ends_rise _ c.requires) in
    let point = IsPartitionPoint-from_clause (λ (r : BoundRange). leb r.hi c.args.index) _ _ c.partition_point.ensures.partitioned parted (λ a r q k. search rules) in
    λ at d h l. leb-false _ _ (point.1 at d h l)
