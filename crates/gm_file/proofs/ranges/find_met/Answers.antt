use Rattle.std.proofs.Common.{◌+◌, sym, ◌∙◌, ap, arith, List, refl}
use Rattle.gm_file.specs.declared.ranges.BoundRange.{BoundRange}
use Rattle.gm_file.specs.Ranges.{range_at}
use Rattle.gm_file.proofs.Meeting.{Ended, begun_none, begun_some, find_at, none_in_nothing}
use Rattle.gm_file.proofs.ranges.find_met.Goals as goal
use Rattle.gm_file.proofs.ranges.find_met.Goals.{else-place-ranges-via-then-place-ranges+else-ranges-place, else-place-ranges-via-else-place-ranges}

-- what the code reads past the end, where it never reads
abbrev blank : BoundRange
blank = record { lo = 0; hi = 0; slot = 0 }

pub returns-then-hi-lo : goal.returns-then-hi-lo
returns-then-hi-lo c =
    sym (ap (λ (rs : List BoundRange). range_at c.args.at rs) (none_in_nothing c.args.lo c.args.hi c.args.ranges.now c.if-hi-lo.true))

pub returns-then-ranges-place : goal.returns-then-ranges-place
returns-then-ranges-place c =
    let ended : Ended c.args.ranges.now c.args.lo c.count_ended.result = record { within = c.count_ended.ensures.bound; low = c.count_ended.ensures.low; high = c.count_ended.ensures.high } in
    sym (find_at 0 c.args.lo c.args.hi c.count_ended.result c.args.at (c.count_ended.result + c.args.at) c.args.ranges.now blank c.requires (omega arith) ended refl ∙ begun_some c.args.hi (c.count_ended.result + c.args.at) c.args.ranges.now blank (omega arith) (omega arith))

pub returns-else-place-ranges : goal.returns-else-place-ranges
returns-else-place-ranges c =
    let ended : Ended c.args.ranges.now c.args.lo c.count_ended.result = record { within = c.count_ended.ensures.bound; low = c.count_ended.ensures.low; high = c.count_ended.ensures.high } in
    sym (find_at 0 c.args.lo c.args.hi c.count_ended.result c.args.at (c.count_ended.result + c.args.at) c.args.ranges.now blank c.requires (omega arith) ended refl
    ∙ begun_none c.args.hi (c.count_ended.result + c.args.at) c.args.ranges.now blank (elim c.else-place-ranges.branch [
      | else-place-ranges-via-then-place-ranges+else-ranges-place w ↦ λ l. omega arith
      | else-place-ranges-via-else-place-ranges w ↦ λ l. absurd (omega arith)
    ]))
