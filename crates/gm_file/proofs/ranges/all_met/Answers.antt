use Rattle.std.proofs.Common.{◌≡◌, ◌-◌, sym, ◌∙◌, ap, subst, List, length, take, drop}
use Rattle.std.proofs.lemmas.List.{take_rest}
use Rattle.gm_file.specs.declared.ranges.BoundRange.{BoundRange}
use Rattle.gm_file.proofs.Meeting.{Begun, Ended, all_within, drop_apart, none_in_nothing}
use Rattle.gm_file.proofs.ranges.all_met.Goals as goal

pub returns-then-hi-lo : goal.returns-then-hi-lo
returns-then-hi-lo c = sym (none_in_nothing c.args.lo c.args.hi c.args.ranges.now c.if-hi-lo.true)

pub count_begun-requires : goal.count_begun-requires
count_begun-requires c = rw take_rest (drop_apart 0 c.count_ended-first.result c.args.ranges.now c.requires)

pub returns : goal.returns
returns c =
    let first = c.count_ended-first.result in
    let count = c.count_begun.result in
    let all = c.args.ranges.now in
    let rest : take (length all - first) (drop first all) ≡ drop first all = take_rest all first in
    let ended : Ended all c.args.lo first = record { within = c.count_ended-first.ensures.bound; low = c.count_ended-first.ensures.low; high = c.count_ended-first.ensures.high } in
    let begun : Begun (take (length all - first) (drop first all)) c.args.hi count = record { within = c.count_begun.ensures.bound; low = c.count_begun.ensures.low; high = c.count_begun.ensures.high } in
    ap (λ (rs : List BoundRange). take count rs) rest
    ∙ sym (all_within 0 c.args.lo c.args.hi first count all c.requires c.if-hi-lo.false ended (subst (λ (rs : List BoundRange). Begun rs c.args.hi count) rest begun))
