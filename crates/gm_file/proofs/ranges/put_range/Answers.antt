use Rattle.std.proofs.Common.{sym, ◌∙◌, arith}
use Rattle.gm_file.proofs.Meeting.{Ended, fits_of, with_range_is, with_range_apart}
use Rattle.gm_file.proofs.ranges.put_range.Goals as goal

pub returns-clause-items : goal.returns-clause-items
returns-clause-items c =
    let ended : Ended c.deref.result.now c.args.range.lo c.count_ended-place.result = record { within = c.count_ended-place.ensures.bound; low = c.count_ended-place.ensures.low; high = c.count_ended-place.ensures.high } in
    let fits = fits_of c.args.range c.args.ranges.now.items c.deref.result.now c.count_ended-place.result c.deref.ensures.value c.requires.apart c.requires.some ended c.requires.free in
    c.in-Ok.ensures.items ∙ sym (with_range_is 0 c.count_ended-place.result c.args.range c.args.ranges.now.items c.requires.apart c.requires.some fits)

pub returns-clause-apart : goal.returns-clause-apart
returns-clause-apart c =
    let ended : Ended c.deref.result.now c.args.range.lo c.count_ended-place.result = record { within = c.count_ended-place.ensures.bound; low = c.count_ended-place.ensures.low; high = c.count_ended-place.ensures.high } in
    let fits = fits_of c.args.range c.args.ranges.now.items c.deref.result.now c.count_ended-place.result c.deref.ensures.value c.requires.apart c.requires.some ended c.requires.free in
    rw (returns-clause-items c) (with_range_apart 0 c.count_ended-place.result c.args.range c.args.ranges.now.items c.requires.apart (omega arith) c.requires.some c.requires.limit fits)
