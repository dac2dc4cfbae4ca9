use Rattle.std.proofs.Common.{◌∙◌, arith}
use Rattle.gm_publish.proofs.Lookups.{come_take, later_take}
use Rattle.gm_publish.proofs.published.judging.count_until.Goals as goal

pub returns-then-kept-count-clause-view : goal.returns-then-kept-count-clause-view
returns-then-kept-count-clause-view c =
    let i = c.loop-count.invariant in
    i.1 ∙ come_take c.args.at c.args.kept.now c.loop-count.count c.index-kept-count.result c.loop-count-test.true i.0 c.if-kept-count.true

pub loop-count-preserved : goal.loop-count-preserved
loop-count-preserved c =
    let i = c.loop-count.invariant in
    (omega arith, i.1 ∙ later_take c.args.at c.args.kept.now c.loop-count.count c.index-kept-count.result c.loop-count-test.true i.0 c.if-kept-count.false)
