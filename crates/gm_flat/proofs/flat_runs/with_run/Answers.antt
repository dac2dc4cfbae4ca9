use Rattle.std.proofs.Common.{arith}
use Rattle.gm_flat.proofs.Cuts.{run_pushed}
use Rattle.gm_flat.proofs.flat_runs.with_run.Goals as goal

pub loop-count-preserved : goal.loop-count-preserved
loop-count-preserved c =
    run_pushed c.args.run.now.pages c.args.run.now.file c.args.run.now.index c.args.run.now.serial c.args.run.now.frame c.loop-count.count c.from.result c.from-in-loop-count.result c.from-in-loop-count-2.result c.loop-count.pages.items c.push.new.self.items c.args.cache.now
    c.loop-count-test.true (omega arith) (omega arith) (omega arith) c.in_ok-push.ensures.items c.loop-count.invariant
