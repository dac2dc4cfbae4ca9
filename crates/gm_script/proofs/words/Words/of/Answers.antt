use Rattle.std.proofs.lemmas.List.{take_rest}
use Rattle.gm_script.proofs.Finding.{found_all, found_next, nearer}
use Rattle.gm_script.proofs.words.Words.of.Goals as goal

pub loop-at-smaller : goal.loop-at-smaller
loop-at-smaller c = nearer c.args.line.now c.loop-at.at c.cut.result c.spaces.result c.loop-at-test.true c.loop-at.invariant.begun (rw take_rest at c.cut.ensures.at)

pub loop-at-preserved : goal.loop-at-preserved
loop-at-preserved c =
    rw (c.put.ensures, c.put-in-loop-at.ensures)
    (found_next c.args.line.now c.loop-at.at c.loop-at.count c.cut.result c.spaces.result c.loop-at.starts c.loop-at.ends c.loop-at-test.true c.loop-at.invariant (rw take_rest at c.cut.ensures.at) (rw take_rest at c.cut.ensures.within) (rw take_rest at c.spaces.ensures.within) (rw take_rest at c.spaces.ensures.words) (rw take_rest at c.spaces.ensures.begun))

pub invariant_of-result : goal.invariant_of-result
invariant_of-result c = found_all c.args.line.now c.loop-at.at c.loop-at.count c.loop-at.starts c.loop-at.ends c.loop-at-test.false c.loop-at.invariant
