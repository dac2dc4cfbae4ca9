use Rattle.std.proofs.Common.{arith}
use Rattle.gm_turns.proofs.Populations.{copy_inside}
use Rattle.gm_turns.proofs.pages.populate_open.Goals as goal

pub overflow_add-base : goal.overflow_add-base
overflow_add-base c =
    let e = (copy_inside c.args.core.now c.args.c c.args.base c.args.from c.args.pages c.args.plan c.requires.ready c.requires.at).0 in
    let m = c.requires.at.more in
    omega arith

pub kind_of-requires-clause-small : goal.kind_of-requires-clause-small
kind_of-requires-clause-small c =
    let e = (copy_inside c.args.core.now c.args.c c.args.base c.args.from c.args.pages c.args.plan c.requires.ready c.requires.at).0 in
    let m = c.requires.at.more in
    omega arith
