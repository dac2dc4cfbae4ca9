use Rattle.gm_turns.proofs.Rooming.{core_over, roomier, settled_still}
use Rattle.gm_turns.proofs.room.make_room.Goals as goal

pub returns-in_err-reserve_common-clause-roomier : goal.returns-in_err-reserve_common-clause-roomier
returns-in_err-reserve_common-clause-roomier c = roomier c.args.core.now c.reserve_common.new.core c.reserve_common.ensures.more

pub reserve_for_vcpu-requires-clause-settled : goal.reserve_for_vcpu-requires-clause-settled
reserve_for_vcpu-requires-clause-settled c = settled_still c.args.core.now c.reserve_common.new.core c.reserve_common.ensures.more c.requires.settled

pub reserve_for_caller-requires-clause-settled : goal.reserve_for_caller-requires-clause-settled
reserve_for_caller-requires-clause-settled c = settled_still c.args.core.now c.reserve_common.new.core c.reserve_common.ensures.more c.requires.settled

pub returns-in-Vcpu-clause-roomier : goal.returns-in-Vcpu-clause-roomier
returns-in-Vcpu-clause-roomier c =
    let k = c.args.core.now in
    let n = c.reserve_for_vcpu.new.core in
    roomier k n (core_over k c.reserve_common.new.core n c.reserve_common.ensures.more c.reserve_for_vcpu.ensures.more)

pub returns-in-Caller-clause-roomier : goal.returns-in-Caller-clause-roomier
returns-in-Caller-clause-roomier c =
    let k = c.args.core.now in
    let n = c.reserve_for_caller.new.core in
    roomier k n (core_over k c.reserve_common.new.core n c.reserve_common.ensures.more c.reserve_for_caller.ensures.more)
