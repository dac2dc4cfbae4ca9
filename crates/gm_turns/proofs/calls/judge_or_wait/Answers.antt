use Rattle.gm_callers.proofs.Waits.{unblocked_judging, waits_on}
use Rattle.gm_flat.specs.Replay.{flat}
use Rattle.gm_turns.proofs.Blocking.{lent_stands}
use Rattle.gm_turns.proofs.JudgeTurns.{may_judge}
use Rattle.gm_turns.specs.Room.{orders_of}
use Rattle.gm_turns.proofs.calls.judge_or_wait.Goals as goal

pub judge_call-requires-clause-locks : goal.judge_call-requires-clause-locks
judge_call-requires-clause-locks c = c.locks-needed.ensures (flat c.args.core.now.log.past) (lent_stands c.args.core.now c.parts.result c.requires.ready.settled (record { slots = c.parts.ensures.slots; files = c.parts.ensures.files; attrs = c.parts.ensures.attrs }))

pub returns-in-Some-clause-waits : goal.returns-in-Some-clause-waits
returns-in-Some-clause-waits c =
    let has = c.locks-needed.ensures (flat c.args.core.now.log.past) (lent_stands c.args.core.now c.parts.result c.requires.ready.settled (record { slots = c.parts.ensures.slots; files = c.parts.ensures.files; attrs = c.parts.ensures.attrs })) in
    waits_on (orders_of c.args.core.now) c.args.c c.in-Some.other c.args.ioctl.now c.locks-needed.result c.requires.ready.settled.stands.callers c.requires.ready.actor_is c.requires.idle c.requires.command has c.in-Some.ensures.some c.in-Some.ensures.least

pub returns-in-None-clause-unblocked : goal.returns-in-None-clause-unblocked
returns-in-None-clause-unblocked c =
    let k = c.args.core.now in
    let has = c.locks-needed.ensures (flat k.log.past) (lent_stands k c.parts.result c.requires.ready.settled (record { slots = c.parts.ensures.slots; files = c.parts.ensures.files; attrs = c.parts.ensures.attrs })) in
    unblocked_judging (orders_of k) c.args.c c.args.ioctl.now c.requires.ready.settled.stands.callers c.requires.ready.actor_is c.requires.idle (may_judge k c.args.c c.args.ioctl.now c.locks-needed.result c.requires.ready c.requires.idle c.requires.command has c.in-None.ensures.none)
