use Rattle.gm_flat.specs.Replay.{flat}
use Rattle.gm_turns.proofs.Blocking.{lent_stands, lock_blocker, locks_free, nothing_next}
use Rattle.gm_turns.proofs.waiting.blocker_of_next.Goals as goal

pub returns-in-Some-holder : goal.returns-in-Some-holder
returns-in-Some-holder c =
    let k = c.args.core.now in
    let has = c.locks-needed.ensures (flat k.log.past) (lent_stands k c.parts.result c.requires.settled (record { slots = c.parts.ensures.slots; files = c.parts.ensures.files; attrs = c.parts.ensures.attrs })) in
    lock_blocker k c.args.c c.in-Some-holder.holder c.in-Some.ioctl c.locks-needed.result c.requires.settled c.requires.actor c.requires.present c.requires.idle c.in-Some.ensures has c.in-Some-holder.ensures.some c.in-Some-holder.ensures.least

pub returns-in-None-holder : goal.returns-in-None-holder
returns-in-None-holder c =
    let k = c.args.core.now in
    let has = c.locks-needed.ensures (flat k.log.past) (lent_stands k c.parts.result c.requires.settled (record { slots = c.parts.ensures.slots; files = c.parts.ensures.files; attrs = c.parts.ensures.attrs })) in
    locks_free k c.args.c c.in-Some.ioctl c.locks-needed.result c.requires.settled c.requires.actor c.requires.idle c.in-Some.ensures has c.in-None-holder.ensures.none

pub returns-in-None : goal.returns-in-None
returns-in-None c = nothing_next c.args.core.now c.args.c c.requires.settled c.requires.actor c.requires.idle c.in-None.ensures
