use Rattle.std.proofs.Common.{sym, ◌∙◌, ◌≡◌, Some, None}
use Rattle.gm_callers.proofs.Waits.{blocked_on_caller, unblocked_judging, waits_on}
use Rattle.gm_callers.proofs.Waits as waits
use Rattle.gm_flat.specs.Replay.{flat}
use Rattle.gm_turns.proofs.Blocking.{lent_stands}
use Rattle.gm_turns.proofs.CoreForetold.{foretold_blocked, quiet_foretold, short_foretold}
use Rattle.gm_turns.proofs.JudgeTurns.{may_judge}
use Rattle.gm_turns.specs.Room.{orders_of}
use Rattle.gm_turns.proofs.foretelling.ahead_of_call.Goals as goal

pub change_at_once-requires-clause-state : goal.change_at_once-requires-clause-state
change_at_once-requires-clause-state c = (flat c.args.core.now.log.past, lent_stands c.args.core.now c.parts-parts.result c.requires.ready.settled (record { slots = c.parts-parts.ensures.slots; files = c.parts-parts.ensures.files; attrs = c.parts-parts.ensures.attrs }))

pub returns-in-Some : goal.returns-in-Some
returns-in-Some c =
    let k = c.args.core.now in
    let st = c.requires.ready.settled.stands.callers in
    let has = c.locks-needed.ensures (flat k.log.past) (lent_stands k c.parts-parts.result c.requires.ready.settled (record { slots = c.parts-parts.ensures.slots; files = c.parts-parts.ensures.files; attrs = c.parts-parts.ensures.attrs })) in
    foretold_blocked k c.args.c (blocked_on_caller (orders_of k) c.args.c c.in-Some.field-0 k.log.past (waits_on (orders_of k) c.args.c c.in-Some.field-0 c.args.ioctl.now c.locks-needed.result st c.requires.ready.actor_is c.requires.idle c.requires.command has c.in-Some.ensures.some c.in-Some.ensures.least))

pub returns-in-Some-change_at_once : goal.returns-in-Some-change_at_once
returns-in-Some-change_at_once c =
    let k = c.args.core.now in
    let lent = lent_stands k c.parts-parts.result c.requires.ready.settled (record { slots = c.parts-parts.ensures.slots; files = c.parts-parts.ensures.files; attrs = c.parts-parts.ensures.attrs }) in
    let has = c.locks-needed.ensures (flat k.log.past) lent in
    let judges = may_judge k c.args.c c.args.ioctl.now c.locks-needed.result c.requires.ready c.requires.idle c.requires.command has c.in-None.ensures.none in
    let told = rw c.parts-parts.ensures.setup at (c.change_at_once.ensures (flat k.log.past) lent) in
    short_foretold k c.args.c c.args.ioctl.now c.in-Some-change_at_once.effect c.change_ahead.result c.requires.ready c.requires.present c.requires.idle c.requires.command (sym c.in-Some-change_at_once.is ∙ told) (unblocked_judging (orders_of k) c.args.c c.args.ioctl.now c.requires.ready.settled.stands.callers c.requires.ready.actor_is c.requires.idle judges) c.change_ahead.ensures

pub returns-in-None-change_at_once : goal.returns-in-None-change_at_once
returns-in-None-change_at_once c =
    let k = c.args.core.now in
    let lent = lent_stands k c.parts-parts.result c.requires.ready.settled (record { slots = c.parts-parts.ensures.slots; files = c.parts-parts.ensures.files; attrs = c.parts-parts.ensures.attrs }) in
    let told = rw c.parts-parts.ensures.setup at (c.change_at_once.ensures (flat k.log.past) lent) in
    quiet_foretold k c.args.c c.args.ioctl.now c.requires.ready c.requires.idle c.requires.command (sym c.in-None-change_at_once.is ∙ told)
