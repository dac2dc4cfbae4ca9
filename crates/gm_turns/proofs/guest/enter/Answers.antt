use Rattle.std.proofs.Common.{◌∙◌}
use Rattle.gm_mapping.proofs.Pending.{pending_is}
use Rattle.gm_turns.proofs.GuestTurns.{enter_turn}
use Rattle.gm_turns.proofs.guest.enter.Goals as goal

pub enter-requires-clause-nothing_pending : goal.enter-requires-clause-nothing_pending
enter-requires-clause-nothing_pending c = pending_is c.args.v c.requires.ready.settled.stands.mapping c.requires.ready.actor_is ∙ c.requires.none_pending

pub returns : goal.returns
returns c = rw (c.note.ensures, c.enter.ensures) (enter_turn c.args.core.now c.args.v c.requires.ready c.requires.outside c.requires.no_fault c.requires.none_pending c.requires.waiting)
