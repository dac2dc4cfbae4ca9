use Rattle.std.proofs.Common.{◌∙◌, refl, sym}
use Rattle.gm_mapping.proofs.Pending.{pending_is}
use Rattle.gm_turns.proofs.turns.kick.Goals as goal

pub flush-requires-clause-asked : goal.flush-requires-clause-asked
flush-requires-clause-asked c = sym (pending_is c.args.v c.requires.ready.settled.stands.mapping c.requires.ready.actor_is) ∙ (sym c.pending.ensures ∙ c.if-pending.true)

pub returns-else-pending : goal.returns-else-pending
returns-else-pending c = record { same = refl; none_pending = sym (pending_is c.args.v c.requires.ready.settled.stands.mapping c.requires.ready.actor_is) ∙ (sym c.pending.ensures ∙ c.if-pending.false) }
