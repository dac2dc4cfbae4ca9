use Rattle.std.proofs.Common.{◌∙◌, sym}
use Rattle.gm_mapping.proofs.Pending.{pending_is}
use Rattle.gm_turns.proofs.vcpu_turns.waiting_turn.Goals as goal

pub flush_and_enter-requires-clause-asked : goal.flush_and_enter-requires-clause-asked
flush_and_enter-requires-clause-asked c = sym (pending_is c.args.v c.requires.ready.settled.stands.mapping c.requires.ready.actor_is) ∙ (sym c.pending.ensures ∙ c.if-pending.true)

pub enter-requires-clause-none_pending : goal.enter-requires-clause-none_pending
enter-requires-clause-none_pending c = sym (pending_is c.args.v c.requires.ready.settled.stands.mapping c.requires.ready.actor_is) ∙ (sym c.pending.ensures ∙ c.if-pending.false)
