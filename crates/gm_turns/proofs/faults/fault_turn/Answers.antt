use Rattle.std.proofs.Common.{sym, ◌∙◌}
use Rattle.gm_turns.proofs.FaultTurns.{is_over, may_again_by, may_exit_by}
use Rattle.gm_turns.proofs.faults.fault_turn.Goals as goal

pub decide-requires : goal.decide-requires
decide-requires c = is_over c.args.core.now c.args.v c.args.ticket _ c.in-Looked.looked c.requires.ready c.requires.held (sym c.stage_of.ensures ∙ c.in-Looked.is)

pub exit-requires-clause-may : goal.exit-requires-clause-may
exit-requires-clause-may c = may_exit_by c.args.core.now c.args.v c.args.ticket _ c.in-Looked.looked c.in-Exit.why c.requires.ready c.requires.held (sym c.stage_of.ensures ∙ c.in-Looked.is) (sym c.decide.ensures ∙ c.in-Exit.is)

pub again-requires-clause-may : goal.again-requires-clause-may
again-requires-clause-may c = may_again_by c.args.core.now c.args.v c.args.ticket _ c.in-Looked.looked c.requires.ready c.requires.held (sym c.stage_of.ensures ∙ c.in-Looked.is) (sym c.decide.ensures ∙ c.in-Again.is)
