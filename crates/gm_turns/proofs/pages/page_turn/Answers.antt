use Rattle.gm_turns.proofs.Populations.{has_source}
use Rattle.gm_turns.proofs.pages.page_turn.Goals as goal

pub unreachable-requires : goal.unreachable-requires
unreachable-requires c = absurd (has_source c.args.core.now c.args.c c.in-Some.base c.plan_of-plan.result c.requires.ready c.plan_of-plan.ensures c.in-Some.is c.in-None-copy.is)
