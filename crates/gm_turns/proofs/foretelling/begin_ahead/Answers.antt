use Rattle.std.proofs.Common.{arith}
use Rattle.gm_callers.proofs.Stepping.{has_spans}
use Rattle.gm_turns.proofs.BeginTurns.{count_fits}
use Rattle.gm_turns.proofs.foretelling.begin_ahead.Goals as goal

pub overflow_add-result : goal.overflow_add-result
overflow_add-result c = let l = count_fits c.args.core.now c.args.c c.requires.ready in let e = c.count.ensures in omega arith

pub spans-requires-clause-spans : goal.spans-requires-clause-spans
spans-requires-clause-spans c = has_spans c.args.c c.requires.at.0 c.requires.ready.settled.stands.callers c.requires.ready.actor_is c.requires.at.1
