use Rattle.std.proofs.Common.{refl, rules}
use Rattle.gm_flat.specs.FlatState.{start}
use Rattle.gm_calls.proofs.Starting.{stands_at_the_start}
use Rattle.gm_calls.proofs.tests.at_the_start.Goals as goal

pub judge-judged-requires-clause-state : goal.judge-judged-requires-clause-state
judge-judged-requires-clause-state c = (start, stands_at_the_start _ (search rules) refl (search rules))
