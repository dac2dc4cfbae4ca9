use Rattle.std.proofs.Common.{◌≡◌, ◌++◌}
use Rattle.gm_script.specs.Rounds.{rounds_of}
use Rattle.gm_script.proofs.draft.push_rounds.Given as goal

abbrev pub invariant-loop-k : goal.invariant-loop-k
invariant-loop-k l = l.turns.items ≡ l.initial.turns.items ++ rounds_of l.setup l.k
