use Rattle.std.proofs.Common.{◌≡◌, ◌++◌}
use Rattle.gm_script.specs.Rounds.{callers_round}
use Rattle.gm_script.proofs.draft.push_callers.Given as goal

abbrev pub invariant-loop-c : goal.invariant-loop-c
invariant-loop-c l = l.turns.items ≡ l.initial.turns.items ++ callers_round l.c
