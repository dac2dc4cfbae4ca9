use Rattle.std.proofs.Common.{◌≡◌, ◌++◌}
use Rattle.gm_script.specs.Rounds.{vcpus_round}
use Rattle.gm_script.proofs.draft.push_vcpus.Given as goal

abbrev pub invariant-loop-v : goal.invariant-loop-v
invariant-loop-v l = l.turns.items ≡ l.initial.turns.items ++ vcpus_round l.v
