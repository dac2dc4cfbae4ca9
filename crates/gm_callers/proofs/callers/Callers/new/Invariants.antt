use Rattle.std.proofs.Common.{◌≡◌, replicate}
use Rattle.gm_callers.specs.Callers.{no_caller}
use Rattle.gm_callers.proofs.callers.Callers.new.Given as goal

abbrev pub invariant-loop-k : goal.invariant-loop-k
invariant-loop-k l = l.list.items ≡ replicate l.k no_caller
