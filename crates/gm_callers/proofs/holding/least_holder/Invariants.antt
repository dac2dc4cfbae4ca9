use Rattle.std.proofs.Common.{◌≡◌, ℕ, ◌<◌, false}
use Rattle.gm_callers.specs.Holding.{is_holder}
use Rattle.gm_callers.proofs.holding.least_holder.Given as goal

abbrev pub invariant-loop-other : goal.invariant-loop-other
invariant-loop-other l = (k : ℕ) → k < l.other → is_holder l.list l.c l.locks k ≡ false
