use Rattle.std.proofs.Common.{◌≡◌}
use Rattle.gm_speed.proofs.table.fill.Given as goal

abbrev pub invariant-loop-step : goal.invariant-loop-step
invariant-loop-step l = l.walked ≡ l.step
