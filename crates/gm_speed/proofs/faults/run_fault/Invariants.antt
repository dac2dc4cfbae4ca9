use Rattle.std.proofs.Common.{◌≡◌, ◌≤◌}
use Rattle.gm_speed.proofs.faults.run_fault.Given as goal

abbrev pub invariant-loop-step : goal.invariant-loop-step
invariant-loop-step l = l.done ≤ l.step
