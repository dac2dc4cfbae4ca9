use Rattle.std.proofs.Common.{◌≡◌, ◌≤◌}
use Rattle.gm_speed.proofs.changes.run_inval.Given as goal

abbrev pub invariant-loop-step : goal.invariant-loop-step
invariant-loop-step l = (l.inval.count ≡ 0) × (l.inval.seq ≤ l.step) × (l.done ≡ l.step)
