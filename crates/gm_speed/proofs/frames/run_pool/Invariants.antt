use Rattle.std.proofs.Common.{◌≡◌, ◌≤◌}
use Rattle.gm_speed.proofs.frames.run_pool.Given as goal

abbrev pub invariant-loop-step : goal.invariant-loop-step
invariant-loop-step l = (l.pool.next ≡ l.done) × (l.done ≤ l._step)
