use Rattle.std.proofs.Common.{◌≤◌, length}
use Rattle.gm_speed.proofs.files.fill.Given as goal

abbrev pub invariant-loop-step : goal.invariant-loop-step
invariant-loop-step l = length l.file.cached ≤ l.step
