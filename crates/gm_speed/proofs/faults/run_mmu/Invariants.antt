use Rattle.std.proofs.Common.{◌≡◌, ◌≤◌, length}
use Rattle.gm_speed.proofs.faults.run_mmu.Given as goal

abbrev pub invariant-loop-step : goal.invariant-loop-step
invariant-loop-step l = (l.done ≤ l.step) × (length l.mmu.fills ≡ 1)
