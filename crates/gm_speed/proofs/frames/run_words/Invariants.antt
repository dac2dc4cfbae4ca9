use Rattle.std.proofs.Common.{◌≡◌, length}
use Rattle.gm_speed.proofs.frames.run_words.Given as goal

abbrev pub invariant-loop-step : goal.invariant-loop-step
invariant-loop-step l = (l.done ≡ l.step) × (length l.bank ≡ 65536)
