use Rattle.std.proofs.Common.{◌≡◌, reverse, take}
use Rattle.gm_flat.specs.Histories.{call}
use Rattle.gm_flat.specs.Replayed.{judged_of}
use Rattle.gm_flat.proofs.flat_past.call_of.Given as goal

abbrev pub invariant-loop-place : goal.invariant-loop-place
invariant-loop-place l = l.call ≡ judged_of (call l.caller (reverse (take l.place l.entries)))
