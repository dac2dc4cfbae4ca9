use Rattle.std.proofs.Common.{◌≡◌, reverse, take}
use Rattle.gm_flat.specs.Histories.{fault}
use Rattle.gm_flat.specs.Replayed.{glimpse_of}
use Rattle.gm_flat.proofs.flat_past.fault_of.Given as goal

abbrev pub invariant-loop-place : goal.invariant-loop-place
invariant-loop-place l = l.fault ≡ glimpse_of (fault l.vcpu (reverse (take l.place l.entries)))
