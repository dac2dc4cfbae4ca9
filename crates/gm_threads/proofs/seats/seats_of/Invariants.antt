use Rattle.std.proofs.Common.{◌≡◌, length}
use Rattle.gm_threads.proofs.seats.seats_of.Given as goal

abbrev pub invariant-loop-v : goal.invariant-loop-v
invariant-loop-v l = (length l.seats.items ≡ l.v) × (l.spies.vcpus ≡ l.setup.vcpus)
