use Rattle.std.proofs.Common.{◌≡◌, ◌<◌, ℕ, true}
use Rattle.gm_base.specs.declared.values.Actor.TheVariants.{Vcpu}
use Rattle.gm_flat.specs.Histories.{gone}
use Rattle.gm_threads.proofs.held.are_vcpus_gone.Given as goal

abbrev pub invariant-loop-v : goal.invariant-loop-v
invariant-loop-v l = (k : ℕ) → k < l.v → gone (Vcpu k) l.machine.past ≡ true
