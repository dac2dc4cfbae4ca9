use Rattle.std.proofs.Common.{◌≡◌, ℕ, ◌<◌, false, ◌&&◌}
use Rattle.std.specs.Prelude.{nat_lt, slice_index_or}
use Rattle.gm_tlb.specs.Requests.{outside}
use Rattle.gm_tlb.proofs.ring.Ring.all_in.Given as goal

abbrev pub invariant-loop-v : goal.invariant-loop-v
invariant-loop-v l = (u : ℕ) → u < l.v → (slice_index_or l.self.seats u outside).inside && nat_lt (slice_index_or l.self.seats u outside).done l.r ≡ false
