use Rattle.std.proofs.Common.{◌≡◌, ℕ, ◌+◌, ◌-◌, ◌<◌, get_or}
use Rattle.gm_pool.proofs.number_set.are_full.Given as goal

abbrev pub invariant-loop-at : goal.invariant-loop-at
invariant-loop-at l = (k : ℕ) → k < l.at - l.first → get_or l.words (l.first + k) 0 ≡ 18446744073709551615
