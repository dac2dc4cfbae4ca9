use Rattle.std.proofs.Common.{◌≡◌, ℕ, ◌<◌, ◌≤◌, ◌⊎◌}
use Rattle.gm_history.specs.Frames.{starts_of}
use Rattle.std.specs.BTreeMap.{btree_map_len}
use Rattle.gm_history.proofs.frames.clear.Given as goal

abbrev pub invariant-loop-start : goal.invariant-loop-start
invariant-loop-start l = (serial : ℕ) → (serial < l.lo) ⊎ (l.last < serial) → starts_of l.starts serial ≡ starts_of l.initial.starts serial

abbrev pub decreases-loop-start : goal.decreases-loop-start
decreases-loop-start l = btree_map_len l.starts
