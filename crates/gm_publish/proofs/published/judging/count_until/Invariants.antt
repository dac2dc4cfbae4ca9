use Rattle.std.proofs.Common.{◌≡◌, ◌≤◌, length, take}
use Rattle.gm_publish.specs.Lookups.{view_by}
use Rattle.gm_publish.proofs.published.judging.count_until.Given as goal

abbrev pub invariant-loop-count : goal.invariant-loop-count
invariant-loop-count l = (l.count ≤ length l.kept) × (view_by l.at l.kept ≡ view_by l.at (take l.count l.kept))

abbrev pub decreases-loop-count : goal.decreases-loop-count
decreases-loop-count l = l.count
