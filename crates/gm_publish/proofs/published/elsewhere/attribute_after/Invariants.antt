use Rattle.std.proofs.Common.{◌≡◌, ◌≤◌, length, take}
use Rattle.gm_flat.specs.Attribute.{attr_of}
use Rattle.gm_views.specs.Shows.{shown_after}
use Rattle.gm_publish.proofs.published.elsewhere.attribute_after.Given as goal

abbrev pub invariant-loop-count : goal.invariant-loop-count
invariant-loop-count l = (l.count ≤ length l.changes) × (attr_of l.page (shown_after l.changes).calls ≡ attr_of l.page (shown_after (take l.count l.changes)).calls)

abbrev pub decreases-loop-count : goal.decreases-loop-count
decreases-loop-count l = l.count
