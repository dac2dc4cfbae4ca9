use Rattle.std.proofs.Common.{◌≡◌, fold, take}
use Rattle.gm_flat.specs.Attribute.{attr_of}
use Rattle.gm_views.specs.Shows.{changed}
use Rattle.gm_views.specs.declared.sights.Sight.{Sight}
use Rattle.gm_publish.proofs.published.elsewhere.leave_attribute.Given as goal

abbrev pub invariant-loop-change : goal.invariant-loop-change
invariant-loop-change l = (s : Sight) → attr_of l.page (fold changed s (take l.change-index l.changes)).calls ≡ attr_of l.page s.calls
