-- The view at a position.
use Rattle.std.specs.Prelude.{ℕ, List, fold, nat_le, if◌then◌else◌}
use Rattle.gm_views.specs.Sights.{opening}
use Rattle.gm_views.specs.declared.shown.Change.{Change}
use Rattle.gm_views.specs.declared.sights.Sight.{Sight}
use Rattle.gm_publish.specs.Kept.{views_by}

-- the last view whose position isn't after this one, of those that stand after the opening
abbrev pub later_view : ℕ → Sight → Sight → Sight
later_view at seen s = if nat_le s.position at then s else seen

abbrev pub sight_by : ℕ → List Sight → Sight
sight_by at views = fold (later_view at) opening views

-- of those that changes make
abbrev pub view_by : ℕ → List Change → Sight
view_by at changes = sight_by at (views_by opening changes)
