use Rattle.gm_views.proofs.Views.{looks}
use Rattle.gm_views.proofs.doors.steps.look.Goals as goal

pub enter_as-requires : goal.enter_as-requires
enter_as-requires c x = looks _ _ x
