use Rattle.gm_views.proofs.Views.{admits}
use Rattle.gm_views.proofs.doors.Doors.open.Goals as goal

pub reader-requires : goal.reader-requires
reader-requires c = admits
