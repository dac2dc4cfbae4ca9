use Rattle.gm_views.proofs.Following.{follows}
use Rattle.gm_views.proofs.laws.views_follow_the_flat_state.Goals as goal

pub returns : goal.returns
returns c = follows
