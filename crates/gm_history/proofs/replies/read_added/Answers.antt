use Rattle.gm_history.specs.Whats.{added_of}
use Rattle.gm_history.proofs.replies.read_added.Goals as goal

pub returns : goal.returns
unfolding added_of
returns c = rw (c.in_ok-index.ensures, c.in_ok-serial.ensures, c.in_ok-frame.ensures, c.in_ok-pages.ensures) c.ended.ensures
