use Rattle.gm_history.specs.Whats.{free_of}
use Rattle.gm_history.proofs.replies.read_free.Goals as goal

pub returns : goal.returns
unfolding free_of
returns c = rw (c.in_ok-serial.ensures, c.in_ok-frame.ensures, c.in_ok-pages.ensures) c.ended.ensures
