use Rattle.gm_history.specs.Whats.{populate_of}
use Rattle.gm_history.proofs.calls.read_populate.Goals as goal

pub returns : goal.returns
unfolding populate_of
returns c = rw (c.in_ok-gpa.ensures, c.in_ok-pages.ensures, c.in_ok-user.ensures) c.ended.ensures
