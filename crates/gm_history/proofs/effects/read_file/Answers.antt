use Rattle.gm_history.specs.Whats.{file_of}
use Rattle.gm_history.proofs.effects.read_file.Goals as goal

pub returns : goal.returns
unfolding file_of
returns c = rw (c.in_ok-file.ensures, c.in_ok-pages.ensures, c.in_ok-block.ensures) c.ended.ensures
