use Rattle.gm_history.specs.Whats.{cut_line_of}
use Rattle.gm_history.proofs.effects.read_cut_line.Goals as goal

pub returns : goal.returns
unfolding cut_line_of
returns c = rw (c.in_ok-file.ensures, c.in_ok-lo.ensures, c.in_ok-hi.ensures) c.ended.ensures
