use Rattle.gm_history.specs.Whats.{word_of}
use Rattle.gm_history.proofs.effects.read_word.Goals as goal

pub returns : goal.returns
unfolding word_of
returns c = rw (c.in_ok-page.ensures, c.in_ok-word.ensures, c.in_ok-value.ensures) c.ended.ensures
