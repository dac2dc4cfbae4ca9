-- A word read is the last one written.
use Rattle.gm_laws.proofs.RightIsRuled.{right_word}
use Rattle.gm_laws.proofs.rightness.words_are_last_written.Goals as goal

pub returns : goal.returns
returns c = right_word
