-- A touch reads what was written last, or the word that the folio was added with.
use Rattle.gm_laws.proofs.RightIsRuled.{reads_of_right}
use Rattle.gm_laws.proofs.rightness.reads_have_the_last_write.Goals as goal

pub returns : goal.returns
returns c = reads_of_right
