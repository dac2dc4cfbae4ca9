-- The text tells the history.
use Rattle.gm_text.proofs.OneText.{one_text as told}
use Rattle.gm_text.proofs.laws.one_text.Goals as goal

pub returns : goal.returns
returns c = told
