-- Each page has the kind.
use Rattle.gm_laws.proofs.Fronts.{all_have_each}
use Rattle.gm_laws.proofs.meanings.all_have_means_each_page.Goals as goal

pub returns : goal.returns
returns c = all_have_each
