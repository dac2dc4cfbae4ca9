use Rattle.gm_flat.proofs.Walks.{PassedFiles}
use Rattle.gm_flat.proofs.flat_lists.place_of_file.Given as goal

abbrev pub invariant-loop-at : goal.invariant-loop-at
invariant-loop-at l = PassedFiles l.files l.at l.number
