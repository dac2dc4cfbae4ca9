use Rattle.std.proofs.Common.{◌≡◌, length}
use Rattle.gm_store.proofs.Leaving.{SoFar}
use Rattle.gm_store.proofs.cutting.keep_freed.Given as goal

abbrev pub invariant-pairs : goal.invariant-pairs
invariant-pairs l = record { so_far : SoFar l.out.list l.pool l.at l.kept l.initial.out.list l.initial.pool; count_is : l.count ≡ length l.initial.out.list; room : l.out.room ≡ l.initial.out.room }
