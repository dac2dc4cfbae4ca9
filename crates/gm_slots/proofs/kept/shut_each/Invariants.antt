use Rattle.gm_slots.proofs.Keeping.{ShutSoFar}
use Rattle.gm_slots.proofs.kept.shut_each.Given as goal

abbrev pub invariant-loop-begin : goal.invariant-loop-begin
invariant-loop-begin l = ShutSoFar l.file l.begin-index l.order l.initial.table.items l.table.items
