use Rattle.std.proofs.Common.{take, Ok}
use Rattle.gm_io.specs.Adds.{Adds, outlet}
use Rattle.gm_io.specs.declared.ends.Failed.{Failed}
use Rattle.gm_text.specs.Text.{entries_text}
use Rattle.gm_text.proofs.history.put_entries.Given as goal

abbrev pub invariant-loop-entry : goal.invariant-loop-entry
invariant-loop-entry g l = Adds {T = Unit {0}} {E = Failed} (outlet (g.K.Sink.held l.initial.sink) l.initial.out (g.K.Sink.faults l.initial.sink)) (outlet (g.K.Sink.held l.sink) l.out (g.K.Sink.faults l.sink)) (entries_text (take l.entry-index l.entries)) (Ok tt)
