use Rattle.std.proofs.Common.{take, Ok}
use Rattle.gm_io.specs.Adds.{Adds, outlet}
use Rattle.gm_io.specs.declared.ends.Failed.{Failed}
use Rattle.gm_text.specs.Text.{spans_text}
use Rattle.gm_text.proofs.entries.put_spans.Given as goal

abbrev pub invariant-loop-span : goal.invariant-loop-span
invariant-loop-span g l = Adds {T = Unit {0}} {E = Failed} (outlet (g.K.Sink.held l.initial.sink) l.initial.out (g.K.Sink.faults l.initial.sink)) (outlet (g.K.Sink.held l.sink) l.out (g.K.Sink.faults l.sink)) (spans_text (take l.span-index l.spans)) (Ok tt)
