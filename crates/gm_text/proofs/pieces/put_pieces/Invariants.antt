use Rattle.std.proofs.Common.{take, Ok}
use Rattle.gm_io.specs.Adds.{Adds, outlet}
use Rattle.gm_io.specs.declared.ends.Failed.{Failed}
use Rattle.gm_text.specs.Pieces.{text_of}
use Rattle.gm_text.proofs.pieces.put_pieces.Given as goal

abbrev pub invariant-loop-piece : goal.invariant-loop-piece
invariant-loop-piece g l = Adds {T = Unit {0}} {E = Failed} (outlet (g.K.Sink.held l.initial.sink) l.initial.out (g.K.Sink.faults l.initial.sink)) (outlet (g.K.Sink.held l.sink) l.out (g.K.Sink.faults l.sink)) (text_of (take l.piece-index l.pieces)) (Ok tt)
