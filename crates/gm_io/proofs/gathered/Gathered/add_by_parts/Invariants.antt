use Rattle.std.proofs.Common.{◌≤◌, ◌-◌, length, take}
use Rattle.gm_io.specs.Held.{Gains, Grows, total}
use Rattle.gm_io.proofs.gathered.Gathered.add_by_parts.Given as goal

abbrev pub invariant-loop-at : goal.invariant-loop-at
invariant-loop-at g l = record {
  within : l.at ≤ length l.bytes;
  gains : Gains (total (g.K.Sink.held l.initial.sink) l.initial.self) (total (g.K.Sink.held l.sink) l.self) (take l.at l.bytes);
  grows : Grows (g.K.Sink.held l.initial.sink) (g.K.Sink.held l.sink);
  later : g.K.Sink.faults l.initial.sink ≤ g.K.Sink.faults l.sink;
}

abbrev pub decreases-loop-at : goal.decreases-loop-at
decreases-loop-at g l = length l.bytes - l.at
