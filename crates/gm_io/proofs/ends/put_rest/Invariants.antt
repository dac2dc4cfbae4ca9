use Rattle.std.proofs.Common.{◌≤◌, ◌-◌, length, take, drop}
use Rattle.gm_io.specs.Held.{Gains}
use Rattle.gm_io.proofs.ends.put_rest.Given as goal

abbrev pub invariant-loop-at : goal.invariant-loop-at
invariant-loop-at g l = record {
  from : l.initial.at ≤ l.at;
  within : l.at ≤ length l.bytes;
  gains : Gains (g.K.Sink.held l.initial.sink) (g.K.Sink.held l.sink) (take (l.at - l.initial.at) (drop l.initial.at l.bytes));
  later : g.K.Sink.faults l.initial.sink ≤ g.K.Sink.faults l.sink;
}

abbrev pub decreases-loop-at : goal.decreases-loop-at
decreases-loop-at g l = length l.bytes - l.at
