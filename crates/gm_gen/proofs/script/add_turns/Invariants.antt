use Rattle.std.proofs.Common.{◌≡◌, ◌++◌, ◌≤◌, ◌-◌}
use Rattle.gm_gen.specs.Workload.{turn_drawn, drawn_out, lines_drawn}
use Rattle.gm_gen.proofs.script.add_turns.Given as goal

abbrev pub invariant-loop : goal.invariant-loop
invariant-loop l = record {
  within : l.counter ≤ l.count;
  text : l.text.items ++ lines_drawn turn_drawn (l.count - l.counter) l.draws.x ≡ l.initial.text.items ++ lines_drawn turn_drawn l.count l.initial.draws.x;
  x : drawn_out turn_drawn (l.count - l.counter) l.draws.x ≡ drawn_out turn_drawn l.count l.initial.draws.x;
}
