use Rattle.std.proofs.Common.{◌≡◌, ◌+◌, ◌≤◌, drop, length}
use Rattle.gm_laws.specs.Turns.{onto}
use Rattle.gm_turns.proofs.Running.{pages_in, waiting}
use Rattle.gm_turns.specs.Runs.{frees, runs, runs_with}
use Rattle.gm_turns.proofs.frees.free_all.Given as goal

abbrev pub invariant-loop-index : goal.invariant-loop-index
invariant-loop-index l = record {
  whole : onto l.turn l.actor (frees (runs_with l.run (drop l.index-index l.pairs))) l.log.past ≡ onto l.turn l.actor (frees (runs l.pairs)) l.initial.log.past;
  room : waiting l.run + length l.pairs ≤ l.log.spare + l.index-index;
  size : pages_in l.run ≤ l.index-index;
}
