use Rattle.std.proofs.Common.{◌≡◌, ◌≤◌, ◌*◌, ◌^◌, drop}
use Rattle.gm_summary.specs.Totals.{none, totals_of}
use Rattle.gm_summary.proofs.totals.totals_of.Given as goal

abbrev pub invariant-loop-entry : goal.invariant-loop-entry
invariant-loop-entry l = record {
  rest : totals_of l.totals (drop l.entry-index l.entries) ≡ totals_of none l.entries;
  touches : l.totals.touches ≤ l.entry-index;
  exits : l.totals.exits ≤ l.entry-index;
  retries : l.totals.retries ≤ l.entry-index;
  frees : l.totals.frees ≤ l.entry-index * 2 ^ 32;
}
