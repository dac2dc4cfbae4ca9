use Rattle.std.proofs.Common.{arith}
use Rattle.gm_summary.proofs.Counting.{entry_more, frees_within}
use Rattle.gm_summary.proofs.totals.totals_of.Goals as goal

pub loop-entry-preserved : goal.loop-entry-preserved
loop-entry-preserved c = record {
  rest = entry_more c.loop-entry.totals _ _ c.args.entries.now c.loop-entry.entry-index c.entry-item.result c.loop-entry-test.true c.loop-entry.invariant.rest (rw (← c.entry-item.is) c.with_entry-totals.ensures.is);
  touches = omega (arith, c.with_entry-totals.ensures.touches, c.loop-entry.invariant.touches);
  exits = omega (arith, c.with_entry-totals.ensures.exits, c.loop-entry.invariant.exits);
  retries = omega (arith, c.with_entry-totals.ensures.retries, c.loop-entry.invariant.retries);
  frees = frees_within _ _ c.loop-entry.entry-index c.with_entry-totals.ensures.frees c.loop-entry.invariant.frees;
}
