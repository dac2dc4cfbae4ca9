use Rattle.std.proofs.Common.{length}
use Rattle.gm_history.proofs.cuts.+strip.Given as goal

abbrev pub decreases-strip : goal.decreases-strip
decreases-strip l = length l.word.now
