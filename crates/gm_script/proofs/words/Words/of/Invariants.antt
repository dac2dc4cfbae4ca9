use Rattle.std.proofs.Common.{◌-◌, length}
use Rattle.gm_script.proofs.Finding.{FoundTo}
use Rattle.gm_script.proofs.words.Words.of.Given as goal

abbrev pub invariant-loop-at : goal.invariant-loop-at
invariant-loop-at l = FoundTo l.line l.at l.count l.starts l.ends

abbrev pub decreases-loop-at : goal.decreases-loop-at
decreases-loop-at l = length l.line - l.at
