use Rattle.std.proofs.Common.{length}
use Rattle.gm_script.proofs.split.+begins.Given as goal

abbrev pub decreases-begins : goal.decreases-begins
decreases-begins l = length l.front.now
