use Rattle.std.proofs.Common.{sym}
use Rattle.gm_radix.proofs.Counts.{count_within-none}
use Rattle.gm_radix.proofs.radix.Radix.count_in.Goals as goal

pub returns-then-hi-lo : goal.returns-then-hi-lo
returns-then-hi-lo g c = sym (count_within-none c.args.lo c.args.hi c.args.self.now.entries c.if-hi-lo.true)
