use Rattle.std.proofs.Common.{Some, ap, ◌∙◌, arith}
use Rattle.gm_radix.proofs.Held.{at_fork}
use Rattle.gm_radix.proofs.tree.count_of.Goals as goal

pub returns-in-Fork : goal.returns-in-Fork
returns-in-Fork g c = (at_fork c.in-Fork.parts (omega arith) (c.index.ensures ∙ ap (λ n. Some n) c.in-Fork.is) c.requires).count
