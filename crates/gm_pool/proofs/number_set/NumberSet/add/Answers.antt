use Rattle.std.proofs.Common.{arith}
use Rattle.gm_pool.proofs.Words.{heads_added}
use Rattle.gm_pool.proofs.number_set.NumberSet.add.Goals as goal

pub invariant_of-self : goal.invariant_of-self
invariant_of-self c = (
  heads_added c.self.inside.words.items c.add_to.new.words.items c.self.inside.heads.items c.add_to-2.new.words.items c.args.number c.self.invariant.0 c.add_to.ensures.numbers c.add_to.ensures.words c.add_to-2.ensures.numbers,
  omega arith,
  omega arith,
  omega arith,
)
