use Rattle.std.proofs.Common.{arith}
use Rattle.gm_file.proofs.Caching.{full-cut, rises-without, lookup-without}
use Rattle.gm_file.proofs.file.File.cut.Goals as goal

pub invariant_of-self : goal.invariant_of-self
invariant_of-self c = (
  c.self.invariant.0,
  rw c.take_from.ensures.rest (rises-without 0 c.self.inside.end c.args.lo c.args.hi _ c.self.invariant.1),
  c.self.invariant.2,
  omega arith,
  c.self.invariant.4,
  c.self.invariant.5,
  rw (c.take_from.ensures.rest, c.min-self-inside.ensures) (full-cut c.self.inside.full c.args.lo c.args.hi _ c.self.invariant.6),
)

pub returns-clause-cached : goal.returns-clause-cached
returns-clause-cached c = λ k. rw (c.take_from.ensures.rest, ← c.self.view_is) (lookup-without k c.args.lo c.args.hi _)
