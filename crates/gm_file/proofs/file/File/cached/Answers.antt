use Rattle.std.proofs.Common.{arith, sym}
use Rattle.gm_file.proofs.Caching.{lookup-past}
use Rattle.gm_file.proofs.file.File.cached.Goals as goal

pub returns-else-index-self-clause-folio : goal.returns-else-index-self-clause-folio
returns-else-index-self-clause-folio c =
    rw (← c.self.view_is) (sym (lookup-past 0 c.self.inside.end c.args.index _ c.self.invariant.1 (omega (arith, c.if-index-self.false))))
