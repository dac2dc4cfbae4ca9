use Rattle.std.proofs.Common.{◌<◌, ap, arith}
use Rattle.gm_file.specs.Views.{FileView}
use Rattle.gm_file.proofs.Caching.{full-next, full-put, lookup-put, rises-put, rises-to}
use Rattle.gm_file.proofs.file.File.put.Goals as goal

pub invariant_of-self : goal.invariant_of-self
invariant_of-self c =
    let size = ap (λ (f : FileView). f.pages) c.self.view_is in
    let inside : c.args.index < c.self.inside.pages = omega (arith, c.requires.inside) in
    let end = c.max-self-inside.result in (
      c.self.invariant.0,
      rw c.insert_new.ensures.entries (rises-put 0 end c.args.index c.args.folio _ (omega arith) (omega (arith, c.max-self-inside.ensures)) (rises-to 0 c.self.inside.end end _ (omega (arith, c.max-self-inside.ensures)) c.self.invariant.1)),
      c.self.invariant.2,
      omega arith,
      c.self.invariant.4,
      omega (arith, c.max-self-inside.ensures, c.self.invariant.5),
      rw c.insert_new.ensures.entries (full-next c.self.inside.full c.args.index c.args.folio _ c.if-index-self.true c.self.invariant.6),
    )

pub invariant_of-self-else-index-self : goal.invariant_of-self-else-index-self
invariant_of-self-else-index-self c =
    let size = ap (λ (f : FileView). f.pages) c.self.view_is in
    let inside : c.args.index < c.self.inside.pages = omega (arith, c.requires.inside) in
    let end = c.max-self-inside.result in (
      c.self.invariant.0,
      rw c.insert_new.ensures.entries (rises-put 0 end c.args.index c.args.folio _ (omega arith) (omega (arith, c.max-self-inside.ensures)) (rises-to 0 c.self.inside.end end _ (omega (arith, c.max-self-inside.ensures)) c.self.invariant.1)),
      c.self.invariant.2,
      omega arith,
      c.self.invariant.4,
      omega (arith, c.max-self-inside.ensures, c.self.invariant.5),
      rw c.insert_new.ensures.entries (full-put c.self.inside.full c.args.index c.args.folio _ c.self.invariant.6),
    )

pub returns-then-index-self-clause-cached : goal.returns-then-index-self-clause-cached
returns-then-index-self-clause-cached c = λ k. rw (c.insert_new.ensures.entries, ← c.self.view_is) (lookup-put k c.args.index c.args.folio _)

pub returns-else-index-self-clause-cached : goal.returns-else-index-self-clause-cached
returns-else-index-self-clause-cached c = λ k. rw (c.insert_new.ensures.entries, ← c.self.view_is) (lookup-put k c.args.index c.args.folio _)
