use Rattle.std.proofs.Common.{length, ap, arith}
use Rattle.gm_file.specs.Views.{FolioList}
use Rattle.gm_file.proofs.Caching.{within_le}
use Rattle.gm_file.proofs.folios.Folios.take_from.Goals as goal

pub drain-requires : goal.drain-requires
drain-requires c =
    omega (
      arith,
      within_le c.args.lo c.args.hi c.args.cache.now.entries,
      ap (λ (f : FolioList). length f.list) c.self.view_is,
      ap (λ (f : FolioList). f.room) c.self.view_is,
      c.self.inside.items.ok.0,
    )

pub invariant_of-self : goal.invariant_of-self
invariant_of-self c = (
  omega (
    arith,
    c.drain.ensures.len,
    within_le c.args.lo c.args.hi c.args.cache.now.entries,
    ap (λ (f : FolioList). length f.list) c.self.view_is,
    ap (λ (f : FolioList). f.room) c.self.view_is,
    c.self.inside.items.ok.0,
  ),
  omega (arith, c.drain.ensures.capacity),
)
