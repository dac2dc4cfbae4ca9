use Rattle.std.proofs.Common.{◌≡◌, ◌<◌, length, false, sym, subst}
use Rattle.gm_pool.specs.Pools.{Frames, is_free}
use Rattle.gm_pool.proofs.Standing.{stands_used, live_frame}
use Rattle.gm_pool.proofs.pool.Pool.hold.Goals as goal

pub invariant_of-self : goal.invariant_of-self
invariant_of-self c =
    let live = live_frame c.args.self.now.uses c.args.folio.frame _ c.requires in
    stands_used c.self.inside.uses.items c.self.inside.free c.self.inside.blocks c.args.folio.frame c.with_one_more.result c.self.invariant
    (subst (λ (frames : Frames). c.args.folio.frame < length frames.uses) (sym c.self.view_is) live.0)
    (subst (λ (frames : Frames). is_free frames c.args.folio.frame ≡ false) (sym c.self.view_is) live.1)
