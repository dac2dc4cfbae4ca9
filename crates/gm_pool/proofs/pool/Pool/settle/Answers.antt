use Rattle.std.proofs.Common.{◌≡◌, ◌<◌, length, false, sym, subst}
use Rattle.gm_pool.specs.Pools.{Frames, is_free}
use Rattle.gm_pool.proofs.Standing.{stands_used}
use Rattle.gm_pool.proofs.pool.Pool.settle.Goals as goal

pub invariant_of-self-else-is_idle : goal.invariant_of-self-else-is_idle
invariant_of-self-else-is_idle c =
    stands_used c.self.inside.uses.items c.self.inside.free c.self.inside.blocks c.args.frame c.args.usage c.self.invariant
    (subst (λ (frames : Frames). c.args.frame < length frames.uses) (sym c.self.view_is) c.requires.within)
    (subst (λ (frames : Frames). is_free frames c.args.frame ≡ false) (sym c.self.view_is) c.requires.used)
