use Rattle.std.proofs.Common.{◌∙◌, ◌/◌, ◌<◌, ap, arith, is_some, Option, ℕ}
use Rattle.gm_calls.proofs.Bound.{meets_first}
use Rattle.gm_calls.proofs.regions.is_bound.Goals as goal

pub returns : goal.returns
returns c =
    let some : 0 < c.args.region.now.size / 4096 = omega (arith, c.requires.paged_size, c.requires.some) in
    λ f h. c.is_some.ensures ∙ ap (λ (o : Option (ℕ × ℕ × ℕ)). is_some o) c.bound_in.ensures
    ∙ meets_first c.args.region.now.fd (c.args.region.now.offset / 4096) (c.args.region.now.size / 4096) c.args.file.now.bound f.slots some h.bound_is
