use Rattle.std.proofs.Common.{◌≤◌, arith, ltb-true, ap}
use Rattle.gm_radix.specs.Entries.{Indexed}
use Rattle.gm_radix.proofs.Kept.{lookup-past}
use Rattle.gm_radix.proofs.radix.Radix.has_all.Goals as goal

pub returns-else-lo-lt-PAGE_LIMIT : goal.returns-else-lo-lt-PAGE_LIMIT
returns-else-lo-lt-PAGE_LIMIT g c =
    let past = lookup-past c.self.inside.nodes.slots c.self.inside.root c.args.self.now c.args.lo (ap (λ (m : Indexed _). m.entries) c.self.view_is) c.self.invariant.rest c.if-lo-lt-PAGE_LIMIT.false in
    (λ t. absurd (omega (arith, ltb-true c.args.lo 4503599627370496 t)), λ all. let low : c.args.lo ≤ c.args.lo = omega arith in let some = all c.args.lo low c.if-hi-lo.false in let clash = rw past at some in absurd cc)
