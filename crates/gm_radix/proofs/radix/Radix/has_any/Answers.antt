use Rattle.std.proofs.Common.{◌<◌, ℕ, subst, sym, ltb-true}
use Rattle.std.proofs.lemmas.Bool.{lt-ltb}
use Rattle.gm_radix.proofs.Counts.{count_within-some, count_within-there}
use Rattle.gm_radix.proofs.radix.Radix.has_any.Goals as goal

pub returns : goal.returns
returns g c = (
  λ t. count_within-some c.args.lo c.args.hi c.args.self.now.entries (subst (λ (n : ℕ). 0 < n) c.count_in.ensures (ltb-true 0 c.count_in.result t)),
  λ s. lt-ltb 0 c.count_in.result (subst (λ (n : ℕ). 0 < n) (sym c.count_in.ensures) (count_within-there c.args.lo c.args.hi s.0 c.args.self.now.entries s.1 s.2 s.3)),
)
