use Rattle.std.proofs.Common.{ap, sym, subst, ◌∙◌, arith}
use Rattle.gm_ranges.specs.Runs.{Runs, value_at, SomeDiffer}
use Rattle.gm_ranges.proofs.Painting.{all_alike, some_differ}
use Rattle.gm_ranges.proofs.run_map.RunMap.all_same.Goals as goal

pub returns-then-has_any-clause-differ : goal.returns-then-has_any-clause-differ
returns-then-has_any-clause-differ c =
    let found = c.has_any.ensures.0 c.if-has_any.true in
    subst (λ (runs : Runs). SomeDiffer runs c.args.span) c.self.view_is
    (some_differ c.self.inside.edges.entries c.args.span found.0 c.self.invariant.0 (omega arith) (omega (arith, found.1)) (omega (arith, found.2)) found.3)

pub returns-else-has_any-clause-all : goal.returns-else-has_any-clause-all
returns-else-has_any-clause-all c = λ page held.
    ap (λ (runs : Runs). value_at runs page) (sym c.self.view_is)
    ∙ (all_alike c.self.inside.edges.entries c.args.span page c.self.invariant.0 (omega arith) (λ k a b t. let clash = c.has_any.ensures.1 (k, omega arith, omega arith, t) in absurd cc) held
    ∙ (ap (λ (runs : Runs). value_at runs c.args.span.lo) c.self.view_is ∙ (ap (λ n. value_at c.args.self.now n) (sym c.lo-lo.ensures.lo) ∙ sym c.get.ensures)))
