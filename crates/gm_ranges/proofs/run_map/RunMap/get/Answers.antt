use Rattle.std.proofs.Common.{ap, sym, ◌∙◌}
use Rattle.gm_ranges.specs.Runs.{Runs, value_at}
use Rattle.gm_ranges.proofs.Painting.{above_limit, below_limit}
use Rattle.gm_ranges.proofs.run_map.RunMap.get.Goals as goal

pub returns-then-page-lt-PAGE_LIMIT : goal.returns-then-page-lt-PAGE_LIMIT
returns-then-page-lt-PAGE_LIMIT c =
    c.value_before.ensures
    ∙ (sym (below_limit c.self.inside.edges.entries c.args.page c.self.invariant.0 c.if-page-lt-PAGE_LIMIT.true) ∙ ap (λ (runs : Runs). value_at runs c.args.page) c.self.view_is)

pub returns-else-page-lt-PAGE_LIMIT : goal.returns-else-page-lt-PAGE_LIMIT
returns-else-page-lt-PAGE_LIMIT c =
    above_limit c.self.inside.edges.entries c.args.page c.self.invariant.0 c.if-page-lt-PAGE_LIMIT.false
    ∙ ap (λ (runs : Runs). value_at runs c.args.page) c.self.view_is
