use Rattle.std.proofs.Common.{◌≡◌, ◌-◌, ◌++◌}
use Rattle.gm_flat.specs.Effects.{with_run}
use Rattle.gm_flat.proofs.flat_runs.with_run.Given as goal

abbrev pub invariant-loop-count : goal.invariant-loop-count
invariant-loop-count l =
    with_run l.run.pages l.run.file l.run.index l.run.serial l.run.frame l.cache ≡ l.pages.items ++ with_run (l.run.pages - l.count) l.run.file l.run.index l.run.serial l.run.frame l.cache
