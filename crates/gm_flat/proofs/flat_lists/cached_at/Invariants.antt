use Rattle.std.proofs.Common.{◌≡◌, drop}
use Rattle.gm_flat.specs.FlatState.{cached}
use Rattle.gm_flat.proofs.flat_lists.cached_at.Given as goal

abbrev pub invariant-loop-page : goal.invariant-loop-page
invariant-loop-page l = cached l.file l.index l.cache ≡ cached l.file l.index (drop l.page-index l.cache)
