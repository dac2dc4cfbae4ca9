use Rattle.std.proofs.Common.{◌≡◌, drop}
use Rattle.gm_flat.specs.Attribute.{attr_of}
use Rattle.gm_flat.proofs.flat_lists.attr_at.Given as goal

abbrev pub invariant-loop-call : goal.invariant-loop-call
invariant-loop-call l = attr_of l.page l.calls ≡ attr_of l.page (drop l.call-index l.calls)
