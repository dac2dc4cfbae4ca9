use Rattle.std.proofs.Common.{◌≡◌, drop}
use Rattle.gm_inval.specs.Range.{widen_all}
use Rattle.gm_inval.proofs.inval.widened.Given as goal

abbrev pub invariant-loop-span : goal.invariant-loop-span
invariant-loop-span l = widen_all l.kept (drop l.span-index l.spans) ≡ widen_all l.fn.range l.spans
