use Rattle.std.proofs.Common.{rules}
use Rattle.gm_flat.proofs.OfPages.{AreOfPages-push}
use Rattle.gm_flat.proofs.spans.Spans.push.Goals as goal

pub invariant_of-self-2 : goal.invariant_of-self-2
invariant_of-self-2 c = (search rules, rw c.in_ok-push.ensures.items (AreOfPages-push _ _ c.self.invariant.1 (search rules)))
