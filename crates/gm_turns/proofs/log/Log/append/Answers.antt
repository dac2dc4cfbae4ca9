use Rattle.std.proofs.Common.{rules}
use Rattle.gm_flat.proofs.Typed.{AreInTypes-push}
use Rattle.gm_turns.proofs.log.Log.append.Goals as goal

pub invariant_of-self : goal.invariant_of-self
invariant_of-self c = (search rules, rw c.in-Ok.ensures.items (AreInTypes-push _ _ c.self.invariant.1 c.is_in_types.ensures))
