use Rattle.std.proofs.Common.{subst}
use Rattle.gm_flat.specs.RightHistory.{Right}
use Rattle.gm_laws.proofs.RuledIsRight.{right}
use Rattle.gm_machine.specs.Steps.{Seen}
use Rattle.gm_turns.specs.Room.{orders_of}
use Rattle.gm_machine.proofs.machine.Machine.history.Goals as goal

pub returns-clause-right : goal.returns-clause-right
returns-clause-right c =
    let core = c.self.inside.core in
    subst (λ (x : Seen). Right x.orders x.past) c.self.view_is (right (orders_of core) core.log.past c.self.invariant.0.ruled)
