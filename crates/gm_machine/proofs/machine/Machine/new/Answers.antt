use Rattle.std.proofs.Common.{sym, ◌∙◌, ap, ◌≡◌}
use Rattle.gm_base.specs.Scripts.{Orders}
use Rattle.gm_machine.proofs.Stepping.{room_none}
use Rattle.gm_machine.proofs.machine.Machine.new.Goals as goal

pub invariant_of-result : goal.invariant_of-result
invariant_of-result c =
    let setup : c.in_ok-core.core.setup ≡ c.setup-setup.result = ap (λ (o : Orders). o.setup) c.in_ok-core.ensures.orders ∙ sym c.setup-setup.ensures.setup in
    (c.in_ok-core.ensures.settled, rw (c.in_ok-room.ensures {u = tt}) (room_none c.in_ok-core.core c.setup-setup.result setup))
