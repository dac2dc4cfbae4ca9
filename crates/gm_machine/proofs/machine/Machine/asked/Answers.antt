use Rattle.std.proofs.Common.{◌<◌, ◌∙◌, ap}
use Rattle.gm_flat.specs.Histories.{fault}
use Rattle.gm_machine.proofs.machine.Machine.asked.Goals as goal
use Rattle.gm_machine.specs.Steps.{Seen}
use Rattle.gm_vcpus.proofs.Flights.{asked_is}
use Rattle.gm_vcpus.specs.Asks.{asked_in}

pub returns : goal.returns
returns c =
    let k = c.self.inside.core in
    let v = c.args.vcpu in
    let lt : v < k.setup.vcpus = rw (← c.self.view_is) at c.requires in
    c.asked.ensures ∙ (asked_is v c.self.invariant.0.stands.vcpus lt ∙ ap (λ (m : Seen). asked_in (fault v m.past)) c.self.view_is)
