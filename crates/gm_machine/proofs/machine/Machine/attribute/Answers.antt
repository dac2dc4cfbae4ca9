use Rattle.std.proofs.Common.{◌∙◌, ap}
use Rattle.gm_flat.specs.Attribute.{attr_of}
use Rattle.gm_flat.specs.Replay.{flat}
use Rattle.gm_machine.specs.Steps.{Seen}
use Rattle.gm_turns.specs.Standing.{memory_of}
use Rattle.gm_machine.proofs.machine.Machine.attribute.Goals as goal

pub returns : goal.returns
returns c =
    let k = c.self.inside.core in
    c.kind.ensures k.setup (memory_of k.setup k.log.past) c.self.invariant.0.stands.state.is ∙ ap (λ (m : Seen). attr_of c.args.page (flat m.past).attrs) c.self.view_is
