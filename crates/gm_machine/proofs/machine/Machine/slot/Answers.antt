use Rattle.std.proofs.Common.{◌∙◌, ap}
use Rattle.gm_flat.specs.Replay.{flat}
use Rattle.gm_flat.specs.Slots.{slot_over}
use Rattle.gm_machine.specs.Steps.{Seen}
use Rattle.gm_turns.specs.Standing.{memory_of}
use Rattle.gm_machine.proofs.machine.Machine.slot.Goals as goal

pub returns : goal.returns
returns c =
    let k = c.self.inside.core in
    c.find.ensures k.setup (memory_of k.setup k.log.past) c.self.invariant.0.stands.state.is ∙ ap (λ (m : Seen). slot_over (flat m.past).slots c.args.page) c.self.view_is
