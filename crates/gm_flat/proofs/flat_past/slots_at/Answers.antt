use Rattle.std.proofs.Common.{arith, rules}
use Rattle.gm_flat.proofs.Replays.{slots_front}
use Rattle.gm_flat.proofs.flat_past.slots_at.Goals as goal

pub returns : goal.returns
returns c =
    slots_front c.args.entries.now c.args.at c.min-end.result _ c.in_ok-state.state.slots.items (search rules) (omega arith) c.in_ok-state.ensures.slots
