-- Slots and files at every position.
use Rattle.gm_laws.proofs.SlotsKeep.{slots_now, slots_then}
use Rattle.gm_laws.proofs.rightness.slots_stand_apart.Goals as goal

pub returns : goal.returns
returns c = record { now = slots_now; before = slots_then }
