use Rattle.std.proofs.Common.{◌≡◌, drop}
use Rattle.gm_flat.specs.Slots.{slot_by_id}
use Rattle.gm_flat.proofs.flat_lists.find_id.Given as goal

abbrev pub invariant-loop-slot : goal.invariant-loop-slot
invariant-loop-slot l = slot_by_id l.slots l.id ≡ slot_by_id (drop l.slot-index l.slots) l.id
