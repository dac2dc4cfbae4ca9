use Rattle.gm_calls.proofs.Locking.{sets}
use Rattle.gm_calls.proofs.lock_set.locks.Goals as goal

pub returns : goal.returns
returns c = λ f st. sets f c.args.ioctl.now c.args.parts.now.slots.now.slots (record { slots = c.needs_slots-slots.result; first = c.if_used-first.result; second = c.if_used-second.result }) c.named_file.result c.file_of_its_slot.result st.slots_are c.needs_slots-slots.ensures c.named_file.ensures c.file_of_its_slot.ensures (c.if_used-first.ensures f st) (c.if_used-second.ensures f st)
