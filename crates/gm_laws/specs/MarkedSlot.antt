-- The worked row «marked slot»: a fault finds a slot that is to be deleted and retries at once.
use Rattle.std.specs.Prelude.{List, None, Some, [], false, ◌∷◌}
use Rattle.gm_base.specs.Scripts.{Orders}
use Rattle.gm_base.specs.declared.calls.Ioctl.TheVariants.{Region2}
use Rattle.gm_base.specs.declared.script.Command.TheVariants.{Call as CallCommand, Touch as TouchCommand}
use Rattle.gm_base.specs.declared.values.Actor.TheVariants.{Caller, Vcpu}
use Rattle.gm_base.specs.declared.values.Kind.TheVariants.{Shared}
use Rattle.gm_base.specs.declared.values.Op.TheVariants.{Read}
use Rattle.gm_flat.specs.declared.effect.Effect.TheVariants.{Mark, NoSlot, Slot}
use Rattle.gm_flat.specs.declared.effect.Exit.TheVariants.{Mmio}
use Rattle.gm_flat.specs.declared.effect.Reply.TheVariants.{Good as GoodReply}
use Rattle.gm_flat.specs.declared.entry.Entry.{Entry}
use Rattle.gm_flat.specs.declared.entry.What.TheVariants.{Acked, Answer, Begin, Change, End, Enter, Flush, Judge, Left, Look, Miss, Retry, Sample}
use Rattle.gm_laws.specs.Rows.{entry}

abbrev pub marked_slot_orders : Orders
marked_slot_orders = record { setup = record { frames = 4; user = 4; vcpus = 1; callers = 1; huge = false }; vcpus = (TouchCommand (record { page = 0; word = 0; op = Read; kind = Shared }) ∷ []) ∷ []; callers = (CallCommand (Region2 (record { slot = 0; flags = 0; gpa = 0; size = 4096; user = 0; fd = 0; offset = 0 })) ∷ CallCommand (Region2 (record { slot = 0; flags = 0; gpa = 0; size = 0; user = 0; fd = 0; offset = 0 })) ∷ []) ∷ [] }

-- its history, the newest entry first
abbrev pub marked_slot : List Entry
marked_slot =
    entry 16 (Vcpu 0) (Left (Mmio 0)) ∷
    entry 15 (Vcpu 0) (Look 19 None Shared None) ∷
    entry 14 (Vcpu 0) (Sample 18) ∷
    entry 13 (Vcpu 0) (Miss (record { page = 0; word = 0; op = Read; kind = Shared })) ∷
    entry 12 (Vcpu 0) Enter ∷
    entry 11 (Caller 0) (Answer (GoodReply 0)) ∷
    entry 11 (Caller 0) End ∷
    entry 10 (Caller 0) (Change (NoSlot 0)) ∷
    entry 9 (Caller 0) Acked ∷
    entry 8 (Vcpu 0) Retry ∷
    entry 7 (Vcpu 0) (Look 10 (Some 0) Shared None) ∷
    entry 6 (Vcpu 0) (Sample 9) ∷
    entry 5 (Vcpu 0) (Miss (record { page = 0; word = 0; op = Read; kind = Shared })) ∷
    entry 4 (Vcpu 0) Enter ∷
    entry 4 (Vcpu 0) Flush ∷
    entry 3 (Caller 0) (Change (Mark 0)) ∷
    entry 3 (Caller 0) (Begin (record { list = (record { lo = 0; hi = 1 }) ∷ []; spare = 0 })) ∷
    entry 2 (Caller 0) (Judge (Region2 (record { slot = 0; flags = 0; gpa = 0; size = 0; user = 0; fd = 0; offset = 0 }))) ∷
    entry 1 (Caller 0) (Answer (GoodReply 0)) ∷
    entry 1 (Caller 0) (Change (Slot 0 0 1 0 0 None 0)) ∷
    entry 1 (Caller 0) (Judge (Region2 (record { slot = 0; flags = 0; gpa = 0; size = 4096; user = 0; fd = 0; offset = 0 }))) ∷
    []
