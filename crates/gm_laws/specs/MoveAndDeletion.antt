-- The worked row «move and deletion»: a slot is marked and moves, is marked and deleted, and a peek reads what was written through it.
use Rattle.std.specs.Prelude.{List, None, Some, [], false, ◌∷◌}
use Rattle.gm_base.specs.Scripts.{Orders}
use Rattle.gm_base.specs.declared.calls.Ioctl.TheVariants.{Peek, Region2}
use Rattle.gm_base.specs.declared.script.Command.TheVariants.{Call as CallCommand, Touch as TouchCommand}
use Rattle.gm_base.specs.declared.values.Actor.TheVariants.{Caller, Vcpu}
use Rattle.gm_base.specs.declared.values.Kind.TheVariants.{Shared}
use Rattle.gm_base.specs.declared.values.Level.TheVariants.{Small}
use Rattle.gm_base.specs.declared.values.Op.TheVariants.{Read, Write}
use Rattle.gm_flat.specs.declared.effect.Backing.TheVariants.{User}
use Rattle.gm_flat.specs.declared.effect.Effect.TheVariants.{Mark, Move, NoSlot, Slot}
use Rattle.gm_flat.specs.declared.effect.Exit.TheVariants.{Mmio}
use Rattle.gm_flat.specs.declared.effect.Reply.TheVariants.{Good as GoodReply}
use Rattle.gm_flat.specs.declared.entry.Entry.{Entry}
use Rattle.gm_flat.specs.declared.entry.What.TheVariants.{Acked, Answer, Begin, Change, End, Enter, Flush, Get, Install, Judge, Left, Look, Miss, Sample, Touch}
use Rattle.gm_laws.specs.Rows.{entry}

abbrev pub move_and_deletion_orders : Orders
move_and_deletion_orders = record { setup = record { frames = 1; user = 4; vcpus = 1; callers = 1; huge = false }; vcpus = (TouchCommand (record { page = 2; word = 0; op = (Write 3); kind = Shared }) ∷ TouchCommand (record { page = 2; word = 0; op = Read; kind = Shared }) ∷ []) ∷ []; callers = (CallCommand (Region2 (record { slot = 0; flags = 0; gpa = 0; size = 4096; user = 4096; fd = 0; offset = 0 })) ∷ CallCommand (Region2 (record { slot = 0; flags = 0; gpa = 8192; size = 4096; user = 4096; fd = 0; offset = 0 })) ∷ CallCommand (Region2 (record { slot = 0; flags = 0; gpa = 0; size = 0; user = 0; fd = 0; offset = 0 })) ∷ CallCommand (Peek 4096) ∷ []) ∷ [] }

-- its history, the newest entry first
abbrev pub move_and_deletion : List Entry
move_and_deletion =
    entry 26 (Caller 0) (Answer (GoodReply 3)) ∷
    entry 26 (Caller 0) (Judge (Peek 4096)) ∷
    entry 25 (Vcpu 0) (Left (Mmio 8192)) ∷
    entry 24 (Vcpu 0) (Look 29 None Shared None) ∷
    entry 23 (Vcpu 0) (Sample 28) ∷
    entry 22 (Vcpu 0) (Miss (record { page = 2; word = 0; op = Read; kind = Shared })) ∷
    entry 21 (Caller 0) (Answer (GoodReply 0)) ∷
    entry 21 (Caller 0) End ∷
    entry 20 (Caller 0) (Change (NoSlot 0)) ∷
    entry 19 (Caller 0) Acked ∷
    entry 18 (Vcpu 0) Flush ∷
    entry 16 (Caller 0) (Change (Mark 0)) ∷
    entry 16 (Caller 0) (Begin (record { list = (record { lo = 2; hi = 3 }) ∷ []; spare = 0 })) ∷
    entry 15 (Caller 0) (Judge (Region2 (record { slot = 0; flags = 0; gpa = 0; size = 0; user = 0; fd = 0; offset = 0 }))) ∷
    entry 14 (Vcpu 0) (Touch (record { page = 2; word = 0; op = (Write 3); kind = Shared }) (User 1) Small 3 18) ∷
    entry 13 (Vcpu 0) Enter ∷
    entry 12 (Vcpu 0) (Install 2 Small) ∷
    entry 11 (Vcpu 0) (Get (User 1) 0) ∷
    entry 10 (Vcpu 0) (Look 14 (Some 0) Shared None) ∷
    entry 9 (Vcpu 0) (Sample 13) ∷
    entry 8 (Vcpu 0) (Miss (record { page = 2; word = 0; op = (Write 3); kind = Shared })) ∷
    entry 7 (Vcpu 0) Enter ∷
    entry 7 (Vcpu 0) Flush ∷
    entry 6 (Caller 0) (Answer (GoodReply 0)) ∷
    entry 6 (Caller 0) End ∷
    entry 5 (Caller 0) (Change (Move 0 2)) ∷
    entry 4 (Caller 0) Acked ∷
    entry 3 (Caller 0) (Change (Mark 0)) ∷
    entry 3 (Caller 0) (Begin (record { list = (record { lo = 0; hi = 1 }) ∷ []; spare = 0 })) ∷
    entry 2 (Caller 0) (Judge (Region2 (record { slot = 0; flags = 0; gpa = 8192; size = 4096; user = 4096; fd = 0; offset = 0 }))) ∷
    entry 1 (Caller 0) (Answer (GoodReply 0)) ∷
    entry 1 (Caller 0) (Change (Slot 0 0 1 1 0 None 0)) ∷
    entry 1 (Caller 0) (Judge (Region2 (record { slot = 0; flags = 0; gpa = 0; size = 4096; user = 4096; fd = 0; offset = 0 }))) ∷
    []
