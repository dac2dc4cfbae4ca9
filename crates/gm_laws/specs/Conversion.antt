-- The worked row «conversion between look and install»: the fault is stale and retries.
use Rattle.std.specs.Prelude.{List, None, Some, [], false, ◌∷◌}
use Rattle.gm_base.specs.Scripts.{Orders}
use Rattle.gm_base.specs.declared.calls.Ioctl.TheVariants.{Attrs, Region2}
use Rattle.gm_base.specs.declared.script.Command.TheVariants.{Call as CallCommand, Touch as TouchCommand}
use Rattle.gm_base.specs.declared.values.Actor.TheVariants.{Caller, Vcpu}
use Rattle.gm_base.specs.declared.values.Kind.TheVariants.{Private, Shared}
use Rattle.gm_base.specs.declared.values.Op.TheVariants.{Read}
use Rattle.gm_flat.specs.declared.effect.Backing.TheVariants.{User}
use Rattle.gm_flat.specs.declared.effect.Effect.TheVariants.{Attr, Slot}
use Rattle.gm_flat.specs.declared.effect.Exit.TheVariants.{Fault as MemoryFault}
use Rattle.gm_flat.specs.declared.effect.Reply.TheVariants.{Good as GoodReply}
use Rattle.gm_flat.specs.declared.entry.Entry.{Entry}
use Rattle.gm_flat.specs.declared.entry.What.TheVariants.{Acked, Answer, Begin, Change, End, Enter, Flush, Get, Judge, Left, Look, Miss, Retry, Sample}
use Rattle.gm_laws.specs.Rows.{entry}

abbrev pub conversion_orders : Orders
conversion_orders = record { setup = record { frames = 8; user = 16; vcpus = 1; callers = 1; huge = false }; vcpus = (TouchCommand (record { page = 0; word = 0; op = Read; kind = Shared }) ∷ []) ∷ []; callers = (CallCommand (Region2 (record { slot = 0; flags = 0; gpa = 0; size = 16384; user = 0; fd = 0; offset = 0 })) ∷ CallCommand (Attrs 0 4096 8 0) ∷ []) ∷ [] }

-- its history, the newest entry first
abbrev pub conversion : List Entry
conversion =
    entry 17 (Vcpu 0) (Left (MemoryFault 0 0 4096)) ∷
    entry 16 (Vcpu 0) (Look 19 (Some 0) Private None) ∷
    entry 15 (Vcpu 0) (Sample 18) ∷
    entry 14 (Vcpu 0) (Miss (record { page = 0; word = 0; op = Read; kind = Shared })) ∷
    entry 13 (Vcpu 0) Enter ∷
    entry 13 (Vcpu 0) Flush ∷
    entry 12 (Vcpu 0) Retry ∷
    entry 11 (Vcpu 0) (Get (User 0) 0) ∷
    entry 10 (Caller 0) (Answer (GoodReply 0)) ∷
    entry 10 (Caller 0) End ∷
    entry 9 (Caller 0) (Change (Attr (record { lo = 0; hi = 1 }) Private)) ∷
    entry 8 (Caller 0) Acked ∷
    entry 7 (Caller 0) (Begin (record { list = (record { lo = 0; hi = 1 }) ∷ []; spare = 0 })) ∷
    entry 6 (Caller 0) (Judge (Attrs 0 4096 8 0)) ∷
    entry 5 (Vcpu 0) (Look 6 (Some 0) Shared None) ∷
    entry 4 (Vcpu 0) (Sample 5) ∷
    entry 3 (Vcpu 0) (Miss (record { page = 0; word = 0; op = Read; kind = Shared })) ∷
    entry 2 (Vcpu 0) Enter ∷
    entry 1 (Caller 0) (Answer (GoodReply 0)) ∷
    entry 1 (Caller 0) (Change (Slot 0 0 4 0 0 None 0)) ∷
    entry 1 (Caller 0) (Judge (Region2 (record { slot = 0; flags = 0; gpa = 0; size = 16384; user = 0; fd = 0; offset = 0 }))) ∷
    []
