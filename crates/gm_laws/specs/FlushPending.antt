-- The worked row «flush pending inside»: a bracket waits for a vCPU inside, which touches before it flushes.
use Rattle.std.specs.Prelude.{List, None, Some, [], false, ◌∷◌}
use Rattle.gm_base.specs.Scripts.{Orders}
use Rattle.gm_base.specs.declared.calls.Ioctl.TheVariants.{Attrs, Region2}
use Rattle.gm_base.specs.declared.script.Command.TheVariants.{Call as CallCommand, Touch as TouchCommand}
use Rattle.gm_base.specs.declared.script.Turn.{Turn}
use Rattle.gm_base.specs.declared.script.Turn.TheVariants.{Kick, Next}
use Rattle.gm_base.specs.declared.values.Actor.TheVariants.{Caller, Vcpu}
use Rattle.gm_base.specs.declared.values.Kind.TheVariants.{Private, Shared}
use Rattle.gm_base.specs.declared.values.Level.TheVariants.{Small}
use Rattle.gm_base.specs.declared.values.Op.TheVariants.{Read}
use Rattle.gm_flat.specs.declared.effect.Backing.TheVariants.{User}
use Rattle.gm_flat.specs.declared.effect.Effect.TheVariants.{Attr, Slot}
use Rattle.gm_flat.specs.declared.effect.Exit.TheVariants.{Fault as MemoryFault}
use Rattle.gm_flat.specs.declared.effect.Reply.TheVariants.{Good as GoodReply}
use Rattle.gm_flat.specs.declared.entry.Entry.{Entry}
use Rattle.gm_flat.specs.declared.entry.What.TheVariants.{Acked, Answer, Begin, Change, End, Enter, Flush, Get, Install, Judge, Left, Look, Miss, Sample, Touch}
use Rattle.gm_laws.specs.Rows.{entry}

abbrev pub flush_pending_orders : Orders
flush_pending_orders = record { setup = record { frames = 8; user = 16; vcpus = 1; callers = 1; huge = false }; vcpus = (TouchCommand (record { page = 0; word = 0; op = Read; kind = Shared }) ∷ TouchCommand (record { page = 0; word = 0; op = Read; kind = Shared }) ∷ TouchCommand (record { page = 0; word = 0; op = Read; kind = Shared }) ∷ []) ∷ []; callers = (CallCommand (Region2 (record { slot = 0; flags = 0; gpa = 0; size = 16384; user = 0; fd = 0; offset = 0 })) ∷ CallCommand (Attrs 0 4096 8 0) ∷ []) ∷ [] }

-- its history, the newest entry first
abbrev pub flush_pending : List Entry
flush_pending =
    entry 21 (Vcpu 0) (Left (MemoryFault 0 0 4096)) ∷
    entry 20 (Vcpu 0) (Look 21 (Some 0) Private None) ∷
    entry 19 (Vcpu 0) (Sample 20) ∷
    entry 18 (Vcpu 0) (Miss (record { page = 0; word = 0; op = Read; kind = Shared })) ∷
    entry 17 (Caller 0) (Answer (GoodReply 0)) ∷
    entry 17 (Caller 0) End ∷
    entry 16 (Caller 0) (Change (Attr (record { lo = 0; hi = 1 }) Private)) ∷
    entry 15 (Caller 0) Acked ∷
    entry 14 (Vcpu 0) Flush ∷
    entry 13 (Vcpu 0) (Touch (record { page = 0; word = 0; op = Read; kind = Shared }) (User 0) Small 0 10) ∷
    entry 11 (Caller 0) (Begin (record { list = (record { lo = 0; hi = 1 }) ∷ []; spare = 0 })) ∷
    entry 10 (Caller 0) (Judge (Attrs 0 4096 8 0)) ∷
    entry 9 (Vcpu 0) (Touch (record { page = 0; word = 0; op = Read; kind = Shared }) (User 0) Small 0 10) ∷
    entry 8 (Vcpu 0) Enter ∷
    entry 7 (Vcpu 0) (Install 0 Small) ∷
    entry 6 (Vcpu 0) (Get (User 0) 0) ∷
    entry 5 (Vcpu 0) (Look 6 (Some 0) Shared None) ∷
    entry 4 (Vcpu 0) (Sample 5) ∷
    entry 3 (Vcpu 0) (Miss (record { page = 0; word = 0; op = Read; kind = Shared })) ∷
    entry 2 (Vcpu 0) Enter ∷
    entry 1 (Caller 0) (Answer (GoodReply 0)) ∷
    entry 1 (Caller 0) (Change (Slot 0 0 4 0 0 None 0)) ∷
    entry 1 (Caller 0) (Judge (Region2 (record { slot = 0; flags = 0; gpa = 0; size = 16384; user = 0; fd = 0; offset = 0 }))) ∷
    []

-- the turns of its script
abbrev pub flush_pending_turns : List Turn
flush_pending_turns = Next (Caller 0) ∷ Next (Vcpu 0) ∷ Next (Vcpu 0) ∷ Next (Vcpu 0) ∷ Next (Vcpu 0) ∷ Next (Vcpu 0) ∷ Next (Vcpu 0) ∷ Next (Vcpu 0) ∷ Next (Vcpu 0) ∷ Next (Caller 0) ∷ Next (Caller 0) ∷ Next (Caller 0) ∷ Next (Vcpu 0) ∷ Kick 0 ∷ Next (Caller 0) ∷ Next (Caller 0) ∷ Next (Caller 0) ∷ Next (Vcpu 0) ∷ Next (Vcpu 0) ∷ Next (Vcpu 0) ∷ Next (Vcpu 0) ∷ []
