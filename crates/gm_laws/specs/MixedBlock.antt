-- The worked row «mixed block»: a leaf of 2 MiB, and one of 4 KiB after an attribute in the block has changed.
use Rattle.std.specs.Prelude.{List, Some, [], true, ◌∷◌}
use Rattle.gm_base.specs.Scripts.{Orders}
use Rattle.gm_base.specs.declared.calls.Ioctl.TheVariants.{Attrs, Create, Region2}
use Rattle.gm_base.specs.declared.script.Command.TheVariants.{Call as CallCommand, Touch as TouchCommand}
use Rattle.gm_base.specs.declared.values.Actor.TheVariants.{Caller, Vcpu}
use Rattle.gm_base.specs.declared.values.Kind.TheVariants.{Private, Shared}
use Rattle.gm_base.specs.declared.values.Level.TheVariants.{Block, Small}
use Rattle.gm_base.specs.declared.values.Op.TheVariants.{Read}
use Rattle.gm_flat.specs.declared.effect.Backing.TheVariants.{Folio as InFolio}
use Rattle.gm_flat.specs.declared.effect.Effect.TheVariants.{Attr, File, Slot}
use Rattle.gm_flat.specs.declared.effect.Reply.TheVariants.{Good as GoodReply}
use Rattle.gm_flat.specs.declared.entry.Entry.{Entry}
use Rattle.gm_flat.specs.declared.entry.What.TheVariants.{Acked, Answer, Begin, Change, End, Enter, Flush, Get, Install, Judge, Look, Miss, Sample, Touch}
use Rattle.gm_laws.specs.Rows.{entry}

abbrev pub mixed_block_orders : Orders
mixed_block_orders = record { setup = record { frames = 512; user = 512; vcpus = 1; callers = 1; huge = true }; vcpus = (TouchCommand (record { page = 0; word = 0; op = Read; kind = Private }) ∷ TouchCommand (record { page = 0; word = 1; op = Read; kind = Private }) ∷ []) ∷ []; callers = (CallCommand (Create 2097152 1) ∷ CallCommand (Region2 (record { slot = 0; flags = 4; gpa = 0; size = 2097152; user = 0; fd = 0; offset = 0 })) ∷ CallCommand (Attrs 0 2097152 8 0) ∷ CallCommand (Attrs 20480 4096 0 0) ∷ []) ∷ [] }

-- its history, the newest entry first
abbrev pub mixed_block : List Entry
mixed_block =
    entry 28 (Vcpu 0) (Touch (record { page = 0; word = 1; op = Read; kind = Private }) (InFolio (record { serial = 0; frame = 0 })) Small 0 34) ∷
    entry 27 (Vcpu 0) Enter ∷
    entry 26 (Vcpu 0) (Install 0 Small) ∷
    entry 25 (Vcpu 0) (Get (InFolio (record { serial = 0; frame = 0 })) 0) ∷
    entry 24 (Vcpu 0) (Look 30 (Some 0) Private (Some 0)) ∷
    entry 23 (Vcpu 0) (Sample 29) ∷
    entry 22 (Vcpu 0) (Miss (record { page = 0; word = 1; op = Read; kind = Private })) ∷
    entry 21 (Caller 0) (Answer (GoodReply 0)) ∷
    entry 21 (Caller 0) End ∷
    entry 20 (Caller 0) (Change (Attr (record { lo = 5; hi = 6 }) Shared)) ∷
    entry 19 (Caller 0) Acked ∷
    entry 18 (Vcpu 0) Flush ∷
    entry 17 (Caller 0) (Begin (record { list = (record { lo = 5; hi = 6 }) ∷ []; spare = 0 })) ∷
    entry 16 (Caller 0) (Judge (Attrs 20480 4096 0 0)) ∷
    entry 15 (Vcpu 0) (Touch (record { page = 0; word = 0; op = Read; kind = Private }) (InFolio (record { serial = 0; frame = 0 })) Block 0 20) ∷
    entry 14 (Vcpu 0) Enter ∷
    entry 13 (Vcpu 0) (Install 0 Block) ∷
    entry 12 (Vcpu 0) (Get (InFolio (record { serial = 0; frame = 0 })) 512) ∷
    entry 11 (Vcpu 0) (Look 16 (Some 0) Private (Some 0)) ∷
    entry 10 (Vcpu 0) (Sample 15) ∷
    entry 9 (Vcpu 0) (Miss (record { page = 0; word = 0; op = Read; kind = Private })) ∷
    entry 8 (Vcpu 0) Enter ∷
    entry 8 (Vcpu 0) Flush ∷
    entry 7 (Caller 0) (Answer (GoodReply 0)) ∷
    entry 7 (Caller 0) End ∷
    entry 6 (Caller 0) (Change (Attr (record { lo = 0; hi = 512 }) Private)) ∷
    entry 5 (Caller 0) Acked ∷
    entry 4 (Caller 0) (Begin (record { list = (record { lo = 0; hi = 512 }) ∷ []; spare = 0 })) ∷
    entry 3 (Caller 0) (Judge (Attrs 0 2097152 8 0)) ∷
    entry 2 (Caller 0) (Answer (GoodReply 0)) ∷
    entry 2 (Caller 0) (Change (Slot 0 0 512 0 4 (Some 0) 0)) ∷
    entry 2 (Caller 0) (Judge (Region2 (record { slot = 0; flags = 4; gpa = 0; size = 2097152; user = 0; fd = 0; offset = 0 }))) ∷
    entry 1 (Caller 0) (Answer (GoodReply 0)) ∷
    entry 1 (Caller 0) (Change (File 0 512 true)) ∷
    entry 1 (Caller 0) (Judge (Create 2097152 1)) ∷
    []
