-- The worked row «population and close»: an allocation, two populations, and a close that frees in order of index.
use Rattle.std.specs.Prelude.{List, None, Some, [], false, ◌∷◌}
use Rattle.gm_base.specs.Scripts.{Orders}
use Rattle.gm_base.specs.declared.calls.Ioctl.TheVariants.{Allocate, Attrs, Close, Create, Poke, Populate, Region2}
use Rattle.gm_base.specs.declared.script.Command.TheVariants.{Call as CallCommand, Touch as TouchCommand}
use Rattle.gm_base.specs.declared.values.Actor.TheVariants.{Caller, Vcpu}
use Rattle.gm_base.specs.declared.values.Errno.TheVariants.{BadF, Exist}
use Rattle.gm_base.specs.declared.values.Kind.TheVariants.{Private}
use Rattle.gm_base.specs.declared.values.Op.TheVariants.{Read}
use Rattle.gm_flat.specs.declared.effect.Effect.TheVariants.{Attr, File, Shut, Slot, Word}
use Rattle.gm_flat.specs.declared.effect.Exit.TheVariants.{Fault as MemoryFault}
use Rattle.gm_flat.specs.declared.effect.Reply.TheVariants.{Bad, Good as GoodReply}
use Rattle.gm_flat.specs.declared.entry.Entry.{Entry}
use Rattle.gm_flat.specs.declared.entry.What.TheVariants.{Acked, Answer, Begin, Change, End, Enter, Flush, Free, Judge, Left, Look, Miss, Page, Sample}
use Rattle.gm_laws.specs.Rows.{entry}

abbrev pub population_and_close_orders : Orders
population_and_close_orders = record { setup = record { frames = 8; user = 16; vcpus = 1; callers = 1; huge = false }; vcpus = (TouchCommand (record { page = 0; word = 0; op = Read; kind = Private }) ∷ []) ∷ []; callers = (CallCommand (Create 12288 0) ∷ CallCommand (Region2 (record { slot = 0; flags = 4; gpa = 0; size = 12288; user = 0; fd = 0; offset = 0 })) ∷ CallCommand (Attrs 0 12288 8 0) ∷ CallCommand (Allocate 0 4096 4096) ∷ CallCommand (Poke 0 42) ∷ CallCommand (Populate 0 3 0) ∷ CallCommand (Populate 0 3 0) ∷ CallCommand (Close 0) ∷ CallCommand (Close 0) ∷ []) ∷ [] }

-- its history, the newest entry first
abbrev pub population_and_close : List Entry
population_and_close =
    entry 27 (Vcpu 0) (Left (MemoryFault 8 0 4096)) ∷
    entry 26 (Vcpu 0) (Look 37 (Some 0) Private None) ∷
    entry 25 (Vcpu 0) (Sample 36) ∷
    entry 24 (Vcpu 0) (Miss (record { page = 0; word = 0; op = Read; kind = Private })) ∷
    entry 23 (Vcpu 0) Enter ∷
    entry 23 (Vcpu 0) Flush ∷
    entry 22 (Caller 0) (Answer (Bad BadF)) ∷
    entry 22 (Caller 0) (Judge (Close 0)) ∷
    entry 21 (Caller 0) (Answer (GoodReply 0)) ∷
    entry 21 (Caller 0) End ∷
    entry 20 (Caller 0) (Free (record { serial = 0; frame = 0 }) 1) ∷
    entry 20 (Caller 0) (Free (record { serial = 1; frame = 1 }) 1) ∷
    entry 20 (Caller 0) (Change (Shut 0)) ∷
    entry 19 (Caller 0) Acked ∷
    entry 18 (Caller 0) (Begin (record { list = (record { lo = 0; hi = 3 }) ∷ []; spare = 0 })) ∷
    entry 17 (Caller 0) (Judge (Close 0)) ∷
    entry 16 (Caller 0) (Answer (Bad Exist)) ∷
    entry 15 (Caller 0) (Judge (Populate 0 3 0)) ∷
    entry 14 (Caller 0) (Answer (GoodReply 1)) ∷
    entry 13 (Caller 0) (Page 0 (record { serial = 1; frame = 1 }) 1) ∷
    entry 12 (Caller 0) (Judge (Populate 0 3 0)) ∷
    entry 11 (Caller 0) (Answer (GoodReply 0)) ∷
    entry 11 (Caller 0) (Change (Word 0 0 42)) ∷
    entry 11 (Caller 0) (Judge (Poke 0 42)) ∷
    entry 10 (Caller 0) (Answer (GoodReply 0)) ∷
    entry 9 (Caller 0) (Page 1 (record { serial = 0; frame = 0 }) 1) ∷
    entry 8 (Caller 0) (Judge (Allocate 0 4096 4096)) ∷
    entry 7 (Caller 0) (Answer (GoodReply 0)) ∷
    entry 7 (Caller 0) End ∷
    entry 6 (Caller 0) (Change (Attr (record { lo = 0; hi = 3 }) Private)) ∷
    entry 5 (Caller 0) Acked ∷
    entry 4 (Caller 0) (Begin (record { list = (record { lo = 0; hi = 3 }) ∷ []; spare = 0 })) ∷
    entry 3 (Caller 0) (Judge (Attrs 0 12288 8 0)) ∷
    entry 2 (Caller 0) (Answer (GoodReply 0)) ∷
    entry 2 (Caller 0) (Change (Slot 0 0 3 0 4 (Some 0) 0)) ∷
    entry 2 (Caller 0) (Judge (Region2 (record { slot = 0; flags = 4; gpa = 0; size = 12288; user = 0; fd = 0; offset = 0 }))) ∷
    entry 1 (Caller 0) (Answer (GoodReply 0)) ∷
    entry 1 (Caller 0) (Change (File 0 3 false)) ∷
    entry 1 (Caller 0) (Judge (Create 12288 0)) ∷
    []
