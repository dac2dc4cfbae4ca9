-- The worked row «punch of a held page»: the page is freed at the retry with which its last hold ends.
use Rattle.std.specs.Prelude.{List, Some, [], false, ◌∷◌}
use Rattle.gm_base.specs.Scripts.{Orders}
use Rattle.gm_base.specs.declared.calls.Ioctl.TheVariants.{Attrs, Create, Punch, Region2}
use Rattle.gm_base.specs.declared.script.Command.TheVariants.{Call as CallCommand, Touch as TouchCommand}
use Rattle.gm_base.specs.declared.values.Actor.TheVariants.{Caller, Vcpu}
use Rattle.gm_base.specs.declared.values.Kind.TheVariants.{Private}
use Rattle.gm_base.specs.declared.values.Level.TheVariants.{Small}
use Rattle.gm_base.specs.declared.values.Op.TheVariants.{Write}
use Rattle.gm_flat.specs.declared.effect.Backing.TheVariants.{Folio as InFolio}
use Rattle.gm_flat.specs.declared.effect.Effect.TheVariants.{Attr, Cut, File, Slot}
use Rattle.gm_flat.specs.declared.effect.Reply.TheVariants.{Good as GoodReply}
use Rattle.gm_flat.specs.declared.entry.Entry.{Entry}
use Rattle.gm_flat.specs.declared.entry.What.TheVariants.{Acked, Answer, Begin, Change, End, Enter, Flush, Free, Get, Install, Judge, Look, Miss, Retry, Sample, Touch}
use Rattle.gm_laws.specs.Rows.{entry}

abbrev pub held_page_orders : Orders
held_page_orders = record { setup = record { frames = 1; user = 4; vcpus = 1; callers = 1; huge = false }; vcpus = (TouchCommand (record { page = 0; word = 0; op = (Write 7); kind = Private }) ∷ []) ∷ []; callers = (CallCommand (Create 4096 0) ∷ CallCommand (Region2 (record { slot = 0; flags = 4; gpa = 0; size = 4096; user = 0; fd = 0; offset = 0 })) ∷ CallCommand (Attrs 0 4096 8 0) ∷ CallCommand (Punch 0 0 4096) ∷ []) ∷ [] }

-- its history, the newest entry first
abbrev pub held_page : List Entry
held_page =
    entry 26 (Vcpu 0) (Touch (record { page = 0; word = 0; op = (Write 7); kind = Private }) (InFolio (record { serial = 1; frame = 0 })) Small 7 34) ∷
    entry 25 (Vcpu 0) Enter ∷
    entry 24 (Vcpu 0) (Install 0 Small) ∷
    entry 23 (Vcpu 0) (Get (InFolio (record { serial = 1; frame = 0 })) 1) ∷
    entry 22 (Vcpu 0) (Look 30 (Some 0) Private (Some 0)) ∷
    entry 21 (Vcpu 0) (Sample 29) ∷
    entry 20 (Vcpu 0) (Miss (record { page = 0; word = 0; op = (Write 7); kind = Private })) ∷
    entry 19 (Vcpu 0) Enter ∷
    entry 19 (Vcpu 0) Flush ∷
    entry 18 (Vcpu 0) (Free (record { serial = 0; frame = 0 }) 1) ∷
    entry 18 (Vcpu 0) Retry ∷
    entry 17 (Caller 0) (Answer (GoodReply 0)) ∷
    entry 17 (Caller 0) End ∷
    entry 16 (Caller 0) (Change (Cut 0 0 1)) ∷
    entry 15 (Caller 0) Acked ∷
    entry 14 (Caller 0) (Begin (record { list = (record { lo = 0; hi = 1 }) ∷ []; spare = 0 })) ∷
    entry 13 (Caller 0) (Judge (Punch 0 0 4096)) ∷
    entry 12 (Vcpu 0) (Get (InFolio (record { serial = 0; frame = 0 })) 1) ∷
    entry 11 (Vcpu 0) (Look 16 (Some 0) Private (Some 0)) ∷
    entry 10 (Vcpu 0) (Sample 15) ∷
    entry 9 (Vcpu 0) (Miss (record { page = 0; word = 0; op = (Write 7); kind = Private })) ∷
    entry 8 (Vcpu 0) Enter ∷
    entry 8 (Vcpu 0) Flush ∷
    entry 7 (Caller 0) (Answer (GoodReply 0)) ∷
    entry 7 (Caller 0) End ∷
    entry 6 (Caller 0) (Change (Attr (record { lo = 0; hi = 1 }) Private)) ∷
    entry 5 (Caller 0) Acked ∷
    entry 4 (Caller 0) (Begin (record { list = (record { lo = 0; hi = 1 }) ∷ []; spare = 0 })) ∷
    entry 3 (Caller 0) (Judge (Attrs 0 4096 8 0)) ∷
    entry 2 (Caller 0) (Answer (GoodReply 0)) ∷
    entry 2 (Caller 0) (Change (Slot 0 0 1 0 4 (Some 0) 0)) ∷
    entry 2 (Caller 0) (Judge (Region2 (record { slot = 0; flags = 4; gpa = 0; size = 4096; user = 0; fd = 0; offset = 0 }))) ∷
    entry 1 (Caller 0) (Answer (GoodReply 0)) ∷
    entry 1 (Caller 0) (Change (File 0 1 false)) ∷
    entry 1 (Caller 0) (Judge (Create 4096 0)) ∷
    []
