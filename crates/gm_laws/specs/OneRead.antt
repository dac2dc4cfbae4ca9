-- The worked row «one read»: one shared slot, one read.
use Rattle.std.specs.Prelude.{List, None, Some, [], false, ◌∷◌}
use Rattle.gm_base.specs.Scripts.{Orders}
use Rattle.gm_base.specs.declared.calls.Ioctl.TheVariants.{Region2}
use Rattle.gm_base.specs.declared.script.Command.TheVariants.{Call as CallCommand, Touch as TouchCommand}
use Rattle.gm_base.specs.declared.script.Turn.{Turn}
use Rattle.gm_base.specs.declared.script.Turn.TheVariants.{Next}
use Rattle.gm_base.specs.declared.values.Actor.TheVariants.{Caller, Vcpu}
use Rattle.gm_base.specs.declared.values.Kind.TheVariants.{Shared}
use Rattle.gm_base.specs.declared.values.Level.TheVariants.{Small}
use Rattle.gm_base.specs.declared.values.Op.TheVariants.{Read}
use Rattle.gm_flat.specs.declared.effect.Backing.TheVariants.{User}
use Rattle.gm_flat.specs.declared.effect.Effect.TheVariants.{Slot}
use Rattle.gm_flat.specs.declared.effect.Reply.TheVariants.{Good as GoodReply}
use Rattle.gm_flat.specs.declared.entry.Entry.{Entry}
use Rattle.gm_flat.specs.declared.entry.What.TheVariants.{Answer, Change, Enter, Get, Install, Judge, Look, Miss, Sample, Touch}
use Rattle.gm_laws.specs.Rows.{entry}

abbrev pub one_read_orders : Orders
one_read_orders = record { setup = record { frames = 4; user = 4; vcpus = 1; callers = 1; huge = false }; vcpus = (TouchCommand (record { page = 0; word = 0; op = Read; kind = Shared }) ∷ []) ∷ []; callers = (CallCommand (Region2 (record { slot = 0; flags = 0; gpa = 0; size = 16384; user = 0; fd = 0; offset = 0 })) ∷ []) ∷ [] }

-- its history, the newest entry first
abbrev pub one_read : List Entry
one_read =
    entry 9 (Vcpu 0) (Touch (record { page = 0; word = 0; op = Read; kind = Shared }) (User 0) Small 0 10) ∷
    entry 8 (Vcpu 0) Enter ∷
    entry 7 (Vcpu 0) (Install 0 Small) ∷
    entry 6 (Vcpu 0) (Get (User 0) 0) ∷
    entry 5 (Vcpu 0) (Look 6 (Some 0) Shared None) ∷
    entry 4 (Vcpu 0) (Sample 5) ∷
    entry 3 (Vcpu 0) (Miss (record { page = 0; word = 0; op = Read; kind = Shared })) ∷
    entry 2 (Vcpu 0) Enter ∷
    entry 1 (Caller 0) (Answer (GoodReply 0)) ∷
    entry 1 (Caller 0) (Change (Slot 0 0 4 0 0 None 0)) ∷
    entry 1 (Caller 0) (Judge (Region2 (record { slot = 0; flags = 0; gpa = 0; size = 16384; user = 0; fd = 0; offset = 0 }))) ∷
    []

-- the turns of its script
abbrev pub one_read_turns : List Turn
one_read_turns = Next (Caller 0) ∷ Next (Vcpu 0) ∷ Next (Vcpu 0) ∷ Next (Vcpu 0) ∷ Next (Vcpu 0) ∷ Next (Vcpu 0) ∷ Next (Vcpu 0) ∷ Next (Vcpu 0) ∷ Next (Vcpu 0) ∷ []
