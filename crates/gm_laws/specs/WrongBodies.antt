-- Histories that a wrong body would write. Each begins as a history may, and its newest entry is the wrong one.
use Rattle.std.specs.Prelude.{List, None, Some, [], false, ◌∷◌}
use Rattle.gm_base.specs.Scripts.{Orders}
use Rattle.gm_base.specs.declared.calls.Ioctl.TheVariants.{Attrs, Create, Punch, Region2}
use Rattle.gm_base.specs.declared.script.Command.TheVariants.{Call as CallCommand, Touch as TouchCommand}
use Rattle.gm_base.specs.declared.values.Actor.TheVariants.{Caller, Vcpu}
use Rattle.gm_base.specs.declared.values.Kind.TheVariants.{Private, Shared}
use Rattle.gm_base.specs.declared.values.Level.TheVariants.{Block, Small}
use Rattle.gm_base.specs.declared.values.Op.TheVariants.{Read, Write}
use Rattle.gm_flat.specs.declared.effect.Backing.TheVariants.{Folio as InFolio, User}
use Rattle.gm_flat.specs.declared.effect.Effect.TheVariants.{Attr, Cut, File, Mark, Slot}
use Rattle.gm_flat.specs.declared.effect.Exit.TheVariants.{Fault as MemoryFault}
use Rattle.gm_flat.specs.declared.effect.Reply.TheVariants.{Good as GoodReply}
use Rattle.gm_flat.specs.declared.entry.Entry.{Entry}
use Rattle.gm_flat.specs.declared.entry.What.TheVariants.{Acked, Answer, Begin, Change, End, Enter, Flush, Free, Get, Install, Judge, Left, Look, Miss, Retry, Sample, Touch}
use Rattle.gm_laws.specs.FlushPending.{flush_pending}
use Rattle.gm_laws.specs.Fronts.{front}
use Rattle.gm_laws.specs.HeldPage.{held_page}
use Rattle.gm_laws.specs.MarkedSlot.{marked_slot}
use Rattle.gm_laws.specs.MixedBlock.{mixed_block}
use Rattle.gm_laws.specs.MoveAndDeletion.{move_and_deletion}
use Rattle.gm_laws.specs.OneRead.{one_read}
use Rattle.gm_laws.specs.Rows.{entry}

-- Two brackets, and a fault whose page lies in the gap between their spans.
abbrev pub two_brackets_orders : Orders
two_brackets_orders = record { setup = record { frames = 8; user = 16; vcpus = 1; callers = 2; huge = false }; vcpus = (TouchCommand (record { page = 8; word = 0; op = Read; kind = Shared }) ∷ []) ∷ []; callers = (CallCommand (Create 8192 0) ∷ CallCommand (Region2 (record { slot = 0; flags = 0; gpa = 0; size = 65536; user = 0; fd = 0; offset = 0 })) ∷ CallCommand (Region2 (record { slot = 1; flags = 4; gpa = 1048576; size = 8192; user = 0; fd = 0; offset = 0 })) ∷ CallCommand (Attrs 0 4096 8 0) ∷ []) ∷ (CallCommand (Punch 0 0 4096) ∷ []) ∷ [] }

abbrev pub two_brackets : List Entry
two_brackets =
    entry 12 (Vcpu 0) (Get (User 8) 0) ∷
    entry 11 (Vcpu 0) (Look 17 (Some 0) Shared None) ∷
    entry 10 (Vcpu 0) (Sample 16) ∷
    entry 9 (Vcpu 0) (Miss (record { page = 8; word = 0; op = Read; kind = Shared })) ∷
    entry 8 (Vcpu 0) Enter ∷
    entry 8 (Vcpu 0) Flush ∷
    entry 7 (Caller 1) (Begin (record { list = (record { lo = 256; hi = 257 }) ∷ []; spare = 0 })) ∷
    entry 6 (Caller 1) (Judge (Punch 0 0 4096)) ∷
    entry 5 (Caller 0) (Begin (record { list = (record { lo = 0; hi = 1 }) ∷ []; spare = 0 })) ∷
    entry 4 (Caller 0) (Judge (Attrs 0 4096 8 0)) ∷
    entry 3 (Caller 0) (Answer (GoodReply 0)) ∷
    entry 3 (Caller 0) (Change (Slot 1 256 2 0 4 (Some 0) 0)) ∷
    entry 3 (Caller 0) (Judge (Region2 (record { slot = 1; flags = 4; gpa = 1048576; size = 8192; user = 0; fd = 0; offset = 0 }))) ∷
    entry 2 (Caller 0) (Answer (GoodReply 0)) ∷
    entry 2 (Caller 0) (Change (Slot 0 0 16 0 0 None 0)) ∷
    entry 2 (Caller 0) (Judge (Region2 (record { slot = 0; flags = 0; gpa = 0; size = 65536; user = 0; fd = 0; offset = 0 }))) ∷
    entry 1 (Caller 0) (Answer (GoodReply 0)) ∷
    entry 1 (Caller 0) (Change (File 0 2 false)) ∷
    entry 1 (Caller 0) (Judge (Create 8192 0)) ∷
    []

-- One frame, used twice: the second folio of the frame is new, and its words are zero.
abbrev pub one_frame_orders : Orders
one_frame_orders = record { setup = record { frames = 1; user = 4; vcpus = 1; callers = 1; huge = false }; vcpus = (TouchCommand (record { page = 0; word = 0; op = (Write 7); kind = Private }) ∷ TouchCommand (record { page = 0; word = 0; op = Read; kind = Private }) ∷ []) ∷ []; callers = (CallCommand (Create 4096 0) ∷ CallCommand (Region2 (record { slot = 0; flags = 4; gpa = 0; size = 4096; user = 0; fd = 0; offset = 0 })) ∷ CallCommand (Attrs 0 4096 8 0) ∷ CallCommand (Punch 0 0 4096) ∷ []) ∷ [] }

abbrev pub one_frame : List Entry
one_frame =
    entry 27 (Vcpu 0) Enter ∷
    entry 26 (Vcpu 0) (Install 0 Small) ∷
    entry 25 (Vcpu 0) (Get (InFolio (record { serial = 1; frame = 0 })) 1) ∷
    entry 24 (Vcpu 0) (Look 31 (Some 0) Private (Some 0)) ∷
    entry 23 (Vcpu 0) (Sample 30) ∷
    entry 22 (Vcpu 0) (Miss (record { page = 0; word = 0; op = Read; kind = Private })) ∷
    entry 21 (Caller 0) (Answer (GoodReply 0)) ∷
    entry 21 (Caller 0) End ∷
    entry 20 (Caller 0) (Free (record { serial = 0; frame = 0 }) 1) ∷
    entry 20 (Caller 0) (Change (Cut 0 0 1)) ∷
    entry 19 (Caller 0) Acked ∷
    entry 18 (Vcpu 0) Flush ∷
    entry 17 (Caller 0) (Begin (record { list = (record { lo = 0; hi = 1 }) ∷ []; spare = 0 })) ∷
    entry 16 (Caller 0) (Judge (Punch 0 0 4096)) ∷
    entry 15 (Vcpu 0) (Touch (record { page = 0; word = 0; op = (Write 7); kind = Private }) (InFolio (record { serial = 0; frame = 0 })) Small 7 20) ∷
    entry 14 (Vcpu 0) Enter ∷
    entry 13 (Vcpu 0) (Install 0 Small) ∷
    entry 12 (Vcpu 0) (Get (InFolio (record { serial = 0; frame = 0 })) 1) ∷
    entry 11 (Vcpu 0) (Look 16 (Some 0) Private (Some 0)) ∷
    entry 10 (Vcpu 0) (Sample 15) ∷
    entry 9 (Vcpu 0) (Miss (record { page = 0; word = 0; op = (Write 7); kind = Private })) ∷
    entry 8 (Vcpu 0) Enter ∷
    entry 8 (Vcpu 0) Flush ∷
    entry 7 (Caller 0) (Answer (GoodReply 0)) ∷
    entry 7 (Caller 0) End ∷
    entry 6 (Caller 0) (Change (Attr (record { lo = 0; hi = 1 }) Private)) ∷
    entry 5 (Caller 0) Acked ∷
    entry 4 (Caller 0) (Begin (record { list = (record { lo = 0; hi = 1 }) ∷ []; spare = 0 })) ∷
    entry 3 (Caller 0) (Judge (Attrs 0 4096 8 0)) ∷
    entry 2 (Caller 0) (Answer (GoodReply 0)) ∷
    entry 2 (Caller 0) (Change (Slot 0 0 1 0 4 (Some 0) 0)) ∷
    entry 2 (Caller 0) (Judge (Region2 (record { slot = 0; flags = 4; gpa = 0; size = 4096; user = 0; fd = 0; offset = 0 }))) ∷
    entry 1 (Caller 0) (Answer (GoodReply 0)) ∷
    entry 1 (Caller 0) (Change (File 0 1 false)) ∷
    entry 1 (Caller 0) (Judge (Create 4096 0)) ∷
    []

-- A page without a slot that is private at the Miss and shared at the Look.
abbrev pub hole_twice_orders : Orders
hole_twice_orders = record { setup = record { frames = 4; user = 4; vcpus = 1; callers = 1; huge = false }; vcpus = (TouchCommand (record { page = 0; word = 0; op = Read; kind = Shared }) ∷ []) ∷ []; callers = (CallCommand (Attrs 0 4096 8 0) ∷ CallCommand (Attrs 0 4096 0 0) ∷ []) ∷ [] }

abbrev pub hole_twice : List Entry
hole_twice =
    entry 14 (Vcpu 0) (Look 16 None Shared None) ∷
    entry 13 (Vcpu 0) (Sample 15) ∷
    entry 12 (Caller 0) (Answer (GoodReply 0)) ∷
    entry 12 (Caller 0) End ∷
    entry 11 (Caller 0) (Change (Attr (record { lo = 0; hi = 1 }) Shared)) ∷
    entry 10 (Caller 0) Acked ∷
    entry 9 (Caller 0) (Begin (record { list = (record { lo = 0; hi = 1 }) ∷ []; spare = 0 })) ∷
    entry 8 (Caller 0) (Judge (Attrs 0 4096 0 0)) ∷
    entry 7 (Vcpu 0) (Miss (record { page = 0; word = 0; op = Read; kind = Shared })) ∷
    entry 6 (Vcpu 0) Enter ∷
    entry 6 (Vcpu 0) Flush ∷
    entry 5 (Caller 0) (Answer (GoodReply 0)) ∷
    entry 5 (Caller 0) End ∷
    entry 4 (Caller 0) (Change (Attr (record { lo = 0; hi = 1 }) Private)) ∷
    entry 3 (Caller 0) Acked ∷
    entry 2 (Caller 0) (Begin (record { list = (record { lo = 0; hi = 1 }) ∷ []; spare = 0 })) ∷
    entry 1 (Caller 0) (Judge (Attrs 0 4096 8 0)) ∷
    []

-- A second slot whose range of the file meets the first one in its last page.
abbrev pub bound_twice_orders : Orders
bound_twice_orders = record { setup = record { frames = 4; user = 4; vcpus = 1; callers = 1; huge = false }; vcpus = (TouchCommand (record { page = 0; word = 0; op = Read; kind = Shared }) ∷ []) ∷ []; callers = (CallCommand (Create 8192 0) ∷ CallCommand (Region2 (record { slot = 0; flags = 4; gpa = 0; size = 8192; user = 0; fd = 0; offset = 0 })) ∷ CallCommand (Region2 (record { slot = 1; flags = 4; gpa = 1048576; size = 4096; user = 0; fd = 0; offset = 4096 })) ∷ []) ∷ [] }

abbrev pub bound_twice : List Entry
bound_twice =
    entry 3 (Caller 0) (Judge (Region2 (record { slot = 1; flags = 4; gpa = 1048576; size = 4096; user = 0; fd = 0; offset = 4096 }))) ∷
    entry 2 (Caller 0) (Answer (GoodReply 0)) ∷
    entry 2 (Caller 0) (Change (Slot 0 0 2 0 4 (Some 0) 0)) ∷
    entry 2 (Caller 0) (Judge (Region2 (record { slot = 0; flags = 4; gpa = 0; size = 8192; user = 0; fd = 0; offset = 0 }))) ∷
    entry 1 (Caller 0) (Answer (GoodReply 0)) ∷
    entry 1 (Caller 0) (Change (File 0 2 false)) ∷
    entry 1 (Caller 0) (Judge (Create 8192 0)) ∷
    []

-- A punch of another page while a fault is in flight: only the sequence tells.
abbrev pub other_page_orders : Orders
other_page_orders = record { setup = record { frames = 8; user = 16; vcpus = 1; callers = 1; huge = false }; vcpus = (TouchCommand (record { page = 0; word = 0; op = Read; kind = Shared }) ∷ []) ∷ []; callers = (CallCommand (Create 8192 0) ∷ CallCommand (Region2 (record { slot = 0; flags = 0; gpa = 0; size = 16384; user = 0; fd = 0; offset = 0 })) ∷ CallCommand (Region2 (record { slot = 1; flags = 4; gpa = 1048576; size = 8192; user = 0; fd = 0; offset = 0 })) ∷ CallCommand (Punch 0 0 4096) ∷ []) ∷ [] }

abbrev pub other_page : List Entry
other_page =
    entry 13 (Caller 0) (Answer (GoodReply 0)) ∷
    entry 13 (Caller 0) End ∷
    entry 12 (Caller 0) (Change (Cut 0 0 1)) ∷
    entry 11 (Caller 0) Acked ∷
    entry 10 (Caller 0) (Begin (record { list = (record { lo = 256; hi = 257 }) ∷ []; spare = 0 })) ∷
    entry 9 (Caller 0) (Judge (Punch 0 0 4096)) ∷
    entry 8 (Vcpu 0) (Get (User 0) 0) ∷
    entry 7 (Vcpu 0) (Look 12 (Some 0) Shared None) ∷
    entry 6 (Vcpu 0) (Sample 11) ∷
    entry 5 (Vcpu 0) (Miss (record { page = 0; word = 0; op = Read; kind = Shared })) ∷
    entry 4 (Vcpu 0) Enter ∷
    entry 3 (Caller 0) (Answer (GoodReply 0)) ∷
    entry 3 (Caller 0) (Change (Slot 1 256 2 0 4 (Some 0) 0)) ∷
    entry 3 (Caller 0) (Judge (Region2 (record { slot = 1; flags = 4; gpa = 1048576; size = 8192; user = 0; fd = 0; offset = 0 }))) ∷
    entry 2 (Caller 0) (Answer (GoodReply 0)) ∷
    entry 2 (Caller 0) (Change (Slot 0 0 4 0 0 None 0)) ∷
    entry 2 (Caller 0) (Judge (Region2 (record { slot = 0; flags = 0; gpa = 0; size = 16384; user = 0; fd = 0; offset = 0 }))) ∷
    entry 1 (Caller 0) (Answer (GoodReply 0)) ∷
    entry 1 (Caller 0) (Change (File 0 2 false)) ∷
    entry 1 (Caller 0) (Judge (Create 8192 0)) ∷
    []

-- an install that looks up again and never compares a sequence: its page lies in no span, and is named as it was
abbrev pub never_compares : List Entry
never_compares = entry 14 (Vcpu 0) (Install 0 Small) ∷ other_page

-- a second Begin that resets the kept range instead of widening it
abbrev pub resets_the_range : List Entry
resets_the_range = entry 13 (Vcpu 0) (Install 8 Small) ∷ two_brackets

-- a bracket that asks for flushes only where it took a leaf away
abbrev pub asks_only_where_a_leaf_went : List Entry
asks_only_where_a_leaf_went = entry 12 (Caller 0) Acked ∷ front 13 flush_pending

-- a cut that frees a page which a fault holds
abbrev pub frees_a_held_page : List Entry
frees_a_held_page = entry 16 (Caller 0) (Free (record { serial = 0; frame = 0 }) 1) ∷ front 22 held_page

-- a 2 MiB leaf while a begun span meets its block
abbrev pub block_leaf_beside_a_change : List Entry
block_leaf_beside_a_change = entry 15 (Vcpu 0) (Install 0 Block) ∷ entry 14 (Caller 0) (Begin (record { list = (record { lo = 5; hi = 6 }) ∷ []; spare = 0 })) ∷ entry 13 (Caller 0) (Judge (Attrs 20480 4096 0 0)) ∷ front 18 mixed_block

-- mixed flags that aren't renewed for a block that a range cuts
abbrev pub edges_not_renewed : List Entry
edges_not_renewed = entry 26 (Vcpu 0) (Install 0 Block) ∷ front 32 mixed_block

-- a zap of one page that leaves the 2 MiB leaf over it
abbrev pub leaves_the_block_leaf : List Entry
leaves_the_block_leaf = entry 22 (Vcpu 0) (Touch (record { page = 0; word = 1; op = Read; kind = Private }) (InFolio (record { serial = 0; frame = 0 })) Block 0 28) ∷ front 28 mixed_block

-- a fault that always retries
abbrev pub always_retries : List Entry
always_retries = entry 7 (Vcpu 0) Retry ∷ front 8 one_read

-- a new folio whose frame keeps its old words
abbrev pub keeps_old_words : List Entry
keeps_old_words = entry 28 (Vcpu 0) (Touch (record { page = 0; word = 0; op = Read; kind = Private }) (InFolio (record { serial = 1; frame = 0 })) Small 7 35) ∷ one_frame

-- a conversion that changes and answers before its Acked
abbrev pub answers_before_acked : List Entry
answers_before_acked = entry 12 (Caller 0) (Change (Attr (record { lo = 0; hi = 1 }) Private)) ∷ front 13 flush_pending

-- an exit decided by the attribute at the Miss and not at the Look
abbrev pub exits_by_the_miss : List Entry
exits_by_the_miss = entry 15 (Vcpu 0) (Left (MemoryFault 0 0 4096)) ∷ hole_twice

-- a binding test that overlooks a range meeting in its last page
abbrev pub overlooks_the_last_page : List Entry
overlooks_the_last_page = entry 3 (Caller 0) (Answer (GoodReply 0)) ∷ entry 3 (Caller 0) (Change (Slot 1 256 1 0 4 (Some 0) 1)) ∷ bound_twice

-- a look that answers the generation before
abbrev pub looks_at_the_generation_before : List Entry
looks_at_the_generation_before = entry 5 (Vcpu 0) (Look 6 None Shared None) ∷ front 6 one_read

-- A private access to a shared page under a slot that is marked.
abbrev pub other_kind_orders : Orders
other_kind_orders = record { setup = record { frames = 4; user = 4; vcpus = 1; callers = 1; huge = false }; vcpus = (TouchCommand (record { page = 0; word = 0; op = Read; kind = Private }) ∷ []) ∷ []; callers = (CallCommand (Region2 (record { slot = 0; flags = 0; gpa = 0; size = 4096; user = 0; fd = 0; offset = 0 })) ∷ CallCommand (Region2 (record { slot = 0; flags = 0; gpa = 0; size = 0; user = 0; fd = 0; offset = 0 })) ∷ []) ∷ [] }

abbrev pub other_kind : List Entry
other_kind =
    entry 7 (Vcpu 0) (Look 10 (Some 0) Shared None) ∷
    entry 6 (Vcpu 0) (Sample 9) ∷
    entry 5 (Vcpu 0) (Miss (record { page = 0; word = 0; op = Read; kind = Private })) ∷
    entry 4 (Vcpu 0) Enter ∷
    entry 4 (Vcpu 0) Flush ∷
    entry 3 (Caller 0) (Change (Mark 0)) ∷
    entry 3 (Caller 0) (Begin (record { list = (record { lo = 0; hi = 1 }) ∷ []; spare = 0 })) ∷
    entry 2 (Caller 0) (Judge (Region2 (record { slot = 0; flags = 0; gpa = 0; size = 0; user = 0; fd = 0; offset = 0 }))) ∷
    entry 1 (Caller 0) (Answer (GoodReply 0)) ∷
    entry 1 (Caller 0) (Change (Slot 0 0 1 0 0 None 0)) ∷
    entry 1 (Caller 0) (Judge (Region2 (record { slot = 0; flags = 0; gpa = 0; size = 4096; user = 0; fd = 0; offset = 0 }))) ∷
    []

-- a fault that finds a marked slot and leaves the guest: but for the mark its memory fault would be right
abbrev pub exits_by_a_marked_slot : List Entry
exits_by_a_marked_slot = entry 8 (Vcpu 0) (Left (MemoryFault 8 0 4096)) ∷ other_kind

-- a fault that finds a marked slot and gets its page, to install it: but for the mark its Get would be right
abbrev pub gets_by_a_marked_slot : List Entry
gets_by_a_marked_slot = entry 8 (Vcpu 0) (Get (User 0) 0) ∷ front 11 marked_slot

-- a deletion that doesn't mark its slot in the turn of its Begin
abbrev pub deletes_without_a_mark : List Entry
deletes_without_a_mark = entry 4 (Caller 0) Acked ∷ front 5 marked_slot

-- a slot that stays marked after its move, so that a fault retries
abbrev pub keeps_the_mark : List Entry
keeps_the_mark = entry 11 (Vcpu 0) Retry ∷ front 15 move_and_deletion
