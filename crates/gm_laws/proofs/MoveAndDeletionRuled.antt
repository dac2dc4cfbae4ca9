-- The worked row «move and deletion»: a slot is marked and moves, is marked and deleted, and a peek reads what was written through it. It follows the tables.
use Rattle.std.proofs.Common.{◌<◌, List, None, Some, [], arith, inl, inr, refl, ◌∷◌, ◌≤◌}
use Rattle.gm_base.specs.declared.calls.Ioctl.TheVariants.{Peek, Region2}
use Rattle.gm_base.specs.declared.values.Actor.TheVariants.{Caller, Vcpu}
use Rattle.gm_base.specs.declared.values.Kind.TheVariants.{Shared}
use Rattle.gm_base.specs.declared.values.Level.TheVariants.{Small}
use Rattle.gm_base.specs.declared.values.Op.TheVariants.{Read, Write}
use Rattle.gm_flat.specs.declared.effect.Backing.TheVariants.{User}
use Rattle.gm_flat.specs.declared.effect.Effect.TheVariants.{Mark, Move, NoSlot, Slot}
use Rattle.gm_flat.specs.declared.effect.Exit.TheVariants.{Mmio}
use Rattle.gm_flat.specs.declared.effect.Reply.TheVariants.{Good as GoodReply}
use Rattle.gm_flat.specs.declared.entry.Entry.{Entry}
use Rattle.gm_flat.specs.declared.entry.What.TheVariants.{Acked, Answer, Begin, Change, End, Enter, Flush, Get, Install, Judge, Left, Look, Miss, Sample, Touch}
use Rattle.gm_laws.proofs.Kit.{by}
use Rattle.gm_laws.proofs.Rows.{false_true, first, further, one_caller, one_vcpu, quiet}
use Rattle.gm_laws.specs.MoveAndDeletion.{move_and_deletion, move_and_deletion_orders}
use Rattle.gm_laws.specs.Ruled.{Follows, Ruled}

late : 23 ≤ 20 → ⊥
late h = omega arith

none_below : 0 < 0 → ⊥
none_below h = omega arith

abbrev entry1 : Entry
entry1 = by 1 (Caller 0) (Judge (Region2 (record { slot = 0; flags = 0; gpa = 0; size = 4096; user = 4096; fd = 0; offset = 0 })))

abbrev pub past1 : List Entry
past1 = entry1 ∷ []

pub follows1 : Follows move_and_deletion_orders past1
follows1 = (first move_and_deletion_orders entry1 [] (omega arith) (omega arith) tt (quiet [] refl) (record { command = refl; none_in_progress = refl; locks_free = one_caller move_and_deletion_orders [] (Region2 (record { slot = 0; flags = 0; gpa = 0; size = 4096; user = 4096; fd = 0; offset = 0 })) refl tt }) refl, tt)

abbrev entry2 : Entry
entry2 = by 1 (Caller 0) (Change (Slot 0 0 1 1 0 None 0))

abbrev pub past2 : List Entry
past2 = entry2 ∷ past1

pub follows2 : Follows move_and_deletion_orders past2
follows2 = (further move_and_deletion_orders entry2 past1 (omega arith) (inl (refl, refl)) refl refl (((refl, refl), refl)), follows1)

abbrev entry3 : Entry
entry3 = by 1 (Caller 0) (Answer (GoodReply 0))

abbrev pub past3 : List Entry
past3 = entry3 ∷ past2

pub follows3 : Follows move_and_deletion_orders past3
follows3 = (further move_and_deletion_orders entry3 past2 (omega arith) (inl (refl, refl)) refl refl ((refl, (refl, refl))), follows2)

abbrev entry4 : Entry
entry4 = by 2 (Caller 0) (Judge (Region2 (record { slot = 0; flags = 0; gpa = 8192; size = 4096; user = 4096; fd = 0; offset = 0 })))

abbrev pub past4 : List Entry
past4 = entry4 ∷ past3

pub follows4 : Follows move_and_deletion_orders past4
follows4 = (first move_and_deletion_orders entry4 past3 (omega arith) (inr (omega arith)) refl (quiet past3 refl) (record { command = refl; none_in_progress = refl; locks_free = one_caller move_and_deletion_orders past3 (Region2 (record { slot = 0; flags = 0; gpa = 8192; size = 4096; user = 4096; fd = 0; offset = 0 })) refl follows3 }) refl, follows3)

abbrev entry5 : Entry
entry5 = by 3 (Caller 0) (Begin (record { list = (record { lo = 0; hi = 1 }) ∷ []; spare = 0 }))

abbrev pub past5 : List Entry
past5 = entry5 ∷ past4

pub follows5 : Follows move_and_deletion_orders past5
follows5 = (first move_and_deletion_orders entry5 past4 (omega arith) (inr (omega arith)) refl (quiet past4 refl) ((refl, ((Move 0 2), refl))) refl, follows4)

abbrev entry6 : Entry
entry6 = by 3 (Caller 0) (Change (Mark 0))

abbrev pub past6 : List Entry
past6 = entry6 ∷ past5

pub follows6 : Follows move_and_deletion_orders past6
follows6 = (further move_and_deletion_orders entry6 past5 (omega arith) (inl (refl, refl)) refl refl (((refl, refl), refl)), follows5)

abbrev entry7 : Entry
entry7 = by 4 (Caller 0) Acked

abbrev pub past7 : List Entry
past7 = entry7 ∷ past6

pub follows7 : Follows move_and_deletion_orders past7
follows7 = (first move_and_deletion_orders entry7 past6 (omega arith) (inr (omega arith)) refl (quiet past6 refl) ((refl, one_vcpu move_and_deletion_orders past6 _ refl follows6 (λ i n. false_true i))) refl, follows6)

abbrev entry8 : Entry
entry8 = by 5 (Caller 0) (Change (Move 0 2))

abbrev pub past8 : List Entry
past8 = entry8 ∷ past7

pub follows8 : Follows move_and_deletion_orders past8
follows8 = (first move_and_deletion_orders entry8 past7 (omega arith) (inr (omega arith)) refl (quiet past7 refl) (((refl, refl), refl)) refl, follows7)

abbrev entry9 : Entry
entry9 = by 6 (Caller 0) End

abbrev pub past9 : List Entry
past9 = entry9 ∷ past8

pub follows9 : Follows move_and_deletion_orders past9
follows9 = (first move_and_deletion_orders entry9 past8 (omega arith) (inr (omega arith)) refl (quiet past8 refl) (refl) refl, follows8)

abbrev entry10 : Entry
entry10 = by 6 (Caller 0) (Answer (GoodReply 0))

abbrev pub past10 : List Entry
past10 = entry10 ∷ past9

pub follows10 : Follows move_and_deletion_orders past10
follows10 = (further move_and_deletion_orders entry10 past9 (omega arith) (inl (refl, refl)) refl refl ((refl, (refl, refl))), follows9)

abbrev entry11 : Entry
entry11 = by 7 (Vcpu 0) Flush

abbrev pub past11 : List Entry
past11 = entry11 ∷ past10

pub follows11 : Follows move_and_deletion_orders past11
follows11 = (first move_and_deletion_orders entry11 past10 (omega arith) (inr (omega arith)) refl (quiet past10 refl) (refl) refl, follows10)

abbrev entry12 : Entry
entry12 = by 7 (Vcpu 0) Enter

abbrev pub past12 : List Entry
past12 = entry12 ∷ past11

pub follows12 : Follows move_and_deletion_orders past12
follows12 = (further move_and_deletion_orders entry12 past11 (omega arith) (inl (refl, refl)) refl refl (record { outside = refl; no_fault = refl; flushed_before = refl; waiting = tt }), follows11)

abbrev entry13 : Entry
entry13 = by 8 (Vcpu 0) (Miss (record { page = 2; word = 0; op = (Write 3); kind = Shared }))

abbrev pub past13 : List Entry
past13 = entry13 ∷ past12

pub follows13 : Follows move_and_deletion_orders past13
follows13 = (first move_and_deletion_orders entry13 past12 (omega arith) (inr (omega arith)) refl (quiet past12 refl) (record { not_served = record { is_inside = refl; no_fill = refl; no_leaf = refl }; command = refl }) refl, follows12)

abbrev entry14 : Entry
entry14 = by 9 (Vcpu 0) (Sample 13)

abbrev pub past14 : List Entry
past14 = entry14 ∷ past13

pub follows14 : Follows move_and_deletion_orders past14
follows14 = (first move_and_deletion_orders entry14 past13 (omega arith) (inr (omega arith)) refl (quiet past13 refl) ((tt, record { after_miss = omega arith; so_far = omega arith })) refl, follows13)

abbrev entry15 : Entry
entry15 = by 10 (Vcpu 0) (Look 14 (Some 0) Shared None)

abbrev pub past15 : List Entry
past15 = entry15 ∷ past14

pub follows15 : Follows move_and_deletion_orders past15
follows15 = (first move_and_deletion_orders entry15 past14 (omega arith) (inr (omega arith)) refl (quiet past14 refl) ((tt, record { after_sample = omega arith; so_far = omega arith; right_slot = refl; right_file = refl; right_attr = refl })) refl, follows14)

abbrev entry16 : Entry
entry16 = by 11 (Vcpu 0) (Get (User 1) 0)

abbrev pub past16 : List Entry
past16 = entry16 ∷ past15

pub follows16 : Follows move_and_deletion_orders past16
follows16 = (first move_and_deletion_orders entry16 past15 (omega arith) (inr (omega arith)) refl (quiet past15 refl) ((tt, (refl, refl), λ h. absurd (none_below h))) refl, follows15)

abbrev entry17 : Entry
entry17 = by 12 (Vcpu 0) (Install 2 Small)

abbrev pub past17 : List Entry
past17 = entry17 ∷ past16

pub follows17 : Follows move_and_deletion_orders past17
follows17 = (first move_and_deletion_orders entry17 past16 (omega arith) (inr (omega arith)) refl (quiet past16 refl) (((refl, refl), λ w. false_true w.is_huge)) refl, follows16)

abbrev entry18 : Entry
entry18 = by 13 (Vcpu 0) Enter

abbrev pub past18 : List Entry
past18 = entry18 ∷ past17

pub follows18 : Follows move_and_deletion_orders past18
follows18 = (first move_and_deletion_orders entry18 past17 (omega arith) (inr (omega arith)) refl (quiet past17 refl) (record { outside = refl; no_fault = refl; flushed_before = refl; waiting = tt }) refl, follows17)

abbrev entry19 : Entry
entry19 = by 14 (Vcpu 0) (Touch (record { page = 2; word = 0; op = (Write 3); kind = Shared }) (User 1) Small 3 18)

abbrev pub past19 : List Entry
past19 = entry19 ∷ past18

pub follows19 : Follows move_and_deletion_orders past19
follows19 = (first move_and_deletion_orders entry19 past18 (omega arith) (inr (omega arith)) refl (quiet past18 refl) (record { is_inside = refl; is_served = (refl, refl, refl); right_value = refl; command = refl }) refl, follows18)

abbrev entry20 : Entry
entry20 = by 15 (Caller 0) (Judge (Region2 (record { slot = 0; flags = 0; gpa = 0; size = 0; user = 0; fd = 0; offset = 0 })))

abbrev pub past20 : List Entry
past20 = entry20 ∷ past19

pub follows20 : Follows move_and_deletion_orders past20
follows20 = (first move_and_deletion_orders entry20 past19 (omega arith) (inr (omega arith)) refl (quiet past19 refl) (record { command = refl; none_in_progress = refl; locks_free = one_caller move_and_deletion_orders past19 (Region2 (record { slot = 0; flags = 0; gpa = 0; size = 0; user = 0; fd = 0; offset = 0 })) refl follows19 }) refl, follows19)

abbrev entry21 : Entry
entry21 = by 16 (Caller 0) (Begin (record { list = (record { lo = 2; hi = 3 }) ∷ []; spare = 0 }))

abbrev pub past21 : List Entry
past21 = entry21 ∷ past20

pub follows21 : Follows move_and_deletion_orders past21
follows21 = (first move_and_deletion_orders entry21 past20 (omega arith) (inr (omega arith)) refl (quiet past20 refl) ((refl, ((NoSlot 0), refl))) refl, follows20)

abbrev entry22 : Entry
entry22 = by 16 (Caller 0) (Change (Mark 0))

abbrev pub past22 : List Entry
past22 = entry22 ∷ past21

pub follows22 : Follows move_and_deletion_orders past22
follows22 = (further move_and_deletion_orders entry22 past21 (omega arith) (inl (refl, refl)) refl refl (((refl, refl), refl)), follows21)

abbrev entry23 : Entry
entry23 = by 18 (Vcpu 0) Flush

abbrev pub past23 : List Entry
past23 = entry23 ∷ past22

pub follows23 : Follows move_and_deletion_orders past23
follows23 = (first move_and_deletion_orders entry23 past22 (omega arith) (inr (omega arith)) refl (quiet past22 refl) (refl) refl, follows22)

abbrev entry24 : Entry
entry24 = by 19 (Caller 0) Acked

abbrev pub past24 : List Entry
past24 = entry24 ∷ past23

pub follows24 : Follows move_and_deletion_orders past24
follows24 = (first move_and_deletion_orders entry24 past23 (omega arith) (inr (omega arith)) refl (quiet past23 refl) ((refl, one_vcpu move_and_deletion_orders past23 _ refl follows23 (λ i n. late n))) refl, follows23)

abbrev entry25 : Entry
entry25 = by 20 (Caller 0) (Change (NoSlot 0))

abbrev pub past25 : List Entry
past25 = entry25 ∷ past24

pub follows25 : Follows move_and_deletion_orders past25
follows25 = (first move_and_deletion_orders entry25 past24 (omega arith) (inr (omega arith)) refl (quiet past24 refl) (((refl, refl), refl)) refl, follows24)

abbrev entry26 : Entry
entry26 = by 21 (Caller 0) End

abbrev pub past26 : List Entry
past26 = entry26 ∷ past25

pub follows26 : Follows move_and_deletion_orders past26
follows26 = (first move_and_deletion_orders entry26 past25 (omega arith) (inr (omega arith)) refl (quiet past25 refl) (refl) refl, follows25)

abbrev entry27 : Entry
entry27 = by 21 (Caller 0) (Answer (GoodReply 0))

abbrev pub past27 : List Entry
past27 = entry27 ∷ past26

pub follows27 : Follows move_and_deletion_orders past27
follows27 = (further move_and_deletion_orders entry27 past26 (omega arith) (inl (refl, refl)) refl refl ((refl, (refl, refl))), follows26)

abbrev entry28 : Entry
entry28 = by 22 (Vcpu 0) (Miss (record { page = 2; word = 0; op = Read; kind = Shared }))

abbrev pub past28 : List Entry
past28 = entry28 ∷ past27

pub follows28 : Follows move_and_deletion_orders past28
follows28 = (first move_and_deletion_orders entry28 past27 (omega arith) (inr (omega arith)) refl (quiet past27 refl) (record { not_served = record { is_inside = refl; no_fill = refl; no_leaf = refl }; command = refl }) refl, follows27)

abbrev entry29 : Entry
entry29 = by 23 (Vcpu 0) (Sample 28)

abbrev pub past29 : List Entry
past29 = entry29 ∷ past28

pub follows29 : Follows move_and_deletion_orders past29
follows29 = (first move_and_deletion_orders entry29 past28 (omega arith) (inr (omega arith)) refl (quiet past28 refl) ((tt, record { after_miss = omega arith; so_far = omega arith })) refl, follows28)

abbrev entry30 : Entry
entry30 = by 24 (Vcpu 0) (Look 29 None Shared None)

abbrev pub past30 : List Entry
past30 = entry30 ∷ past29

pub follows30 : Follows move_and_deletion_orders past30
follows30 = (first move_and_deletion_orders entry30 past29 (omega arith) (inr (omega arith)) refl (quiet past29 refl) ((tt, record { after_sample = omega arith; so_far = omega arith; right_slot = refl; right_file = refl; right_attr = refl })) refl, follows29)

abbrev entry31 : Entry
entry31 = by 25 (Vcpu 0) (Left (Mmio 8192))

abbrev pub past31 : List Entry
past31 = entry31 ∷ past30

pub follows31 : Follows move_and_deletion_orders past31
follows31 = (first move_and_deletion_orders entry31 past30 (omega arith) (inr (omega arith)) refl (quiet past30 refl) ((tt, record { right_route = refl; right_gpa = refl })) refl, follows30)

abbrev entry32 : Entry
entry32 = by 26 (Caller 0) (Judge (Peek 4096))

abbrev pub past32 : List Entry
past32 = entry32 ∷ past31

pub follows32 : Follows move_and_deletion_orders past32
follows32 = (first move_and_deletion_orders entry32 past31 (omega arith) (inr (omega arith)) refl (quiet past31 refl) (record { command = refl; none_in_progress = refl; locks_free = one_caller move_and_deletion_orders past31 (Peek 4096) refl follows31 }) refl, follows31)

abbrev entry33 : Entry
entry33 = by 26 (Caller 0) (Answer (GoodReply 3))

abbrev pub past33 : List Entry
past33 = entry33 ∷ past32

pub follows33 : Follows move_and_deletion_orders past33
follows33 = (further move_and_deletion_orders entry33 past32 (omega arith) (inl (refl, refl)) refl refl ((refl, refl)), follows32)

pub move_and_deletion_is_ruled : Ruled move_and_deletion_orders move_and_deletion
move_and_deletion_is_ruled = record { follows = follows33; row = refl; freed = quiet past33 refl }
