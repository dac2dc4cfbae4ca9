-- The worked row «marked slot»: a fault finds a slot that is to be deleted and retries at once. It follows the tables.
use Rattle.std.proofs.Common.{List, None, Some, [], arith, inl, inr, refl, ◌∷◌}
use Rattle.gm_base.specs.declared.calls.Ioctl.TheVariants.{Region2}
use Rattle.gm_base.specs.declared.values.Actor.TheVariants.{Caller, Vcpu}
use Rattle.gm_base.specs.declared.values.Kind.TheVariants.{Shared}
use Rattle.gm_base.specs.declared.values.Op.TheVariants.{Read}
use Rattle.gm_flat.specs.declared.effect.Effect.TheVariants.{Mark, NoSlot, Slot}
use Rattle.gm_flat.specs.declared.effect.Exit.TheVariants.{Mmio}
use Rattle.gm_flat.specs.declared.effect.Reply.TheVariants.{Good as GoodReply}
use Rattle.gm_flat.specs.declared.entry.Entry.{Entry}
use Rattle.gm_flat.specs.declared.entry.What.TheVariants.{Acked, Answer, Begin, Change, End, Enter, Flush, Judge, Left, Look, Miss, Retry, Sample}
use Rattle.gm_laws.proofs.Kit.{by, none_is}
use Rattle.gm_laws.proofs.Rows.{false_true, first, further, one_caller, one_holder, one_vcpu, quiet}
use Rattle.gm_laws.specs.MarkedSlot.{marked_slot, marked_slot_orders}
use Rattle.gm_laws.specs.Ruled.{AllFreed, Follows, Ruled}

abbrev entry1 : Entry
entry1 = by 1 (Caller 0) (Judge (Region2 (record { slot = 0; flags = 0; gpa = 0; size = 4096; user = 0; fd = 0; offset = 0 })))

abbrev pub past1 : List Entry
past1 = entry1 ∷ []

pub follows1 : Follows marked_slot_orders past1
follows1 = (first marked_slot_orders entry1 [] (omega arith) (omega arith) tt (quiet [] refl) (record { command = refl; none_in_progress = refl; locks_free = one_caller marked_slot_orders [] (Region2 (record { slot = 0; flags = 0; gpa = 0; size = 4096; user = 0; fd = 0; offset = 0 })) refl tt }) refl, tt)

abbrev entry2 : Entry
entry2 = by 1 (Caller 0) (Change (Slot 0 0 1 0 0 None 0))

abbrev pub past2 : List Entry
past2 = entry2 ∷ past1

pub follows2 : Follows marked_slot_orders past2
follows2 = (further marked_slot_orders entry2 past1 (omega arith) (inl (refl, refl)) refl refl (((refl, refl), refl)), follows1)

abbrev entry3 : Entry
entry3 = by 1 (Caller 0) (Answer (GoodReply 0))

abbrev pub past3 : List Entry
past3 = entry3 ∷ past2

pub follows3 : Follows marked_slot_orders past3
follows3 = (further marked_slot_orders entry3 past2 (omega arith) (inl (refl, refl)) refl refl ((refl, (refl, refl))), follows2)

abbrev entry4 : Entry
entry4 = by 2 (Caller 0) (Judge (Region2 (record { slot = 0; flags = 0; gpa = 0; size = 0; user = 0; fd = 0; offset = 0 })))

abbrev pub past4 : List Entry
past4 = entry4 ∷ past3

pub follows4 : Follows marked_slot_orders past4
follows4 = (first marked_slot_orders entry4 past3 (omega arith) (inr (omega arith)) refl (quiet past3 refl) (record { command = refl; none_in_progress = refl; locks_free = one_caller marked_slot_orders past3 (Region2 (record { slot = 0; flags = 0; gpa = 0; size = 0; user = 0; fd = 0; offset = 0 })) refl follows3 }) refl, follows3)

abbrev entry5 : Entry
entry5 = by 3 (Caller 0) (Begin (record { list = (record { lo = 0; hi = 1 }) ∷ []; spare = 0 }))

abbrev pub past5 : List Entry
past5 = entry5 ∷ past4

pub follows5 : Follows marked_slot_orders past5
follows5 = (first marked_slot_orders entry5 past4 (omega arith) (inr (omega arith)) refl (quiet past4 refl) ((refl, ((NoSlot 0), refl))) refl, follows4)

abbrev entry6 : Entry
entry6 = by 3 (Caller 0) (Change (Mark 0))

abbrev pub past6 : List Entry
past6 = entry6 ∷ past5

pub follows6 : Follows marked_slot_orders past6
follows6 = (further marked_slot_orders entry6 past5 (omega arith) (inl (refl, refl)) refl refl (((refl, refl), refl)), follows5)

abbrev entry7 : Entry
entry7 = by 4 (Vcpu 0) Flush

abbrev pub past7 : List Entry
past7 = entry7 ∷ past6

pub follows7 : Follows marked_slot_orders past7
follows7 = (first marked_slot_orders entry7 past6 (omega arith) (inr (omega arith)) refl (quiet past6 refl) (refl) refl, follows6)

abbrev entry8 : Entry
entry8 = by 4 (Vcpu 0) Enter

abbrev pub past8 : List Entry
past8 = entry8 ∷ past7

pub follows8 : Follows marked_slot_orders past8
follows8 = (further marked_slot_orders entry8 past7 (omega arith) (inl (refl, refl)) refl refl (record { outside = refl; no_fault = refl; flushed_before = refl; waiting = tt }), follows7)

abbrev entry9 : Entry
entry9 = by 5 (Vcpu 0) (Miss (record { page = 0; word = 0; op = Read; kind = Shared }))

abbrev pub past9 : List Entry
past9 = entry9 ∷ past8

pub follows9 : Follows marked_slot_orders past9
follows9 = (first marked_slot_orders entry9 past8 (omega arith) (inr (omega arith)) refl (quiet past8 refl) (record { not_served = record { is_inside = refl; no_fill = refl; no_leaf = refl }; command = refl }) refl, follows8)

abbrev entry10 : Entry
entry10 = by 6 (Vcpu 0) (Sample 9)

abbrev pub past10 : List Entry
past10 = entry10 ∷ past9

pub follows10 : Follows marked_slot_orders past10
follows10 = (first marked_slot_orders entry10 past9 (omega arith) (inr (omega arith)) refl (quiet past9 refl) ((tt, record { after_miss = omega arith; so_far = omega arith })) refl, follows9)

abbrev entry11 : Entry
entry11 = by 7 (Vcpu 0) (Look 10 (Some 0) Shared None)

abbrev pub past11 : List Entry
past11 = entry11 ∷ past10

pub follows11 : Follows marked_slot_orders past11
follows11 = (first marked_slot_orders entry11 past10 (omega arith) (inr (omega arith)) refl (quiet past10 refl) ((tt, record { after_sample = omega arith; so_far = omega arith; right_slot = refl; right_file = refl; right_attr = refl })) refl, follows10)

abbrev entry12 : Entry
entry12 = by 8 (Vcpu 0) Retry

abbrev pub past12 : List Entry
past12 = entry12 ∷ past11

pub follows12 : Follows marked_slot_orders past12
follows12 = (first marked_slot_orders entry12 past11 (omega arith) (inr (omega arith)) refl (quiet past11 refl) (inl refl) refl, follows11)

freed12 : AllFreed past12
freed12 l s (inl c) = absurd (none_is c.2 c.3)
freed12 l s (inr h) = absurd (one_holder marked_slot_orders past11 s refl follows11 h)

abbrev entry13 : Entry
entry13 = by 9 (Caller 0) Acked

abbrev pub past13 : List Entry
past13 = entry13 ∷ past12

pub follows13 : Follows marked_slot_orders past13
follows13 = (first marked_slot_orders entry13 past12 (omega arith) (inr (omega arith)) refl freed12 ((refl, one_vcpu marked_slot_orders past12 _ refl follows12 (λ i n. false_true i))) refl, follows12)

abbrev entry14 : Entry
entry14 = by 10 (Caller 0) (Change (NoSlot 0))

abbrev pub past14 : List Entry
past14 = entry14 ∷ past13

pub follows14 : Follows marked_slot_orders past14
follows14 = (first marked_slot_orders entry14 past13 (omega arith) (inr (omega arith)) refl (quiet past13 refl) (((refl, refl), refl)) refl, follows13)

abbrev entry15 : Entry
entry15 = by 11 (Caller 0) End

abbrev pub past15 : List Entry
past15 = entry15 ∷ past14

pub follows15 : Follows marked_slot_orders past15
follows15 = (first marked_slot_orders entry15 past14 (omega arith) (inr (omega arith)) refl (quiet past14 refl) (refl) refl, follows14)

abbrev entry16 : Entry
entry16 = by 11 (Caller 0) (Answer (GoodReply 0))

abbrev pub past16 : List Entry
past16 = entry16 ∷ past15

pub follows16 : Follows marked_slot_orders past16
follows16 = (further marked_slot_orders entry16 past15 (omega arith) (inl (refl, refl)) refl refl ((refl, (refl, refl))), follows15)

abbrev entry17 : Entry
entry17 = by 12 (Vcpu 0) Enter

abbrev pub past17 : List Entry
past17 = entry17 ∷ past16

pub follows17 : Follows marked_slot_orders past17
follows17 = (first marked_slot_orders entry17 past16 (omega arith) (inr (omega arith)) refl (quiet past16 refl) (record { outside = refl; no_fault = refl; flushed_before = refl; waiting = tt }) refl, follows16)

abbrev entry18 : Entry
entry18 = by 13 (Vcpu 0) (Miss (record { page = 0; word = 0; op = Read; kind = Shared }))

abbrev pub past18 : List Entry
past18 = entry18 ∷ past17

pub follows18 : Follows marked_slot_orders past18
follows18 = (first marked_slot_orders entry18 past17 (omega arith) (inr (omega arith)) refl (quiet past17 refl) (record { not_served = record { is_inside = refl; no_fill = refl; no_leaf = refl }; command = refl }) refl, follows17)

abbrev entry19 : Entry
entry19 = by 14 (Vcpu 0) (Sample 18)

abbrev pub past19 : List Entry
past19 = entry19 ∷ past18

pub follows19 : Follows marked_slot_orders past19
follows19 = (first marked_slot_orders entry19 past18 (omega arith) (inr (omega arith)) refl (quiet past18 refl) ((tt, record { after_miss = omega arith; so_far = omega arith })) refl, follows18)

abbrev entry20 : Entry
entry20 = by 15 (Vcpu 0) (Look 19 None Shared None)

abbrev pub past20 : List Entry
past20 = entry20 ∷ past19

pub follows20 : Follows marked_slot_orders past20
follows20 = (first marked_slot_orders entry20 past19 (omega arith) (inr (omega arith)) refl (quiet past19 refl) ((tt, record { after_sample = omega arith; so_far = omega arith; right_slot = refl; right_file = refl; right_attr = refl })) refl, follows19)

abbrev entry21 : Entry
entry21 = by 16 (Vcpu 0) (Left (Mmio 0))

abbrev pub past21 : List Entry
past21 = entry21 ∷ past20

pub follows21 : Follows marked_slot_orders past21
follows21 = (first marked_slot_orders entry21 past20 (omega arith) (inr (omega arith)) refl (quiet past20 refl) ((tt, record { right_route = refl; right_gpa = refl })) refl, follows20)

pub marked_slot_is_ruled : Ruled marked_slot_orders marked_slot
marked_slot_is_ruled = record { follows = follows21; row = refl; freed = quiet past21 refl }
