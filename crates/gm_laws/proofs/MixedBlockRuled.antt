-- The worked row «mixed block»: a leaf of 2 MiB, and one of 4 KiB after an attribute in the block has changed. It follows the tables.
use Rattle.std.proofs.Common.{false, ◌&&◌, ◌+◌, ◌-◌, ◌<◌, Bool, List, None, Option, Some, [], ap, arith, cond, inl, inr, leb, ltb, refl, subst, sym, true, ℕ, ◌∙◌, ◌∷◌, ◌≡◌, ◌≤◌}
use Rattle.std.proofs.lemmas.Bool.Decides.{nat_tests}
use Rattle.gm_base.specs.declared.calls.Ioctl.TheVariants.{Attrs, Create, Region2}
use Rattle.gm_base.specs.declared.values.Actor.TheVariants.{Caller, Vcpu}
use Rattle.gm_base.specs.declared.values.Kind.TheVariants.{Private, Shared}
use Rattle.gm_base.specs.declared.values.Level.TheVariants.{Block, Small}
use Rattle.gm_base.specs.declared.values.Op.TheVariants.{Read}
use Rattle.gm_flat.specs.FlatState.{cached}
use Rattle.gm_flat.specs.NamedPage.{Named, named}
use Rattle.gm_flat.specs.Replay.{flat}
use Rattle.gm_flat.specs.RightLevel.{IsFrame}
use Rattle.gm_flat.specs.declared.effect.Backing.TheVariants.{Folio as InFolio}
use Rattle.gm_flat.specs.declared.effect.Effect.TheVariants.{Attr, File, Slot}
use Rattle.gm_flat.specs.declared.effect.Reply.TheVariants.{Good as GoodReply}
use Rattle.gm_flat.specs.declared.entry.Entry.{Entry}
use Rattle.gm_flat.specs.declared.entry.What.TheVariants.{Acked, Answer, Begin, Change, End, Enter, Flush, Get, Install, Judge, Look, Miss, Sample, Touch}
use Rattle.gm_flat.specs.declared.views.SlotView.{SlotView}
use Rattle.gm_laws.proofs.Flats.{with_run_at}
use Rattle.gm_laws.proofs.Grow.{name_private}
use Rattle.gm_laws.proofs.Kit.{by}
use Rattle.gm_laws.proofs.Rows.{false_true, first, further, one_caller, one_vcpu, quiet}
use Rattle.gm_laws.specs.MixedBlock.{mixed_block, mixed_block_orders}
use Rattle.gm_laws.specs.Ruled.{Follows, Ruled}

late : 24 ≤ 22 → ⊥
late h = omega arith

mixed : Shared ≡ Private → ⊥
mixed e = cc

none_lower : (q : ℕ) → q < 0 → ⊥
none_lower q h = omega arith

none_below : 0 < 0 → ⊥
none_below h = omega arith

abbrev entry1 : Entry
entry1 = by 1 (Caller 0) (Judge (Create 2097152 1))

abbrev pub past1 : List Entry
past1 = entry1 ∷ []

pub follows1 : Follows mixed_block_orders past1
follows1 = (first mixed_block_orders entry1 [] (omega arith) (omega arith) tt (quiet [] refl) (record { command = refl; none_in_progress = refl; locks_free = one_caller mixed_block_orders [] (Create 2097152 1) refl tt }) refl, tt)

abbrev entry2 : Entry
entry2 = by 1 (Caller 0) (Change (File 0 512 true))

abbrev pub past2 : List Entry
past2 = entry2 ∷ past1

pub follows2 : Follows mixed_block_orders past2
follows2 = (further mixed_block_orders entry2 past1 (omega arith) (inl (refl, refl)) refl refl (((refl, refl), refl)), follows1)

abbrev entry3 : Entry
entry3 = by 1 (Caller 0) (Answer (GoodReply 0))

abbrev pub past3 : List Entry
past3 = entry3 ∷ past2

pub follows3 : Follows mixed_block_orders past3
follows3 = (further mixed_block_orders entry3 past2 (omega arith) (inl (refl, refl)) refl refl ((refl, (refl, refl))), follows2)

abbrev entry4 : Entry
entry4 = by 2 (Caller 0) (Judge (Region2 (record { slot = 0; flags = 4; gpa = 0; size = 2097152; user = 0; fd = 0; offset = 0 })))

abbrev pub past4 : List Entry
past4 = entry4 ∷ past3

pub follows4 : Follows mixed_block_orders past4
follows4 = (first mixed_block_orders entry4 past3 (omega arith) (inr (omega arith)) refl (quiet past3 refl) (record { command = refl; none_in_progress = refl; locks_free = one_caller mixed_block_orders past3 (Region2 (record { slot = 0; flags = 4; gpa = 0; size = 2097152; user = 0; fd = 0; offset = 0 })) refl follows3 }) refl, follows3)

abbrev entry5 : Entry
entry5 = by 2 (Caller 0) (Change (Slot 0 0 512 0 4 (Some 0) 0))

abbrev pub past5 : List Entry
past5 = entry5 ∷ past4

pub follows5 : Follows mixed_block_orders past5
follows5 = (further mixed_block_orders entry5 past4 (omega arith) (inl (refl, refl)) refl refl (((refl, refl), refl)), follows4)

abbrev entry6 : Entry
entry6 = by 2 (Caller 0) (Answer (GoodReply 0))

abbrev pub past6 : List Entry
past6 = entry6 ∷ past5

pub follows6 : Follows mixed_block_orders past6
follows6 = (further mixed_block_orders entry6 past5 (omega arith) (inl (refl, refl)) refl refl ((refl, (refl, refl))), follows5)

abbrev entry7 : Entry
entry7 = by 3 (Caller 0) (Judge (Attrs 0 2097152 8 0))

abbrev pub past7 : List Entry
past7 = entry7 ∷ past6

pub follows7 : Follows mixed_block_orders past7
follows7 = (first mixed_block_orders entry7 past6 (omega arith) (inr (omega arith)) refl (quiet past6 refl) (record { command = refl; none_in_progress = refl; locks_free = one_caller mixed_block_orders past6 (Attrs 0 2097152 8 0) refl follows6 }) refl, follows6)

abbrev entry8 : Entry
entry8 = by 4 (Caller 0) (Begin (record { list = (record { lo = 0; hi = 512 }) ∷ []; spare = 0 }))

abbrev pub past8 : List Entry
past8 = entry8 ∷ past7

pub follows8 : Follows mixed_block_orders past8
follows8 = (first mixed_block_orders entry8 past7 (omega arith) (inr (omega arith)) refl (quiet past7 refl) ((refl, ((Attr (record { lo = 0; hi = 512 }) Private), refl))) refl, follows7)

abbrev entry9 : Entry
entry9 = by 5 (Caller 0) Acked

abbrev pub past9 : List Entry
past9 = entry9 ∷ past8

pub follows9 : Follows mixed_block_orders past9
follows9 = (first mixed_block_orders entry9 past8 (omega arith) (inr (omega arith)) refl (quiet past8 refl) ((refl, one_vcpu mixed_block_orders past8 _ refl follows8 (λ i n. false_true i))) refl, follows8)

abbrev entry10 : Entry
entry10 = by 6 (Caller 0) (Change (Attr (record { lo = 0; hi = 512 }) Private))

abbrev pub past10 : List Entry
past10 = entry10 ∷ past9

pub follows10 : Follows mixed_block_orders past10
follows10 = (first mixed_block_orders entry10 past9 (omega arith) (inr (omega arith)) refl (quiet past9 refl) (((refl, refl), refl)) refl, follows9)

abbrev entry11 : Entry
entry11 = by 7 (Caller 0) End

abbrev pub past11 : List Entry
past11 = entry11 ∷ past10

pub follows11 : Follows mixed_block_orders past11
follows11 = (first mixed_block_orders entry11 past10 (omega arith) (inr (omega arith)) refl (quiet past10 refl) (refl) refl, follows10)

abbrev entry12 : Entry
entry12 = by 7 (Caller 0) (Answer (GoodReply 0))

abbrev pub past12 : List Entry
past12 = entry12 ∷ past11

pub follows12 : Follows mixed_block_orders past12
follows12 = (further mixed_block_orders entry12 past11 (omega arith) (inl (refl, refl)) refl refl ((refl, (refl, refl))), follows11)

abbrev entry13 : Entry
entry13 = by 8 (Vcpu 0) Flush

abbrev pub past13 : List Entry
past13 = entry13 ∷ past12

pub follows13 : Follows mixed_block_orders past13
follows13 = (first mixed_block_orders entry13 past12 (omega arith) (inr (omega arith)) refl (quiet past12 refl) (refl) refl, follows12)

abbrev entry14 : Entry
entry14 = by 8 (Vcpu 0) Enter

abbrev pub past14 : List Entry
past14 = entry14 ∷ past13

pub follows14 : Follows mixed_block_orders past14
follows14 = (further mixed_block_orders entry14 past13 (omega arith) (inl (refl, refl)) refl refl (record { outside = refl; no_fault = refl; flushed_before = refl; waiting = tt }), follows13)

abbrev entry15 : Entry
entry15 = by 9 (Vcpu 0) (Miss (record { page = 0; word = 0; op = Read; kind = Private }))

abbrev pub past15 : List Entry
past15 = entry15 ∷ past14

pub follows15 : Follows mixed_block_orders past15
follows15 = (first mixed_block_orders entry15 past14 (omega arith) (inr (omega arith)) refl (quiet past14 refl) (record { not_served = record { is_inside = refl; no_fill = refl; no_leaf = refl }; command = refl }) refl, follows14)

abbrev entry16 : Entry
entry16 = by 10 (Vcpu 0) (Sample 15)

abbrev pub past16 : List Entry
past16 = entry16 ∷ past15

pub follows16 : Follows mixed_block_orders past16
follows16 = (first mixed_block_orders entry16 past15 (omega arith) (inr (omega arith)) refl (quiet past15 refl) ((tt, record { after_miss = omega arith; so_far = omega arith })) refl, follows15)

abbrev entry17 : Entry
entry17 = by 11 (Vcpu 0) (Look 16 (Some 0) Private (Some 0))

abbrev pub past17 : List Entry
past17 = entry17 ∷ past16

pub follows17 : Follows mixed_block_orders past17
follows17 = (first mixed_block_orders entry17 past16 (omega arith) (inr (omega arith)) refl (quiet past16 refl) ((tt, record { after_sample = omega arith; so_far = omega arith; right_slot = refl; right_file = refl; right_attr = refl })) refl, follows16)

abbrev entry18 : Entry
entry18 = by 12 (Vcpu 0) (Get (InFolio (record { serial = 0; frame = 0 })) 512)

abbrev pub past18 : List Entry
past18 = entry18 ∷ past17

pub follows18 : Follows mixed_block_orders past18
follows18 = (first mixed_block_orders entry18 past17 (omega arith) (inr (omega arith)) refl (quiet past17 refl) ((tt, (refl, omega arith), λ h. (refl, inl (record { pages = refl; index_is = refl; frame = record { block = (record { aligned = refl; below = omega arith; free = λ k h. refl }); lowest = λ q k. absurd (none_lower q k) }; takes = record { in_file = (refl, omega arith); none_cached = λ k h. refl; has_frames = (0, (record { aligned = refl; below = omega arith; free = λ k h. refl })) } })))) refl, follows17)

abbrev row : SlotView
row = record { id = 0; base = 0; pages = 512; user = 0; flags = 4; file = Some 0; index = 0; invalid = false }

first_block : (k : ℕ) → k < 512 → (leb 0 (0 + k) && ltb (0 + k) (0 + 512)) ≡ true
first_block k h = grind (arith, nat_tests)

same_index : (k : ℕ) → (0 + (0 + k)) - 0 ≡ 0 + k
same_index k = omega arith

block_frame : (k : ℕ) → k < 512 → IsFrame (0 + k) (named (flat past18) (0 + k))
block_frame k h =
    let t : (leb 0 (0 + k) && ltb (0 + k) (0 + 512)) ≡ true = first_block k h in
    let c : cached 0 ((0 + (0 + k)) - 0) (flat past18).cache ≡ Some (record { serial = 0 + k; frame = 0 + k }) = ap (λ (i : ℕ). cached 0 i (flat past18).cache) (same_index k) ∙ with_run_at 512 k 0 0 0 0 [] h in
    subst (λ (o : Option Named). IsFrame (0 + k) o)
    (sym (name_private (flat past18) (0 + k) 0 row (record { serial = 0 + k; frame = 0 + k }) (ap (λ (z : Bool). cond z (Some row) None) t) refl refl (ap (λ (z : Bool). cond z Private Shared) t) c))
    refl

abbrev entry19 : Entry
entry19 = by 13 (Vcpu 0) (Install 0 Block)

abbrev pub past19 : List Entry
past19 = entry19 ∷ past18

pub follows19 : Follows mixed_block_orders past19
follows19 = (first mixed_block_orders entry19 past18 (omega arith) (inr (omega arith)) refl (quiet past18 refl) (((refl, refl), record { is_huge = refl; one_slot = (omega arith, omega arith); one_kind = λ h e. subst (λ (t : Bool). cond t Private Shared ≡ Private) (sym e) refl; consecutive = (0, refl, inr (λ k h. block_frame k h)); no_invalidation = refl })) refl, follows18)

abbrev entry20 : Entry
entry20 = by 14 (Vcpu 0) Enter

abbrev pub past20 : List Entry
past20 = entry20 ∷ past19

pub follows20 : Follows mixed_block_orders past20
follows20 = (first mixed_block_orders entry20 past19 (omega arith) (inr (omega arith)) refl (quiet past19 refl) (record { outside = refl; no_fault = refl; flushed_before = refl; waiting = tt }) refl, follows19)

abbrev entry21 : Entry
entry21 = by 15 (Vcpu 0) (Touch (record { page = 0; word = 0; op = Read; kind = Private }) (InFolio (record { serial = 0; frame = 0 })) Block 0 20)

abbrev pub past21 : List Entry
past21 = entry21 ∷ past20

pub follows21 : Follows mixed_block_orders past21
follows21 = (first mixed_block_orders entry21 past20 (omega arith) (inr (omega arith)) refl (quiet past20 refl) (record { is_inside = refl; is_served = (refl, refl, refl); right_value = refl; command = refl }) refl, follows20)

abbrev entry22 : Entry
entry22 = by 16 (Caller 0) (Judge (Attrs 20480 4096 0 0))

abbrev pub past22 : List Entry
past22 = entry22 ∷ past21

pub follows22 : Follows mixed_block_orders past22
follows22 = (first mixed_block_orders entry22 past21 (omega arith) (inr (omega arith)) refl (quiet past21 refl) (record { command = refl; none_in_progress = refl; locks_free = one_caller mixed_block_orders past21 (Attrs 20480 4096 0 0) refl follows21 }) refl, follows21)

abbrev entry23 : Entry
entry23 = by 17 (Caller 0) (Begin (record { list = (record { lo = 5; hi = 6 }) ∷ []; spare = 0 }))

abbrev pub past23 : List Entry
past23 = entry23 ∷ past22

pub follows23 : Follows mixed_block_orders past23
follows23 = (first mixed_block_orders entry23 past22 (omega arith) (inr (omega arith)) refl (quiet past22 refl) ((refl, ((Attr (record { lo = 5; hi = 6 }) Shared), refl))) refl, follows22)

abbrev entry24 : Entry
entry24 = by 18 (Vcpu 0) Flush

abbrev pub past24 : List Entry
past24 = entry24 ∷ past23

pub follows24 : Follows mixed_block_orders past24
follows24 = (first mixed_block_orders entry24 past23 (omega arith) (inr (omega arith)) refl (quiet past23 refl) (refl) refl, follows23)

abbrev entry25 : Entry
entry25 = by 19 (Caller 0) Acked

abbrev pub past25 : List Entry
past25 = entry25 ∷ past24

pub follows25 : Follows mixed_block_orders past25
follows25 = (first mixed_block_orders entry25 past24 (omega arith) (inr (omega arith)) refl (quiet past24 refl) ((refl, one_vcpu mixed_block_orders past24 _ refl follows24 (λ i n. late n))) refl, follows24)

abbrev entry26 : Entry
entry26 = by 20 (Caller 0) (Change (Attr (record { lo = 5; hi = 6 }) Shared))

abbrev pub past26 : List Entry
past26 = entry26 ∷ past25

pub follows26 : Follows mixed_block_orders past26
follows26 = (first mixed_block_orders entry26 past25 (omega arith) (inr (omega arith)) refl (quiet past25 refl) (((refl, refl), refl)) refl, follows25)

abbrev entry27 : Entry
entry27 = by 21 (Caller 0) End

abbrev pub past27 : List Entry
past27 = entry27 ∷ past26

pub follows27 : Follows mixed_block_orders past27
follows27 = (first mixed_block_orders entry27 past26 (omega arith) (inr (omega arith)) refl (quiet past26 refl) (refl) refl, follows26)

abbrev entry28 : Entry
entry28 = by 21 (Caller 0) (Answer (GoodReply 0))

abbrev pub past28 : List Entry
past28 = entry28 ∷ past27

pub follows28 : Follows mixed_block_orders past28
follows28 = (further mixed_block_orders entry28 past27 (omega arith) (inl (refl, refl)) refl refl ((refl, (refl, refl))), follows27)

abbrev entry29 : Entry
entry29 = by 22 (Vcpu 0) (Miss (record { page = 0; word = 1; op = Read; kind = Private }))

abbrev pub past29 : List Entry
past29 = entry29 ∷ past28

pub follows29 : Follows mixed_block_orders past29
follows29 = (first mixed_block_orders entry29 past28 (omega arith) (inr (omega arith)) refl (quiet past28 refl) (record { not_served = record { is_inside = refl; no_fill = refl; no_leaf = refl }; command = refl }) refl, follows28)

abbrev entry30 : Entry
entry30 = by 23 (Vcpu 0) (Sample 29)

abbrev pub past30 : List Entry
past30 = entry30 ∷ past29

pub follows30 : Follows mixed_block_orders past30
follows30 = (first mixed_block_orders entry30 past29 (omega arith) (inr (omega arith)) refl (quiet past29 refl) ((tt, record { after_miss = omega arith; so_far = omega arith })) refl, follows29)

abbrev entry31 : Entry
entry31 = by 24 (Vcpu 0) (Look 30 (Some 0) Private (Some 0))

abbrev pub past31 : List Entry
past31 = entry31 ∷ past30

pub follows31 : Follows mixed_block_orders past31
follows31 = (first mixed_block_orders entry31 past30 (omega arith) (inr (omega arith)) refl (quiet past30 refl) ((tt, record { after_sample = omega arith; so_far = omega arith; right_slot = refl; right_file = refl; right_attr = refl })) refl, follows30)

abbrev entry32 : Entry
entry32 = by 25 (Vcpu 0) (Get (InFolio (record { serial = 0; frame = 0 })) 0)

abbrev pub past32 : List Entry
past32 = entry32 ∷ past31

pub follows32 : Follows mixed_block_orders past32
follows32 = (first mixed_block_orders entry32 past31 (omega arith) (inr (omega arith)) refl (quiet past31 refl) ((tt, (refl, (refl, refl)), λ h. absurd (none_below h))) refl, follows31)

abbrev entry33 : Entry
entry33 = by 26 (Vcpu 0) (Install 0 Small)

abbrev pub past33 : List Entry
past33 = entry33 ∷ past32

pub follows33 : Follows mixed_block_orders past33
follows33 = (first mixed_block_orders entry33 past32 (omega arith) (inr (omega arith)) refl (quiet past32 refl) (((refl, refl), λ w. mixed (w.one_kind 5 refl))) refl, follows32)

abbrev entry34 : Entry
entry34 = by 27 (Vcpu 0) Enter

abbrev pub past34 : List Entry
past34 = entry34 ∷ past33

pub follows34 : Follows mixed_block_orders past34
follows34 = (first mixed_block_orders entry34 past33 (omega arith) (inr (omega arith)) refl (quiet past33 refl) (record { outside = refl; no_fault = refl; flushed_before = refl; waiting = tt }) refl, follows33)

abbrev entry35 : Entry
entry35 = by 28 (Vcpu 0) (Touch (record { page = 0; word = 1; op = Read; kind = Private }) (InFolio (record { serial = 0; frame = 0 })) Small 0 34)

abbrev pub past35 : List Entry
past35 = entry35 ∷ past34

pub follows35 : Follows mixed_block_orders past35
follows35 = (first mixed_block_orders entry35 past34 (omega arith) (inr (omega arith)) refl (quiet past34 refl) (record { is_inside = refl; is_served = (refl, refl, refl); right_value = refl; command = refl }) refl, follows34)

pub mixed_block_is_ruled : Ruled mixed_block_orders mixed_block
mixed_block_is_ruled = record { follows = follows35; row = refl; freed = quiet past35 refl }
