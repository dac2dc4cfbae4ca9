-- The worked row «population and close»: an allocation, two populations, and a close that frees in order of index. It follows the tables.
use Rattle.std.proofs.Common.{◌+◌, ◌<◌, List, None, Option, Some, [], ap, arith, false, inl, inr, refl, subst, sym, ℕ, ◌∙◌, ◌∷◌, ◌≡◌, ◌≤◌, ◌⊎◌}
use Rattle.gm_base.specs.declared.calls.Ioctl.TheVariants.{Allocate, Attrs, Close, Create, Poke, Populate, Region2}
use Rattle.gm_base.specs.declared.values.Actor.TheVariants.{Caller, Vcpu}
use Rattle.gm_base.specs.declared.values.Errno.TheVariants.{BadF, Exist}
use Rattle.gm_base.specs.declared.values.Folio.{Folio}
use Rattle.gm_base.specs.declared.values.Kind.TheVariants.{Private}
use Rattle.gm_base.specs.declared.values.Op.TheVariants.{Read}
use Rattle.gm_flat.specs.FlatState.{Triple, cached, is_free, is_live}
use Rattle.gm_flat.specs.Replay.{flat}
use Rattle.gm_flat.specs.RightLives.{frame_of, index_of_folio}
use Rattle.gm_flat.specs.declared.effect.Effect.TheVariants.{Attr, File, Shut, Slot, Word}
use Rattle.gm_flat.specs.declared.effect.Exit.TheVariants.{Fault as MemoryFault}
use Rattle.gm_flat.specs.declared.effect.Reply.TheVariants.{Bad, Good as GoodReply}
use Rattle.gm_flat.specs.declared.entry.Entry.{Entry}
use Rattle.gm_flat.specs.declared.entry.What.TheVariants.{Acked, Answer, Begin, Change, End, Enter, Flush, Free, Judge, Left, Look, Miss, Page, Sample}
use Rattle.gm_laws.proofs.Kit.{by, none_is}
use Rattle.gm_laws.proofs.Rows.{below, false_true, first, further, one_caller, one_holder, one_vcpu, quiet, two_cached}
use Rattle.gm_laws.specs.PopulationAndClose.{population_and_close, population_and_close_orders}
use Rattle.gm_laws.specs.Ruled.{AllFreed, Follows, Ruled}

none_lower : (q : ℕ) → q < 0 → ⊥
none_lower q h = omega arith

never : (j : ℕ) → 1 ≤ j → j < 1 → ⊥
never j h k = omega arith

only_one : (i : ℕ) → 1 ≤ i → i < 2 → 1 ≡ i
only_one i h k = omega arith

some_none : {x : Folio} → Some x ≡ None → ⊥
some_none {x} e = none_is x (sym e)

is_one : (i : ℕ) → 1 ≤ i → i < 2 → (f : ℕ → List Triple → Option Folio) (ts : List Triple) → f i ts ≡ None → f 1 ts ≡ None
is_one i h k f ts e = ap (λ (x : ℕ). f x ts) (only_one i h k) ∙ e

apart_serials : ◌≡◌ {A = ℕ} 2 0 → ⊥
apart_serials e = omega arith

none_below : 0 < 0 → ⊥
none_below h = omega arith

abbrev entry1 : Entry
entry1 = by 1 (Caller 0) (Judge (Create 12288 0))

abbrev pub past1 : List Entry
past1 = entry1 ∷ []

pub follows1 : Follows population_and_close_orders past1
follows1 = (first population_and_close_orders entry1 [] (omega arith) (omega arith) tt (quiet [] refl) (record { command = refl; none_in_progress = refl; locks_free = one_caller population_and_close_orders [] (Create 12288 0) refl tt }) refl, tt)

abbrev entry2 : Entry
entry2 = by 1 (Caller 0) (Change (File 0 3 false))

abbrev pub past2 : List Entry
past2 = entry2 ∷ past1

pub follows2 : Follows population_and_close_orders past2
follows2 = (further population_and_close_orders entry2 past1 (omega arith) (inl (refl, refl)) refl refl (((refl, refl), refl)), follows1)

abbrev entry3 : Entry
entry3 = by 1 (Caller 0) (Answer (GoodReply 0))

abbrev pub past3 : List Entry
past3 = entry3 ∷ past2

pub follows3 : Follows population_and_close_orders past3
follows3 = (further population_and_close_orders entry3 past2 (omega arith) (inl (refl, refl)) refl refl ((refl, (refl, refl))), follows2)

abbrev entry4 : Entry
entry4 = by 2 (Caller 0) (Judge (Region2 (record { slot = 0; flags = 4; gpa = 0; size = 12288; user = 0; fd = 0; offset = 0 })))

abbrev pub past4 : List Entry
past4 = entry4 ∷ past3

pub follows4 : Follows population_and_close_orders past4
follows4 = (first population_and_close_orders entry4 past3 (omega arith) (inr (omega arith)) refl (quiet past3 refl) (record { command = refl; none_in_progress = refl; locks_free = one_caller population_and_close_orders past3 (Region2 (record { slot = 0; flags = 4; gpa = 0; size = 12288; user = 0; fd = 0; offset = 0 })) refl follows3 }) refl, follows3)

abbrev entry5 : Entry
entry5 = by 2 (Caller 0) (Change (Slot 0 0 3 0 4 (Some 0) 0))

abbrev pub past5 : List Entry
past5 = entry5 ∷ past4

pub follows5 : Follows population_and_close_orders past5
follows5 = (further population_and_close_orders entry5 past4 (omega arith) (inl (refl, refl)) refl refl (((refl, refl), refl)), follows4)

abbrev entry6 : Entry
entry6 = by 2 (Caller 0) (Answer (GoodReply 0))

abbrev pub past6 : List Entry
past6 = entry6 ∷ past5

pub follows6 : Follows population_and_close_orders past6
follows6 = (further population_and_close_orders entry6 past5 (omega arith) (inl (refl, refl)) refl refl ((refl, (refl, refl))), follows5)

abbrev entry7 : Entry
entry7 = by 3 (Caller 0) (Judge (Attrs 0 12288 8 0))

abbrev pub past7 : List Entry
past7 = entry7 ∷ past6

pub follows7 : Follows population_and_close_orders past7
follows7 = (first population_and_close_orders entry7 past6 (omega arith) (inr (omega arith)) refl (quiet past6 refl) (record { command = refl; none_in_progress = refl; locks_free = one_caller population_and_close_orders past6 (Attrs 0 12288 8 0) refl follows6 }) refl, follows6)

abbrev entry8 : Entry
entry8 = by 4 (Caller 0) (Begin (record { list = (record { lo = 0; hi = 3 }) ∷ []; spare = 0 }))

abbrev pub past8 : List Entry
past8 = entry8 ∷ past7

pub follows8 : Follows population_and_close_orders past8
follows8 = (first population_and_close_orders entry8 past7 (omega arith) (inr (omega arith)) refl (quiet past7 refl) ((refl, ((Attr (record { lo = 0; hi = 3 }) Private), refl))) refl, follows7)

abbrev entry9 : Entry
entry9 = by 5 (Caller 0) Acked

abbrev pub past9 : List Entry
past9 = entry9 ∷ past8

pub follows9 : Follows population_and_close_orders past9
follows9 = (first population_and_close_orders entry9 past8 (omega arith) (inr (omega arith)) refl (quiet past8 refl) ((refl, one_vcpu population_and_close_orders past8 _ refl follows8 (λ i n. false_true i))) refl, follows8)

abbrev entry10 : Entry
entry10 = by 6 (Caller 0) (Change (Attr (record { lo = 0; hi = 3 }) Private))

abbrev pub past10 : List Entry
past10 = entry10 ∷ past9

pub follows10 : Follows population_and_close_orders past10
follows10 = (first population_and_close_orders entry10 past9 (omega arith) (inr (omega arith)) refl (quiet past9 refl) (((refl, refl), refl)) refl, follows9)

abbrev entry11 : Entry
entry11 = by 7 (Caller 0) End

abbrev pub past11 : List Entry
past11 = entry11 ∷ past10

pub follows11 : Follows population_and_close_orders past11
follows11 = (first population_and_close_orders entry11 past10 (omega arith) (inr (omega arith)) refl (quiet past10 refl) (refl) refl, follows10)

abbrev entry12 : Entry
entry12 = by 7 (Caller 0) (Answer (GoodReply 0))

abbrev pub past12 : List Entry
past12 = entry12 ∷ past11

pub follows12 : Follows population_and_close_orders past12
follows12 = (further population_and_close_orders entry12 past11 (omega arith) (inl (refl, refl)) refl refl ((refl, (refl, refl))), follows11)

abbrev entry13 : Entry
entry13 = by 8 (Caller 0) (Judge (Allocate 0 4096 4096))

abbrev pub past13 : List Entry
past13 = entry13 ∷ past12

pub follows13 : Follows population_and_close_orders past13
follows13 = (first population_and_close_orders entry13 past12 (omega arith) (inr (omega arith)) refl (quiet past12 refl) (record { command = refl; none_in_progress = refl; locks_free = one_caller population_and_close_orders past12 (Allocate 0 4096 4096) refl follows12 }) refl, follows12)

abbrev entry14 : Entry
entry14 = by 9 (Caller 0) (Page 1 (record { serial = 0; frame = 0 }) 1)

abbrev pub past14 : List Entry
past14 = entry14 ∷ past13

pub follows14 : Follows population_and_close_orders past14
follows14 = (first population_and_close_orders entry14 past13 (omega arith) (inr (omega arith)) refl (quiet past13 refl) ((refl, (1, record { from = omega arith; below = omega arith; open_here = refl; none_before = λ j h k. λ n. never j h k }, inl refl), (refl, refl, λ i first. inr (record { pages = refl; index_is = only_one i first.from first.below; frame = record { below = omega arith; free = refl; lowest = λ q k. absurd (none_lower q k) } }, λ t. false_true t.in_file.0)))) refl, follows13)

abbrev entry15 : Entry
entry15 = by 10 (Caller 0) (Answer (GoodReply 0))

abbrev pub past15 : List Entry
past15 = entry15 ∷ past14

pub follows15 : Follows population_and_close_orders past15
follows15 = (first population_and_close_orders entry15 past14 (omega arith) (inr (omega arith)) refl (quiet past14 refl) ((refl, inl (refl, λ i h k n. some_none (is_one i h k (cached 0) (flat past14).cache n)))) refl, follows14)

abbrev entry16 : Entry
entry16 = by 11 (Caller 0) (Judge (Poke 0 42))

abbrev pub past16 : List Entry
past16 = entry16 ∷ past15

pub follows16 : Follows population_and_close_orders past16
follows16 = (first population_and_close_orders entry16 past15 (omega arith) (inr (omega arith)) refl (quiet past15 refl) (record { command = refl; none_in_progress = refl; locks_free = one_caller population_and_close_orders past15 (Poke 0 42) refl follows15 }) refl, follows15)

abbrev entry17 : Entry
entry17 = by 11 (Caller 0) (Change (Word 0 0 42))

abbrev pub past17 : List Entry
past17 = entry17 ∷ past16

pub follows17 : Follows population_and_close_orders past17
follows17 = (further population_and_close_orders entry17 past16 (omega arith) (inl (refl, refl)) refl refl (((refl, refl), refl)), follows16)

abbrev entry18 : Entry
entry18 = by 11 (Caller 0) (Answer (GoodReply 0))

abbrev pub past18 : List Entry
past18 = entry18 ∷ past17

pub follows18 : Follows population_and_close_orders past18
follows18 = (further population_and_close_orders entry18 past17 (omega arith) (inl (refl, refl)) refl refl ((refl, (refl, refl))), follows17)

abbrev entry19 : Entry
entry19 = by 12 (Caller 0) (Judge (Populate 0 3 0))

abbrev pub past19 : List Entry
past19 = entry19 ∷ past18

pub follows19 : Follows population_and_close_orders past19
follows19 = (first population_and_close_orders entry19 past18 (omega arith) (inr (omega arith)) refl (quiet past18 refl) (record { command = refl; none_in_progress = refl; locks_free = one_caller population_and_close_orders past18 (Populate 0 3 0) refl follows18 }) refl, follows18)

abbrev entry20 : Entry
entry20 = by 13 (Caller 0) (Page 0 (record { serial = 1; frame = 1 }) 1)

abbrev pub past20 : List Entry
past20 = entry20 ∷ past19

pub follows20 : Follows population_and_close_orders past20
follows20 = (first population_and_close_orders entry20 past19 (omega arith) (inr (omega arith)) refl (quiet past19 refl) ((refl, record { more = omega arith; index_is = refl; open_here = refl; is_private = refl }, (refl, refl, record { pages = refl; index_is = refl; frame = record { below = omega arith; free = refl; lowest = λ q k. subst (λ (x : ℕ). is_free x (flat past19).folios ≡ false) (below q k) refl } }))) refl, follows19)

abbrev entry21 : Entry
entry21 = by 14 (Caller 0) (Answer (GoodReply 1))

abbrev pub past21 : List Entry
past21 = entry21 ∷ past20

pub follows21 : Follows population_and_close_orders past21
follows21 = (first population_and_close_orders entry21 past20 (omega arith) (inr (omega arith)) refl (quiet past20 refl) ((refl, inr (omega arith, (Exist, (λ n. some_none n), refl)))) refl, follows20)

abbrev entry22 : Entry
entry22 = by 15 (Caller 0) (Judge (Populate 0 3 0))

abbrev pub past22 : List Entry
past22 = entry22 ∷ past21

pub follows22 : Follows population_and_close_orders past22
follows22 = (first population_and_close_orders entry22 past21 (omega arith) (inr (omega arith)) refl (quiet past21 refl) (record { command = refl; none_in_progress = refl; locks_free = one_caller population_and_close_orders past21 (Populate 0 3 0) refl follows21 }) refl, follows21)

abbrev entry23 : Entry
entry23 = by 16 (Caller 0) (Answer (Bad Exist))

abbrev pub past23 : List Entry
past23 = entry23 ∷ past22

pub follows23 : Follows population_and_close_orders past23
follows23 = (first population_and_close_orders entry23 past22 (omega arith) (inr (omega arith)) refl (quiet past22 refl) ((refl, inr (omega arith, (Exist, (λ n. some_none n), refl)))) refl, follows22)

abbrev entry24 : Entry
entry24 = by 17 (Caller 0) (Judge (Close 0))

abbrev pub past24 : List Entry
past24 = entry24 ∷ past23

pub follows24 : Follows population_and_close_orders past24
follows24 = (first population_and_close_orders entry24 past23 (omega arith) (inr (omega arith)) refl (quiet past23 refl) (record { command = refl; none_in_progress = refl; locks_free = one_caller population_and_close_orders past23 (Close 0) refl follows23 }) refl, follows23)

abbrev entry25 : Entry
entry25 = by 18 (Caller 0) (Begin (record { list = (record { lo = 0; hi = 3 }) ∷ []; spare = 0 }))

abbrev pub past25 : List Entry
past25 = entry25 ∷ past24

pub follows25 : Follows population_and_close_orders past25
follows25 = (first population_and_close_orders entry25 past24 (omega arith) (inr (omega arith)) refl (quiet past24 refl) ((refl, ((Shut 0), refl))) refl, follows24)

abbrev entry26 : Entry
entry26 = by 19 (Caller 0) Acked

abbrev pub past26 : List Entry
past26 = entry26 ∷ past25

pub follows26 : Follows population_and_close_orders past26
follows26 = (first population_and_close_orders entry26 past25 (omega arith) (inr (omega arith)) refl (quiet past25 refl) ((refl, one_vcpu population_and_close_orders past25 _ refl follows25 (λ i n. false_true i))) refl, follows25)

abbrev entry27 : Entry
entry27 = by 20 (Caller 0) (Change (Shut 0))

abbrev pub past27 : List Entry
past27 = entry27 ∷ past26

pub follows27 : Follows population_and_close_orders past27
follows27 = (first population_and_close_orders entry27 past26 (omega arith) (inr (omega arith)) refl (quiet past26 refl) (((refl, refl), refl)) refl, follows26)

abbrev entry28 : Entry
entry28 = by 20 (Caller 0) (Free (record { serial = 1; frame = 1 }) 1)

abbrev pub past28 : List Entry
past28 = entry28 ∷ past27

pub follows28 : Follows population_and_close_orders past28
follows28 = (further population_and_close_orders entry28 past27 (omega arith) (inl (refl, refl)) refl refl (record { some = omega arith; live = λ k h. subst (λ (j : ℕ). frame_of (1 + j) (flat past27).folios ≡ Some (1 + j)) (below k h) refl; not_cached = λ k h c. none_is c.2 c.3; not_held = λ k h x. one_holder population_and_close_orders past27 (1 + k) refl follows27 x; placed = (0, (λ k h. subst (λ (j : ℕ). index_of_folio (1 + j) (flat past26).cache ≡ Some (0 + j)) (below k h) refl), tt) }), follows27)

abbrev entry29 : Entry
entry29 = by 20 (Caller 0) (Free (record { serial = 0; frame = 0 }) 1)

abbrev pub past29 : List Entry
past29 = entry29 ∷ past28

pub follows29 : Follows population_and_close_orders past29
follows29 = (further population_and_close_orders entry29 past28 (omega arith) (inl (refl, refl)) refl refl (record { some = omega arith; live = λ k h. subst (λ (j : ℕ). frame_of (0 + j) (flat past28).folios ≡ Some (0 + j)) (below k h) refl; not_cached = λ k h c. none_is c.2 c.3; not_held = λ k h x. one_holder population_and_close_orders past28 (0 + k) refl follows28 x; placed = (1, (λ k h. subst (λ (j : ℕ). index_of_folio (0 + j) (flat past26).cache ≡ Some (1 + j)) (below k h) refl), (0, (λ k h. subst (λ (j : ℕ). index_of_folio (1 + j) (flat past26).cache ≡ Some (0 + j)) (below k h) refl), omega arith, λ x. apart_serials x.1)) }), follows28)

shut_free : (s : ℕ) → (1 ≡ s) ⊎ (0 ≡ s) → is_live s (flat past29).folios ≡ false
shut_free s (inl e) = subst (λ (k : ℕ). is_live k (flat past29).folios ≡ false) e refl
shut_free s (inr e) = subst (λ (k : ℕ). is_live k (flat past29).folios ≡ false) e refl

freed29 : AllFreed past29
freed29 l s (inl c) = inr (shut_free s (two_cached c.0 c.1 s (record { file = 0; index = 0; folio = record { serial = 1; frame = 1 } }) (record { file = 0; index = 1; folio = record { serial = 0; frame = 0 } }) c.2 c.3 c.4))
freed29 l s (inr h) = absurd (one_holder population_and_close_orders past26 s refl follows26 h)

abbrev entry30 : Entry
entry30 = by 21 (Caller 0) End

abbrev pub past30 : List Entry
past30 = entry30 ∷ past29

pub follows30 : Follows population_and_close_orders past30
follows30 = (first population_and_close_orders entry30 past29 (omega arith) (inr (omega arith)) refl (freed29) (refl) refl, follows29)

abbrev entry31 : Entry
entry31 = by 21 (Caller 0) (Answer (GoodReply 0))

abbrev pub past31 : List Entry
past31 = entry31 ∷ past30

pub follows31 : Follows population_and_close_orders past31
follows31 = (further population_and_close_orders entry31 past30 (omega arith) (inl (refl, refl)) refl refl ((refl, (refl, refl))), follows30)

abbrev entry32 : Entry
entry32 = by 22 (Caller 0) (Judge (Close 0))

abbrev pub past32 : List Entry
past32 = entry32 ∷ past31

pub follows32 : Follows population_and_close_orders past32
follows32 = (first population_and_close_orders entry32 past31 (omega arith) (inr (omega arith)) refl (quiet past31 refl) (record { command = refl; none_in_progress = refl; locks_free = one_caller population_and_close_orders past31 (Close 0) refl follows31 }) refl, follows31)

abbrev entry33 : Entry
entry33 = by 22 (Caller 0) (Answer (Bad BadF))

abbrev pub past33 : List Entry
past33 = entry33 ∷ past32

pub follows33 : Follows population_and_close_orders past33
follows33 = (further population_and_close_orders entry33 past32 (omega arith) (inl (refl, refl)) refl refl ((refl, refl)), follows32)

abbrev entry34 : Entry
entry34 = by 23 (Vcpu 0) Flush

abbrev pub past34 : List Entry
past34 = entry34 ∷ past33

pub follows34 : Follows population_and_close_orders past34
follows34 = (first population_and_close_orders entry34 past33 (omega arith) (inr (omega arith)) refl (quiet past33 refl) (refl) refl, follows33)

abbrev entry35 : Entry
entry35 = by 23 (Vcpu 0) Enter

abbrev pub past35 : List Entry
past35 = entry35 ∷ past34

pub follows35 : Follows population_and_close_orders past35
follows35 = (further population_and_close_orders entry35 past34 (omega arith) (inl (refl, refl)) refl refl (record { outside = refl; no_fault = refl; flushed_before = refl; waiting = tt }), follows34)

abbrev entry36 : Entry
entry36 = by 24 (Vcpu 0) (Miss (record { page = 0; word = 0; op = Read; kind = Private }))

abbrev pub past36 : List Entry
past36 = entry36 ∷ past35

pub follows36 : Follows population_and_close_orders past36
follows36 = (first population_and_close_orders entry36 past35 (omega arith) (inr (omega arith)) refl (quiet past35 refl) (record { not_served = record { is_inside = refl; no_fill = refl; no_leaf = refl }; command = refl }) refl, follows35)

abbrev entry37 : Entry
entry37 = by 25 (Vcpu 0) (Sample 36)

abbrev pub past37 : List Entry
past37 = entry37 ∷ past36

pub follows37 : Follows population_and_close_orders past37
follows37 = (first population_and_close_orders entry37 past36 (omega arith) (inr (omega arith)) refl (quiet past36 refl) ((tt, record { after_miss = omega arith; so_far = omega arith })) refl, follows36)

abbrev entry38 : Entry
entry38 = by 26 (Vcpu 0) (Look 37 (Some 0) Private None)

abbrev pub past38 : List Entry
past38 = entry38 ∷ past37

pub follows38 : Follows population_and_close_orders past38
follows38 = (first population_and_close_orders entry38 past37 (omega arith) (inr (omega arith)) refl (quiet past37 refl) ((tt, record { after_sample = omega arith; so_far = omega arith; right_slot = refl; right_file = refl; right_attr = refl })) refl, follows37)

abbrev entry39 : Entry
entry39 = by 27 (Vcpu 0) (Left (MemoryFault 8 0 4096))

abbrev pub past39 : List Entry
past39 = entry39 ∷ past38

pub follows39 : Follows population_and_close_orders past39
follows39 = (first population_and_close_orders entry39 past38 (omega arith) (inr (omega arith)) refl (quiet past38 refl) ((tt, record { right_route = refl; right_flags = refl; right_gpa = refl; right_size = refl })) refl, follows38)

pub population_and_close_is_ruled : Ruled population_and_close_orders population_and_close
population_and_close_is_ruled = record { follows = follows39; row = refl; freed = quiet past39 refl }
