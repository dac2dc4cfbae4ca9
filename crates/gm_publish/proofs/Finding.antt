-- Each Change of a right history finds room in the view before it.
use Rattle.std.proofs.Common.{◌≡◌, ℕ, ◌+◌, ◌*◌, ◌/◌, ◌%◌, ◌<◌, ◌≤◌, List, [], ◌∷◌, Bool, true, false, not, ◌&&◌, ◌||◌, cond, eqb, leb, ltb, Option, Some, None, Result, Ok, Err, arith, refl, ap, sym, subst}
use Rattle.std.proofs.lemmas.Bool.{and_from, both_ways}
use Rattle.std.proofs.lemmas.Bool.Decides.{nat_tests}
use Rattle.gm_base.specs.Scripts.{Orders}
use Rattle.gm_base.specs.declared.calls.Ioctl.{Ioctl}
use Rattle.gm_base.specs.declared.calls.Ioctl.TheVariants.{Close, Region2}
use Rattle.gm_base.specs.declared.calls.Region.{Region}
use Rattle.gm_base.specs.declared.numbers.TheConstants.{SLOT_IDS}
use Rattle.gm_base.specs.declared.values.Actor.{Actor}
use Rattle.gm_base.specs.declared.values.Actor.TheVariants.{Caller, Vcpu}
use Rattle.gm_base.specs.declared.values.Errno.{Errno}
use Rattle.gm_base.specs.declared.values.Errno.TheVariants.{Exist, Inval}
use Rattle.gm_base.specs.declared.values.Setup.{Setup}
use Rattle.gm_flat.specs.Calls.{Bracketed, Plan, Short, differs, has_memfd, meets_slot, new_slot, page_of, plan, wants_file}
use Rattle.gm_flat.specs.Effects.{dropped}
use Rattle.gm_flat.specs.FlatState.{FileState, Flat, in_use, was_made}
use Rattle.gm_flat.specs.Histories.{Bracket, Call, bracket, call, is_mark}
use Rattle.gm_flat.specs.Replay.{flat}
use Rattle.gm_flat.specs.RightCalls.{IsChange, IsEffect, RightChange}
use Rattle.gm_flat.specs.RightHistory.{Right}
use Rattle.gm_flat.specs.RightLives.{plan_of}
use Rattle.gm_flat.specs.RightOrder.{Changes}
use Rattle.gm_flat.specs.Slots.{slot_by_id}
use Rattle.gm_flat.specs.declared.effect.Effect.{Effect}
use Rattle.gm_flat.specs.declared.effect.Effect.TheVariants.{Attr, Cut, File, Mark, Move, NoSlot, Shut, Slot, Word}
use Rattle.gm_flat.specs.declared.entry.Entry.{Entry}
use Rattle.gm_flat.specs.declared.entry.What.{What}
use Rattle.gm_flat.specs.declared.entry.What.TheVariants.{Change}
use Rattle.gm_flat.specs.declared.views.SlotView.{SlotView}
use Rattle.gm_ioctl.specs.InRange.{RegionInRange}
use Rattle.gm_laws.proofs.Fronts.{front_follows}
use Rattle.gm_laws.proofs.RightIsRuled.{ruled}
use Rattle.gm_laws.proofs.RowsSeen.{sees_row-then}
use Rattle.gm_laws.specs.JudgedRows.{SeesItsRow}
use Rattle.gm_laws.specs.May.{May}
use Rattle.gm_slots.specs.Changes.{change_by, change_of}
use Rattle.gm_slots.specs.declared.change.Change.{Change as SlotChange}
use Rattle.gm_slots.specs.declared.change.Change.TheVariants as change
use Rattle.gm_state.proofs.Promises.{promises}
use Rattle.gm_state.specs.Promised.{Makes, Promised}
use Rattle.gm_views.specs.Follows.{FindsRoom}
use Rattle.gm_views.specs.Standing.{clears, fits_at, is_absent}
use Rattle.gm_publish.proofs.Showing.{FindsAll, HasRoom}

-- the tests that a region passes

past_error : (t : Bool) (e : Errno) (q : Result SlotChange Errno) (w : SlotChange) → cond t (Err e) q ≡ Ok w → (t ≡ false) × (q ≡ Ok w)
past_error true e q w h = absurd (cc)
past_error false e q w h = (refl, h)

past_other : (t : Bool) (v w : SlotChange) (q : Result SlotChange Errno) → (v ≡ w → ⊥) → cond t (Ok v) q ≡ Ok w → (t ≡ false) × (q ≡ Ok w)
past_other true v w q n h = absurd (n cc)
past_other false v w q n h = (refl, h)

record IsNew (r : Region) (slots : List SlotView) (o : Option SlotView) : Type 0 where
  absent : o ≡ None
  apart : meets_slot (page_of r.gpa) (page_of r.size) slots ≡ false

made_new : (r : Region) (slots : List SlotView) (o : Option SlotView) → change_by r slots o ≡ Ok change.Make → IsNew r slots o
made_new r slots None h =
    let a = past_error (eqb r.size 0) Inval _ change.Make h in
    let b = past_error (meets_slot (page_of r.gpa) (page_of r.size) slots) Exist _ change.Make a.1 in
    record { absent = refl; apart = b.0 }
made_new r slots (Some s) h =
    let a = past_other (eqb r.size 0) change.Delete change.Make _ (λ e. cc) h in
    let b = past_error (has_memfd s || wants_file r) Inval _ change.Make a.1 in
    let c = past_error (differs r s) Inval _ change.Make b.1 in
    let d = past_other (eqb s.base (page_of r.gpa)) change.Nothing change.Make _ (λ e. cc) c.1 in
    let e = past_error (meets_slot (page_of r.gpa) (page_of r.size) (dropped r.slot slots)) Exist _ change.Make d.1 in
    absurd (cc (e.1))

record IsOld (r : Region) (slots : List SlotView) (o : Option SlotView) : Type 0 where
  slot : SlotView
  is : o ≡ Some slot
  some : eqb r.size 0 ≡ false
  apart : meets_slot (page_of r.gpa) (page_of r.size) (dropped r.slot slots) ≡ false

moved_old : (r : Region) (slots : List SlotView) (o : Option SlotView) → change_by r slots o ≡ Ok change.Move → IsOld r slots o
moved_old r slots None h =
    let a = past_error (eqb r.size 0) Inval _ change.Move h in
    let b = past_error (meets_slot (page_of r.gpa) (page_of r.size) slots) Exist _ change.Move a.1 in
    absurd (cc (b.1))
moved_old r slots (Some s) h =
    let a = past_other (eqb r.size 0) change.Delete change.Move _ (λ e. cc) h in
    let b = past_error (has_memfd s || wants_file r) Inval _ change.Move a.1 in
    let c = past_error (differs r s) Inval _ change.Move b.1 in
    let d = past_other (eqb s.base (page_of r.gpa)) change.Nothing change.Move _ (λ e. cc) c.1 in
    let e = past_error (meets_slot (page_of r.gpa) (page_of r.size) (dropped r.slot slots)) Exist _ change.Move d.1 in
    record { slot = s; is = refl; some = a.0; apart = e.0 }

-- numbers

end_fits : (from size : ℕ) → from + size < 18446744073709551616 → leb (from / 4096 + size / 4096) 18446744073709551616 ≡ true
end_fits from size h = grind (arith, nat_tests)

user_fits : (from size user : ℕ) → user ≤ 4294967295 → from + size ≤ 4096 * user → leb (from / 4096 + size / 4096) 18446744073709551616 ≡ true
user_fits from size user k h = grind (arith, nat_tests)

alone_fits : (from size : ℕ) → from + size < 18446744073709551616 → leb (0 + size / 4096) 18446744073709551616 ≡ true
alone_fits from size h = grind (arith, nat_tests)

below : (m n : ℕ) → m < n → ltb m n ≡ true
below m n h = grind (arith, nat_tests)

whole_pages : (size : ℕ) → size % 4096 ≡ 0 → eqb size 0 ≡ false → ltb 0 (size / 4096) ≡ true
whole_pages size h e = grind (arith, nat_tests)

-- a slot that is made finds its place

module _ (s : Setup) (r : Region) (f : Flat) (user : s.user ≤ 4294967295) (range : RegionInRange s.user r) (new : IsNew r f.slots (slot_by_id f.slots r.slot)) (some : 0 < page_of r.size) where
  stands : (((ltb r.slot SLOT_IDS && is_absent (slot_by_id f.slots r.slot)) && fits_at (page_of r.gpa) (page_of r.size)) && not (meets_slot (page_of r.gpa) (page_of r.size) f.slots)) ≡ true
  stands =
      let absent : is_absent (slot_by_id f.slots r.slot) ≡ true = ap is_absent new.absent in
      let fits : fits_at (page_of r.gpa) (page_of r.size) ≡ true = and_from _ _ (below 0 (page_of r.size) some) (end_fits r.gpa r.size range.guest_end) in
      and_from _ _ (and_from _ _ (and_from _ _ (below r.slot SLOT_IDS range.slot) absent) fits) (ap not new.apart)

  place : (t : Bool) → wants_file r ≡ t → FindsRoom (new_slot r t) f
  place true w = (and_from _ _ (user_fits r.user r.size s.user user range.user_end) (end_fits r.offset r.size (range.offset_end w)), stands)
  place false w = (and_from _ _ (user_fits r.user r.size s.user user range.user_end) (alone_fits r.gpa r.size range.guest_end), stands)

slot_room : (s : Setup) (i : Ioctl) (f : Flat) (slot base pages from flags : ℕ) (file : Option ℕ) (index : ℕ) → s.user ≤ 4294967295 → Makes s i f (Slot slot base pages from flags file index) → FindsRoom (Slot slot base pages from flags file index) f
slot_room s (Region2 r) f slot base pages from flags file index user m =
    subst (λ (e : Effect). FindsRoom e f) (sym m.effect_is) (place s r f user m.in_range (made_new r f.slots (slot_by_id f.slots r.slot) m.changes) m.some (wants_file r) refl)
slot_room s _ f slot base pages from flags file index user m = absurd m

-- one that moves may move

moves_by : (s : Setup) (r : Region) (f : Flat) → RegionInRange s.user r → change_of r f.slots ≡ Ok change.Move → ((t : SlotView) → slot_by_id f.slots r.slot ≡ Some t → (has_memfd t ≡ false) × (t.pages ≡ page_of r.size)) → clears r.slot (page_of r.gpa) f.slots (slot_by_id f.slots r.slot) ≡ true
moves_by s r f range h plain =
    let o = moved_old r f.slots (slot_by_id f.slots r.slot) h in
    let pages = (plain o.slot o.is).1 in
    let P : ℕ → Type 0 = λ n. (fits_at (page_of r.gpa) n && not (meets_slot (page_of r.gpa) n (dropped r.slot f.slots))) ≡ true in
    let fits : fits_at (page_of r.gpa) (page_of r.size) ≡ true = and_from _ _ (whole_pages r.size range.size o.some) (end_fits r.gpa r.size range.guest_end) in
    subst (λ (x : Option SlotView). clears r.slot (page_of r.gpa) f.slots x ≡ true) (sym o.is) (subst P (sym pages) (and_from _ _ fits (ap not o.apart)))

move_room : (s : Setup) (i : Ioctl) (f : Flat) (slot base : ℕ) → Makes s i f (Move slot base) → FindsRoom (Move slot base) f
move_room s (Region2 r) f slot base m =
    let P : ℕ → ℕ → Type 0 = λ id b. clears id b f.slots (slot_by_id f.slots id) ≡ true in
    subst (λ (id : ℕ). P id base) (sym m.id_is) (subst (λ (b : ℕ). P r.slot b) (sym m.base_is) (moves_by s r f m.in_range m.changes m.plain))
move_room s _ f slot base m = absurd m

-- a file that is shut was made

step_made : (a b c : Bool) → (b ≡ true → c ≡ true) → (t : Bool) → cond t a b ≡ true → (t || c) ≡ true
step_made a b c ih true h = refl
step_made a b c ih false h = ih h

used_made : (file : ℕ) (files : List FileState) → in_use file files ≡ true → was_made file files ≡ true
used_made file [] h = absurd (both_ways false refl h)
used_made file (f ∷ files) h = step_made f.used (in_use file files) (was_made file files) (used_made file files) (eqb f.number file) h

shut_room : (s : Setup) (i : Ioctl) (f : Flat) (file : ℕ) → Makes s i f (Shut file) → FindsRoom (Shut file) f
shut_room s (Close fd) f file m = used_made file f.files m
shut_room s _ f file m = absurd m

-- each of a call

made_by : (s : Setup) (i : Ioctl) (f : Flat) (e : Effect) (p : Plan) → IsEffect e p → Promised s i f p → Makes s i f e
made_by s i f e (Short g answer) is m = subst (λ (x : Effect). Makes s i f x) (sym is) m
made_by s i f e (Bracketed g spans) is m = subst (λ (x : Effect). Makes s i f x) (sym is) m
made_by s i f e _ is m = absurd is

module _ (s : Setup) (c : ℕ) (y : Call) (past : List Entry) (user : s.user ≤ 4294967295) (sees : plan s y.ioctl (flat past) ≡ plan_of s y past) where
  makes : (e : Effect) → IsEffect e (plan_of s y past) → Makes s y.ioctl (flat past) e
  makes e is = made_by s y.ioctl (flat past) e (plan_of s y past) is (subst (Promised s y.ioctl (flat past)) sees (promises s y.ioctl (flat past)))

  effect_room : (e : Effect) → IsChange (is_mark e) e (plan_of s y past) → FindsRoom e (flat past)
  effect_room (Slot slot base pages from flags file index) h = slot_room s y.ioctl (flat past) slot base pages from flags file index user (makes _ h)
  effect_room (Move slot base) h = move_room s y.ioctl (flat past) slot base (makes _ h)
  effect_room (Shut file) h = shut_room s y.ioctl (flat past) file (makes _ h)
  effect_room (File file pages block) h = tt
  effect_room (Mark slot) h = tt
  effect_room (NoSlot slot) h = tt
  effect_room (Attr span kind) h = tt
  effect_room (Cut file lo hi) h = tt
  effect_room (Word page word value) h = tt

change_room : (s : Setup) (e : Effect) (c : ℕ) (x : Option Call) (b : Option Bracket) (past : List Entry) → s.user ≤ 4294967295 → call c past ≡ x → Changes s e x b past → RightChange s e x past → SeesItsRow s past → FindsRoom e (flat past)
change_room s e c None b past user is m h sees = absurd h
change_room s e c (Some y) b past user is m h sees = effect_room s c y past user (sees c y is m.0) e h

what_room : (o : Orders) (w : What) (a : Actor) (past : List Entry) → o.setup.user ≤ 4294967295 → May o w a past → SeesItsRow o.setup past → HasRoom w (flat past)
what_room o (Change e) (Caller c) past user m sees = change_room o.setup e c (call c past) (bracket c past) past user refl m.0 m.1 sees
what_room o (Change e) (Vcpu v) past user m sees = absurd m
what_room o _ a past user m sees = tt

pub finds_all : (o : Orders) (past : List Entry) → o.setup.user ≤ 4294967295 → Right o past → FindsAll past
finds_all o past user r e before s =
    what_room o e.what e.actor before user (front_follows o e before past s (ruled o past r).follows).0.may (sees_row-then o e before past r s)
