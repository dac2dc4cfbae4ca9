-- The index that a fault wants of a file in use is one of the file's pages.
use Rattle.std.proofs.Common.{◌≡◌, ℕ, ◌+◌, ◌-◌, ◌<◌, ◌≤◌, ◌&&◌, ◌||◌, List, [], ◌∷◌, Bool, true, false, length, Option, Some, None, arith, refl, ap, cond, eqb, leb, ltb, inl, inr, subst, sym, ◌∙◌}
use Rattle.std.proofs.lemmas.Bool.{eq-eqb}
use Rattle.std.proofs.lemmas.Bool.Decides.{nat_tests}
use Rattle.gm_base.specs.Scripts.{Orders}
use Rattle.gm_base.specs.declared.calls.Ioctl.{Ioctl}
use Rattle.gm_base.specs.declared.calls.Ioctl.TheVariants.{Create, Region2, Attrs, Punch, Allocate, Close, Populate, Poke, Peek}
use Rattle.gm_base.specs.declared.values.Actor.{Actor}
use Rattle.gm_base.specs.declared.values.Actor.TheVariants.{Vcpu, Caller}
use Rattle.gm_base.specs.declared.values.Setup.{Setup}
use Rattle.gm_fault.specs.Routes.{route_of}
use Rattle.gm_fault.specs.declared.routes.Route.TheVariants.{File as ToFile}
use Rattle.gm_fault.specs.declared.ticket.Ticket.{Ticket}
use Rattle.gm_flat.specs.Calls.{Plan, Paged, Refused, Same, Reads, Short, Bracketed, file_pages, plan, has_memfd}
use Rattle.gm_flat.specs.Effects.{apply, shut_files, shut_slots, slot_fits, without_file}
use Rattle.gm_flat.specs.FlatState.{Flat, FileState, in_use, was_made}
use Rattle.gm_flat.specs.Histories.{Call, Seen, bracket, call}
use Rattle.gm_flat.specs.Replay.{flat, flat_at, index_in, looked_slot, slot_by}
use Rattle.gm_flat.specs.RightCalls.{IsChange, RightChange}
use Rattle.gm_flat.specs.RightOrder.{Changes}
use Rattle.gm_flat.specs.RightHistory.{Right}
use Rattle.gm_flat.specs.RightLook.{file_of}
use Rattle.gm_flat.specs.Slots.{index_of, is_file, lies_over, slot_by_id}
use Rattle.gm_flat.specs.declared.effect.Effect.{Effect}
use Rattle.gm_flat.specs.declared.effect.Effect.TheVariants.{Attr, Cut, File, Mark, Move, NoSlot, Shut, Slot, Word}
use Rattle.gm_flat.specs.declared.entry.Entry.{Entry}
use Rattle.gm_flat.specs.declared.entry.What.{What}
use Rattle.gm_flat.specs.declared.entry.What.TheVariants.{Change}
use Rattle.gm_flat.specs.declared.views.Looked.{Looked}
use Rattle.gm_flat.specs.declared.views.Sampled.{Sampled}
use Rattle.gm_flat.specs.declared.views.SlotView.{SlotView}
use Rattle.gm_laws.proofs.BoundRanges.{kept, pages_shut, ranges_now, ranges_then, used_made}
use Rattle.gm_laws.proofs.Grow.{same_state}
use Rattle.gm_laws.proofs.Kit.{by}
use Rattle.gm_laws.proofs.RightIsRuled.{ruled}
use Rattle.gm_laws.proofs.RowsSeen.{sees_row-now, sees_row-then}
use Rattle.gm_laws.proofs.SlotsKeep.{slots_now, slots_then}
use Rattle.gm_laws.specs.BoundRanges.{BoundRanges, IsInsideFile}
use Rattle.gm_laws.specs.JudgedRows.{SeesItsRow}
use Rattle.gm_laws.specs.May.{May}
use Rattle.gm_laws.specs.Ruled.{Follows}
use Rattle.gm_laws.specs.SlotsStand.{AllOf, SlotsStand}
use Rattle.gm_laws.specs.Stands.{Stands}
use Rattle.gm_state.proofs.Promises.{promises}
use Rattle.gm_state.specs.Promised.{Makes, Promised}
use Rattle.gm_vcpus.proofs.Allowed.{AtLook}
use Rattle.gm_vcpus.proofs.Flights.{flight}
use Rattle.gm_vcpus.proofs.Routing.{file_right}
use Rattle.gm_vcpus.specs.Stand.{IsSightOf}
use Rattle.gm_vcpus.specs.declared.stage.Stage.TheVariants as at
use Rattle.gm_vcpus.specs.declared.vcpu.Vcpu.{Vcpu as VcpuView}
use Rattle.std.specs.Prelude.{IfSome}

-- a file that is made has the next number

next_number : (s : Setup) (i : Ioctl) (f : Flat) (file pages : ℕ) (block : Bool) → Makes s i f (File file pages block) → file ≡ length f.files
next_number s (Create size flags) f file pages block h = h.0
next_number s (Region2 r) f file pages block h = absurd h
next_number s (Attrs address size attributes flags) f file pages block h = absurd h
next_number s (Punch fd offset bytes) f file pages block h = absurd h
next_number s (Allocate fd offset bytes) f file pages block h = absurd h
next_number s (Close fd) f file pages block h = absurd h
next_number s (Populate gpa pages user) f file count block h = absurd h
next_number s (Poke address value) f file pages block h = absurd h
next_number s (Peek address) f file pages block h = absurd h

made_next : (s : Setup) (i : Ioctl) (f : Flat) (p : Plan) (file pages : ℕ) (block : Bool) → Promised s i f p → IsChange false (File file pages block) p → file ≡ length f.files
made_next s i f (Short effect answer) file pages block h c = next_number s i f file pages block (subst (Makes s i f) (sym c) h)
made_next s i f (Bracketed effect spans) file pages block h c = next_number s i f file pages block (subst (Makes s i f) (sym c) h)
made_next s i f (Refused errno) file pages block h c = absurd c
made_next s i f (Same answer) file pages block h c = absurd c
made_next s i f (Reads page word) file pages block h c = absurd c
made_next s i f (Paged pages) file count block h c = absurd c

changes_next : (o : Orders) (d file pages : ℕ) (block : Bool) (past : List Entry) (x : Option Call) → call d past ≡ x → SeesItsRow o.setup past → May o (Change (File file pages block)) (Caller d) past → file ≡ length (flat past).files
changes_next o d file pages block past None e sees m = absurd (subst (λ (y : Option Call). Changes o.setup (File file pages block) y (bracket d past) past) e m.0)
changes_next o d file pages block past (Some x) e sees m =
    let due = subst (λ (y : Option Call). Changes o.setup (File file pages block) y (bracket d past) past) e m.0 in
    let right = subst (λ (y : Option Call). RightChange o.setup (File file pages block) y past) e m.1 in
    made_next o.setup x.ioctl (flat past) (plan o.setup x.ioctl (flat past)) file pages block (promises o.setup x.ioctl (flat past))
    (subst (λ (p : Plan). IsChange false (File file pages block) p) (sym (sees d x e due.0)) right)

-- a file's pages stay

record SamePages (K : ℕ) (old new : List FileState) : Type 0 where
  pub made : was_made K new ≡ true
  pub pages : file_pages K new ≡ file_pages K old

made_shut : (F K : ℕ) (files : List FileState) → was_made F (shut_files K files) ≡ was_made F files
made_shut F K [] = refl
made_shut F K (f ∷ files) = go (eqb f.number K) (made_shut F K files)
  where
    go : (t : Bool) → was_made F (shut_files K files) ≡ was_made F files → was_made F (cond t (record f { used = false } ∷ files) (f ∷ shut_files K files)) ≡ (eqb f.number F || was_made F files)
    go true e = refl
    go false e = ap (λ (b : Bool). eqb f.number F || b) e

same_if : (K : ℕ) (t : Bool) (x y f : Flat) → SamePages K f.files x.files → SamePages K f.files y.files → SamePages K f.files (cond t x y).files
same_if K true x y f a b = a
same_if K false x y f a b = b

same_effect : (e : Effect) (K : ℕ) (f : Flat) → ((file pages : ℕ) (block : Bool) → e ≡ File file pages block → file ≡ length f.files) → K < length f.files → was_made K f.files ≡ true → SamePages K f.files (apply e f).files
same_effect (File file pages block) K f next lt made =
    let o : eqb file K ≡ false = other file K (length f.files) (next file pages block refl) lt in
    record { made = or_right (eqb file K) (was_made K f.files) made; pages = ap (λ (t : Bool). cond t pages (file_pages K f.files)) o }
  where
    other : (file K n : ℕ) → file ≡ n → K < n → eqb file K ≡ false
    other file K n e h = grind (arith, nat_tests)

    or_right : (a b : Bool) → b ≡ true → (a || b) ≡ true
    or_right a b h = grind arith
same_effect (Shut F) K f next lt made =
    same_if K (was_made F f.files) (record f { slots = shut_slots F f.slots; files = shut_files F f.files; cache = without_file F f.cache }) f f
    (record { made = made_shut K F f.files ∙ made; pages = pages_shut K F f.files }) (record { made = made; pages = refl })
same_effect (Slot id base pages user flags file index) K f next lt made =
    let r : SlotView = record { id = id; base = base; pages = pages; user = user; flags = flags; file = file; index = index; invalid = false } in
    same_if K (slot_fits r) (record f { slots = r ∷ f.slots }) f f (record { made = made; pages = refl }) (record { made = made; pages = refl })
same_effect (Cut F lo hi) K f next lt made = record { made = made; pages = refl }
same_effect (Mark id) K f next lt made = record { made = made; pages = refl }
same_effect (NoSlot id) K f next lt made = record { made = made; pages = refl }
same_effect (Move id base) K f next lt made = record { made = made; pages = refl }
same_effect (Attr span kind) K f next lt made = record { made = made; pages = refl }
same_effect (Word page word value) K f next lt made = record { made = made; pages = refl }

same_step : (o : Orders) (t : ℕ) (w : What) (a : Actor) (past : List Entry) (K : ℕ) → May o w a past → SeesItsRow o.setup past → Follows o past → was_made K (flat past).files ≡ true → SamePages K (flat past).files (flat (by t a w ∷ past)).files
same_step o t (Change e) (Caller d) past K m sees r made =
    same_effect e K (flat past) (λ file pages block q. changes_next o d file pages block past (call d past) refl sees (subst (λ (z : Effect). May o (Change z) (Caller d) past) q m)) ((kept o past r).numbered K made) made
same_step o t (Change e) (Vcpu u) past K m sees r made = absurd m
same_step o t w a past K m sees r made = subst (λ (fs : List FileState). SamePages K (flat past).files fs) (sym (same_state t w a past refl).2) (record { made = made; pages = refl })

-- what holds of each front
record Front (o : Orders) (past : List Entry) : Type 0 where
  pub sees : SeesItsRow o.setup past
  pub ranges : BoundRanges (flat past)
  pub slots : SlotsStand (flat past)

abbrev Fronts : Orders → List Entry → Type 0
Fronts o [] = Front o []
Fronts o (e ∷ past) = Front o (e ∷ past) × Fronts o past

fronts_by : (o : Orders) (past : List Entry) → Front o past → ((e : Entry) (before : List Entry) → Stands e before past → Front o before) → Fronts o past
fronts_by o [] now then = now
fronts_by o (e ∷ past) now then = (now, fronts_by o past (then e past (inl (refl, refl))) (λ d before s. then d before (inr s)))

fronts : (o : Orders) (past : List Entry) → Right o past → Fronts o past
fronts o past r = fronts_by o past (record { sees = sees_row-now o past r; ranges = ranges_now o past r; slots = slots_now o past r })
    (λ e before s. record { sees = sees_row-then o e before past r s; ranges = ranges_then o e before past r s; slots = slots_then o e before past r s })

front_now : (o : Orders) (past : List Entry) → Fronts o past → Front o past
front_now o [] f = f
front_now o (e ∷ past) f = f.0

-- at each position: ranges lie inside files, and a file's pages are those of now
record Then (K i : ℕ) (past : List Entry) : Type 0 where
  pub ranges : BoundRanges (flat_at i past)
  pub slots : SlotsStand (flat_at i past)
  pub same : was_made K (flat_at i past).files ≡ true → SamePages K (flat_at i past).files (flat past).files

same_all : (K : ℕ) (a b c : List FileState) → SamePages K a b → SamePages K b c → SamePages K a c
same_all K a b c x y = record { made = y.made; pages = y.pages ∙ x.pages }

then_by : (K i : ℕ) (t : Bool) (old : Flat) (now : Flat) (f : Flat) → f ≡ cond t old now → BoundRanges old × SlotsStand old × (was_made K old.files ≡ true → SamePages K old.files now.files) → BoundRanges now → SlotsStand now → BoundRanges f × SlotsStand f × (was_made K f.files ≡ true → SamePages K f.files now.files)
then_by K i true old now f e a r s = subst (λ (x : Flat). BoundRanges x × SlotsStand x × (was_made K x.files ≡ true → SamePages K x.files now.files)) (sym e) a
then_by K i false old now f e a r s = subst (λ (x : Flat). BoundRanges x × SlotsStand x × (was_made K x.files ≡ true → SamePages K x.files now.files)) (sym e) (r, s, (λ m. record { made = m; pages = refl }))

at_position : (o : Orders) (K i : ℕ) (past : List Entry) → Follows o past → Fronts o past → BoundRanges (flat_at i past) × SlotsStand (flat_at i past) × (was_made K (flat_at i past).files ≡ true → SamePages K (flat_at i past).files (flat past).files)
at_position o K i [] r f = (f.ranges, f.slots, (λ m. record { made = m; pages = refl }))
at_position o K i (e ∷ past) r f =
    let x = at_position o K i past r.1 f.1 in
    then_by K i (leb i (length past)) (flat_at i past) (flat (e ∷ past)) (flat_at i (e ∷ past)) refl
    (x.0, x.1, (λ m. let y = x.2 m in same_all K (flat_at i past).files (flat past).files (flat (e ∷ past)).files y (same_step o e.turn e.what e.actor past K r.0.may (front_now o past f.1).sees r.1 y.made)))
    f.0.ranges f.0.slots

-- a slot that is found by its id
by_id : (P : SlotView → Type 0) (slots : List SlotView) (id : ℕ) (q : SlotView) → slot_by_id slots id ≡ Some q → AllOf P slots → P q
by_id P [] id q e a = absurd (cc)
by_id P (s ∷ slots) id q e a = go (eqb s.id id) e (by_id P slots id q)
  where
    go : (t : Bool) → cond t (Some s) (slot_by_id slots id) ≡ Some q → (slot_by_id slots id ≡ Some q → AllOf P slots → P q) → P q
    go true e ih = let p : s ≡ q = cc in subst P p a.0
    go false e ih = ih e a.1

by_slot : (P : SlotView → Type 0) (slots : List SlotView) (o : Option ℕ) (q : SlotView) → slot_by o slots ≡ Some q → AllOf P slots → P q
by_slot P slots None q e a = absurd (cc)
by_slot P slots (Some id) q e a = by_id P slots id q e a

where_seen : (t : Bool) (x : Option SlotView) (q : SlotView) → cond t x None ≡ Some q → x ≡ Some q
where_seen true x q e = e
where_seen false x q e = absurd (cc)

in_slot : (t : Bool) (n index : ℕ) → cond t (Some n) None ≡ Some index → n ≡ index
in_slot true n index e = cc
in_slot false n index e = absurd (cc)

-- the index lies below the slot's last
below_end : (page index base pages first n : ℕ) → (leb base page && ltb page (base + pages)) ≡ true → (first + page) - base ≡ index → first + pages ≤ n → index < n
below_end page index base pages first n over e le = grind (arith, nat_tests)

file_is_it : (o : Option ℕ) (file : ℕ) → o ≡ Some file → is_file o file ≡ true
file_is_it o file e = subst (λ (x : Option ℕ). is_file x file ≡ true) (sym e) (eq-eqb file file refl)

-- the index of a slot that was looked up
slot_inside : (o : Orders) (past : List Entry) (l : Seen) (y : Option SlotView) (page file index : ℕ) → Follows o past → Fronts o past → looked_slot l past ≡ y → l.file ≡ file_of y → index_in page y ≡ Some index → l.file ≡ Some file → IfSome y (λ s. lies_over s page ≡ true) → index < file_pages file (flat past).files
slot_inside o past l None page file index r f slot file_eq idx named over = absurd (cc)
slot_inside o past l (Some q) page file index r f slot file_eq idx named over =
    let x = at_position o file l.at past r f in
    let found : slot_by l.slot (flat_at l.at past).slots ≡ Some q = where_seen (leb l.at l.place) (slot_by l.slot (flat_at l.at past).slots) q slot in
    let own : is_file q.file file ≡ true = file_is_it q.file file (sym file_eq ∙ named) in
    let used = (by_slot (λ s. (n : ℕ) → is_file s.file n ≡ true → (in_use n (flat_at l.at past).files ≡ true) × (has_memfd s ≡ true)) (flat_at l.at past).slots l.slot q found x.1.files_in_use file own).0 in
    let le = by_slot (IsInsideFile (flat_at l.at past)) (flat_at l.at past).slots l.slot q found x.0.inside file own used in
    let same = x.2 (used_made file (flat_at l.at past).files used) in
    subst (λ (n : ℕ). index < n) (sym same.pages) (below_end page index q.base q.pages q.index (file_pages file (flat_at l.at past).files) over (in_slot (leb q.base (q.index + page)) (index_of q page) index idx) le)

sight_over : (user page : ℕ) (y : Option SlotView) → IfSome y (IsSightOf user page) → IfSome y (λ s. lies_over s page ≡ true)
sight_over user page None h = h
sight_over user page (Some q) h = h.over_page.over

pub index_inside : (o : Orders) (s : Setup) (vs : List VcpuView) (past : List Entry) (v : ℕ) (k : Ticket) (x : Sampled) (y : Looked) (file index : ℕ) → Right o past → AtLook s vs past v k x y → route_of y k.access ≡ ToFile file index → index < file_pages file (flat past).files
index_inside o s vs past v k x y file index r h route =
    let f = flight v k (at.Looked x y) h.stand h.actor h.in_flight h.stage in
    let g = file_right s.user f.sample file index y k.access f.seen past f.look_is route in
    slot_inside o past f.seen y.slot k.access.page file index (ruled o past r).follows (fronts o past r) f.look_is.slot_is f.look_is.file_is
    (ap (index_in k.access.page) (sym f.look_is.slot_is) ∙ g.index_is) g.file_is (sight_over s.user k.access.page y.slot f.look_is.sight)
