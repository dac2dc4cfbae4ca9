-- A fault that gets a new folio.
use Rattle.std.proofs.Common.{◌≡◌, ℕ, ◌+◌, ◌<◌, ◌≤◌, List, [], ◌∷◌, Bool, true, false, length, set, Option, Some, None, arith, refl, ap, cond, eqb, inl, inr, subst, sym, ◌∙◌}
use Rattle.std.proofs.lemmas.Bool.{both_ways}
use Rattle.std.specs.Prelude.{IsSome}
use Rattle.gm_base.specs.declared.numbers.TheConstants.{BLOCK_PAGES, PAGE_LIMIT}
use Rattle.gm_base.specs.declared.values.Actor.TheVariants.{Vcpu as OfVcpu}
use Rattle.gm_callers.proofs.Stays as callers
use Rattle.gm_fault.specs.Routes.{route_of}
use Rattle.gm_fault.specs.declared.routes.Route.{Route}
use Rattle.gm_fault.specs.declared.routes.Route.TheVariants as to
use Rattle.gm_fault.specs.declared.ticket.Ticket.{Ticket}
use Rattle.gm_file.specs.Views.{FileView}
use Rattle.gm_flat.specs.Calls.{file_pages}
use Rattle.gm_flat.specs.Effects.{Addition, add}
use Rattle.gm_flat.specs.FlatState.{Flat, FileState, cached, file_by_number, in_use}
use Rattle.gm_flat.specs.Replay.{added_by, flat}
use Rattle.gm_flat.specs.RightLives.{UsesFirst}
use Rattle.gm_flat.specs.RightLook.{file_of}
use Rattle.gm_flat.specs.Words.{first_word, folio_word, is_new}
use Rattle.gm_flat.specs.declared.effect.Backing.TheVariants.{Folio as InFolio}
use Rattle.gm_flat.specs.declared.entry.Entry.{Entry}
use Rattle.gm_flat.specs.declared.entry.What.TheVariants.{Get}
use Rattle.gm_flat.specs.declared.views.Looked.{Looked}
use Rattle.gm_flat.specs.declared.views.Sampled.{Sampled}
use Rattle.gm_flat.specs.declared.views.SlotView.{SlotView}
use Rattle.gm_laws.proofs.Kit.{by}
use Rattle.gm_laws.proofs.RuledIsRight.{right}
use Rattle.gm_mapping.proofs.Quiet as mapping
use Rattle.gm_state.proofs.Alike.{alike}
use Rattle.gm_state.specs.Holding.{FirstHeld, first_held}
use Rattle.gm_state.specs.Views.{StateView}
use Rattle.gm_store.specs.Added.{addition_of}
use Rattle.gm_store.specs.Stored.{IsState}
use Rattle.gm_store.specs.Views.{cached_in, file_in, first_room, page_room, pages_in}
use Rattle.gm_store.specs.declared.first_use.Used.{Used}
use Rattle.gm_turns.proofs.FaultTurns.{Going, going}
use Rattle.gm_turns.proofs.FileGets.{one_held}
use Rattle.gm_turns.proofs.FilePages.{index_inside}
use Rattle.gm_turns.proofs.Letting.{swapped}
use Rattle.gm_turns.proofs.OneTurn.{one_entry}
use Rattle.gm_turns.specs.Faulting.{HasLooked, HasRoute, IsLooked, IsRoute}
use Rattle.gm_turns.specs.Ready.{IsReady, Turned, noted}
use Rattle.gm_turns.specs.Room.{HasPageRoom, file_of_fault, file_of_look, file_of_slot, orders_of}
use Rattle.gm_turns.specs.Standing.{memory_of}
use Rattle.gm_turns.specs.declared.parts.Core.{Core}
use Rattle.gm_vcpus.proofs.Allowed.{AtLook}
use Rattle.gm_vcpus.proofs.Flights.{flight}
use Rattle.gm_vcpus.proofs.Getting.{get_added, may_get_new}
use Rattle.gm_vcpus.proofs.Holders.{holds_get}
use Rattle.gm_vcpus.proofs.Moves as moves
use Rattle.gm_vcpus.proofs.Routing.{file_right}
use Rattle.gm_vcpus.specs.Adds.{AddsByFault}
use Rattle.gm_vcpus.specs.Holds.{holds_of}
use Rattle.gm_vcpus.specs.Vcpus.{getting, vcpu_at}
use Rattle.gm_vcpus.specs.Stages.{stage_of}
use Rattle.gm_vcpus.specs.declared.stage.Stage.{Stage}
use Rattle.gm_vcpus.specs.declared.stage.Stage.TheVariants as at

-- what a first use asks of the store

file_of_route : (k : Core) (v file index : ℕ) → IsReady k (OfVcpu v) → HasRoute (vcpu_at k.vcpus v).fault (to.File file index) → Going k v (vcpu_at k.vcpus v).fault (to.File file index)
file_of_route k v file index r h = going k v (vcpu_at k.vcpus v).fault (to.File file index) r refl h

seen_pages : (file : ℕ) (x : FileState) (files : List FileState) → file_by_number file files ≡ Some x → file_pages file files ≡ x.pages
seen_pages file x [] e = absurd (cc)
seen_pages file x (y ∷ ys) e = go (eqb y.number file) e (seen_pages file x ys)
  where
    go : (t : Bool) → cond t (Some y) (file_by_number file ys) ≡ Some x → (file_by_number file ys ≡ Some x → file_pages file ys ≡ x.pages) → cond t y.pages (file_pages file ys) ≡ x.pages
    go true e ih = let p : y ≡ x = cc in ap (λ (z : FileState). z.pages) p
    go false e ih = ih e

pub pages_by : (o : Option FileView) (file : ℕ) (f : Flat) → IsState o file f.files → in_use file f.files ≡ true → file_pages file f.files ≡ pages_in o
pages_by None file f s used = absurd (both_ways (in_use file f.files) s used)
pages_by (Some x) file f s used = seen_pages file _ f.files s

pub nothing_cached : (k : Core) (v file index : ℕ) → IsReady k (OfVcpu v) → cached file index (flat k.log.past).cache ≡ None → cached_in index (file_in k.state.store.files file) ≡ None
nothing_cached k v file index r none = (r.settled.stands.state.is.store.files.each file).cached_are index ∙ none

pub is_inside : (k : Core) (v file index : ℕ) → IsReady k (OfVcpu v) → HasRoute (vcpu_at k.vcpus v).fault (to.File file index) → in_use file (flat k.log.past).files ≡ true → index < pages_in (file_in k.state.store.files file)
is_inside k v file index r h used =
    let f = file_of_route k v file index r h in
    subst (λ (n : ℕ). index < n) (pages_by (file_in k.state.store.files file) file (flat k.log.past) (r.settled.stands.state.is.store.files.each file).state used)
    (index_inside (orders_of k) k.setup k.vcpus k.log.past v f.ticket f.sampled f.looked file index (right (orders_of k) k.log.past r.settled.ruled) f.here f.route_is)

pub is_small : (k : Core) (v file : ℕ) → IsReady k (OfVcpu v) → pages_in (file_in k.state.store.files file) ≤ PAGE_LIMIT
is_small k v file r = (r.settled.stands.state.is.store.files.each file).small

-- its room is the room of the fault's file
slot_file : (o : Option SlotView) → file_of_slot o ≡ file_of o
slot_file None = refl
slot_file (Some s) = refl

looked_file : (k : Core) (v file index : ℕ) (t : Ticket) (x : Sampled) (y : Looked) → AtLook k.setup k.vcpus k.log.past v t x y → route_of y t.access ≡ to.File file index → file_of_fault (vcpu_at k.vcpus v).fault ≡ Some file
looked_file k v file index t x y h route =
    let f = flight v t (at.Looked x y) h.stand h.actor h.in_flight h.stage in
    let g = file_right k.setup.user f.sample file index y t.access f.seen k.log.past f.look_is route in
    ap file_of_fault h.in_flight ∙ (ap file_of_look f.looked ∙ (slot_file y.slot ∙ (sym f.look_is.file_is ∙ g.file_is)))

pub room_by : (o : Option FileView) → BLOCK_PAGES ≤ page_room o → first_room o ≤ page_room o
room_by None h = absurd (omega arith)
room_by (Some x) h = by_block x.block x.page_spare h
  where
    by_block : (t : Bool) (n : ℕ) → 512 ≤ n → cond t 512 1 ≤ n
    by_block true n h = h
    by_block false n h = omega arith

pub is_there : (o : Option FileView) (file : ℕ) (f : Flat) → IsState o file f.files → in_use file f.files ≡ true → IsSome o
is_there None file f s used = absurd (both_ways (in_use file f.files) s used)
is_there (Some x) file f s used = refl

pub has_room : (k : Core) (v file index : ℕ) → IsReady k (OfVcpu v) → HasRoute (vcpu_at k.vcpus v).fault (to.File file index) → in_use file (flat k.log.past).files ≡ true → first_room (file_in k.state.store.files file) ≤ page_room (file_in k.state.store.files file)
has_room k v file index r h used =
    let f = file_of_route k v file index r h in
    let there = is_there (file_in k.state.store.files file) file (flat k.log.past) (r.settled.stands.state.is.store.files.each file).state used in
    room_by (file_in k.state.store.files file) (subst (HasPageRoom k.state) (looked_file k v file index f.ticket f.sampled f.looked f.here f.route_is) r.room.own there)

-- what it adds
pub uses_few : (frames index : ℕ) (d : Addition) (f : Flat) → UsesFirst frames index d f → d.pages ≤ 512
uses_few frames index d f (inl b) = let p = b.pages in omega arith
uses_few frames index d f (inr o) = let p = o.0.pages in omega arith

adds_by : (k : Core) (v file index : ℕ) (u : Used) (st : StateView) → IsReady k (OfVcpu v) → in_use file (flat k.log.past).files ≡ true → cached file index (flat k.log.past).cache ≡ None → FirstHeld k.setup file index u st (memory_of k.setup k.log.past) → AddsByFault k.setup.frames file index u.own (addition_of file u) (flat k.log.past)
adds_by k v file index u st r used none f =
    let next = r.settled.stands.state.is.store.pool.next_is in
    let serials = r.room.serials in
    let frames = r.settled.limits.frames in
    let few = uses_few k.setup.frames index (addition_of file u) (flat k.log.past) f.adds in
    record {
      used = used;
      not_cached = none;
      file_is = refl;
      copy_is = refl;
      serial_is = f.own_serial;
      frame_is = f.own_frame;
      next = f.serial_is;
      uses = f.adds;
      serials_fit = fits u.first.serial (length (flat k.log.past).folios) k.state.store.pool.next u.pages f.serial_is next serials few;
      frames_fit = omega arith;
    }
  where
    fits : (a n p q : ℕ) → a ≡ n → p ≡ n → p < 4611686018427387904 → q ≤ 512 → a + q ≤ 18446744073709551616
    fits a n p q e g h l = omega arith

abbrev new_core : Core → ℕ → Used → StateView → Core
new_core k v u st = record k { state = st; vcpus = set k.vcpus v (getting (vcpu_at k.vcpus v) (InFolio u.own)) }

pub new_turn : (k : Core) (v file index : ℕ) (u : Used) (st : StateView) → IsReady k (OfVcpu v) → HasRoute (vcpu_at k.vcpus v).fault (to.File file index) → in_use file (flat k.log.past).files ≡ true → cached file index (flat k.log.past).cache ≡ None → st.slots ≡ k.state.slots → FirstHeld k.setup file index u st (memory_of k.setup k.log.past) → Turned k (noted (new_core k v u st) (OfVcpu v) (Get (InFolio u.own) u.pages)) (OfVcpu v) false
new_turn k v file index u st r h used none same held =
    let stands = r.settled.stands in
    let past : List Entry = k.log.past in
    let f = file_of_route k v file index r h in
    let d : Addition = addition_of file u in
    let e : Entry = by (k.turns + 1) (OfVcpu v) (Get (InFolio u.own) u.pages) in
    let adds = adds_by k v file index u st r used none held in
    let added : added_by (Get (InFolio u.own) u.pages) (OfVcpu v) past ≡ Some d = get_added k.setup k.vcpus past v f.ticket f.sampled f.looked k.setup.frames file index u.own d f.here f.route_is adds in
    one_entry k (noted (new_core k v u st) (OfVcpu v) (Get (InFolio u.own) u.pages)) (OfVcpu v) (Get (InFolio u.own) u.pages) false r
    (record {
      stands = record {
        vcpus = moves.gets (k.turns + 1) v f.ticket f.sampled f.looked (InFolio u.own) u.pages stands.vcpus r.actor_is f.here.in_flight f.here.stage;
        callers = callers.quiet e past refl stands.callers;
        mapping = mapping.quiet e past refl stands.mapping;
        state = record {
          is = alike k.setup st (first_held file u (memory_of k.setup past)) (memory_of k.setup (e ∷ past)) (record {
            flat = ap (λ (o : Option Addition). add o (flat past)) added;
            holds = λ serial. holds_get k.setup k.vcpus past serial (k.turns + 1) v f.ticket f.sampled f.looked (InFolio u.own) u.pages f.here ∙ one_held (eqb u.own.serial serial) (eqb serial u.own.serial) (holds_of k.setup.vcpus serial past) (swapped u.own.serial serial);
            words = λ serial word. ap (λ (o : Option Addition). cond (is_new serial o) (first_word serial word o past) (folio_word serial word past)) added;
            user_words = λ page word. refl;
          }) held.is;
          generation = let g = stands.state.generation in let q = ap (λ x. x.generation) same in omega arith;
        };
      };
      past_is = refl;
      orders = refl;
      turns = refl;
    })
    (may_get_new (orders_of k) k.setup k.vcpus past v f.ticket f.sampled f.looked file index u.own d f.here f.route_is adds) refl refl refl tt

-- a fault with a route has looked
looked_at : (o : Option Ticket) (stage : Stage) (t : Ticket) (to : Route) → IsRoute stage t.access to → IsLooked stage
looked_at o at.Missed t to h = h
looked_at o (at.Sampled x) t to h = h
looked_at o (at.Looked x y) t to h = tt
looked_at o (at.Got x y b) t to h = h

pub route_looked : (o : Option Ticket) (to : Route) → HasRoute o to → HasLooked o
route_looked None to h = h
route_looked (Some t) to h = looked_at (Some t) (stage_of t) t to h
