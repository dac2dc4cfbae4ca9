-- The turns of a fault until it has got its backing.
use Rattle.std.proofs.Common.{◌≡◌, ℕ, ◌+◌, ◌<◌, ◌≤◌, List, ◌∷◌, false, length, set, Option, Some, None, arith, subst, sym, ◌∙◌, ap, refl, inl}
use Rattle.std.specs.Prelude.{IfSome, IsSome}
use Rattle.gm_base.specs.declared.values.Actor.TheVariants.{Vcpu as OfVcpu}
use Rattle.gm_base.specs.declared.values.Kind.{Kind}
use Rattle.gm_callers.proofs.Stays as callers
use Rattle.gm_fault.specs.Routes.{IsSlotOver, route_of}
use Rattle.gm_fault.specs.declared.routes.Route.{Route}
use Rattle.gm_fault.specs.declared.routes.Route.TheVariants as to
use Rattle.gm_fault.specs.declared.ticket.Ticket.{Ticket}
use Rattle.gm_flat.specs.Attribute.{attr_of}
use Rattle.gm_flat.specs.FlatState.{Flat}
use Rattle.gm_flat.specs.Histories.{done}
use Rattle.gm_flat.specs.Replay.{flat}
use Rattle.gm_flat.specs.Slots.{slot_over}
use Rattle.gm_flat.specs.declared.effect.Backing.TheVariants.{User as InUser}
use Rattle.gm_flat.specs.declared.effect.Exit.{Exit}
use Rattle.gm_flat.specs.declared.entry.Entry.{Entry}
use Rattle.gm_flat.specs.declared.entry.What.TheVariants.{Get, Left, Retry, Sample}
use Rattle.gm_flat.specs.declared.views.Looked.{Looked}
use Rattle.gm_flat.specs.declared.views.Sampled.{Sampled}
use Rattle.gm_flat.specs.declared.views.SlotView.{SlotView}
use Rattle.gm_laws.proofs.Counted.{done_le}
use Rattle.gm_laws.proofs.Kit.{by}
use Rattle.gm_laws.proofs.RuledIsRight.{right}
use Rattle.gm_laws.proofs.SlotsKeep.{all_map, slots_now}
use Rattle.gm_laws.specs.May.{May}
use Rattle.gm_laws.specs.SmallSlots.{IsSmall}
use Rattle.gm_mapping.proofs.Quiet as mapping
use Rattle.gm_state.specs.Stand.{IsBounded}
use Rattle.gm_turns.proofs.Freed.{freeing_entry, still_used}
use Rattle.gm_turns.proofs.Gets.{got_user}
use Rattle.gm_turns.proofs.OneTurn.{one_entry}
use Rattle.gm_turns.proofs.StateQuiet as state
use Rattle.gm_turns.specs.Faulting.{HasLooked, HasRoute, IsAtStage, IsLooked, IsRoute, IsSampled}
use Rattle.gm_turns.specs.Ready.{IsReady, Turned, noted}
use Rattle.gm_turns.specs.Room.{orders_of}
use Rattle.gm_turns.specs.declared.parts.Core.{Core}
use Rattle.gm_vcpus.proofs.Allowed.{AtLook, may_decide, may_exit, may_get_user, may_retry_marked}
use Rattle.gm_vcpus.proofs.Holders.{holds_exit, holds_look, holds_retry_looked, holds_sample}
use Rattle.gm_vcpus.proofs.Moves as moves
use Rattle.gm_vcpus.proofs.Sighting.{looks_here, may_look, may_sample}
use Rattle.gm_vcpus.specs.Holds.{holds_of}
use Rattle.gm_vcpus.specs.Sights.{CanBeSeen, look_at, look_entry}
use Rattle.gm_vcpus.specs.Stages.{stage_of}
use Rattle.gm_vcpus.specs.Vcpus.{exited, getting, looking, no_vcpu, sampling, settled, vcpu_at}
use Rattle.gm_vcpus.specs.declared.stage.Stage.{Stage}
use Rattle.gm_vcpus.specs.declared.stage.Stage.TheVariants as at

-- a fault that is at a stage
record AtStage (o : Option Ticket) (stage : Stage) : Type 0 where
  pub ticket : Ticket
  pub held : o ≡ Some ticket
  pub stage_is : stage_of ticket ≡ stage

at_stage : (o : Option Ticket) (stage : Stage) → IsAtStage o stage → AtStage o stage
at_stage None stage h = absurd h
at_stage (Some k) stage h = record { ticket = k; held = refl; stage_is = h }

-- a sample
abbrev sampled_core : Core → ℕ → Sampled → Core
sampled_core k v z = record k { vcpus = set k.vcpus v (sampling (vcpu_at k.vcpus v) z) }

pub sample_turn : (k : Core) (v n q : ℕ) → IsReady k (OfVcpu v) → IsAtStage (vcpu_at k.vcpus v).fault at.Missed → n ≡ length k.log.past → q ≡ k.mmu.progress.seq → Turned k (noted (sampled_core k v (record { at = n; seq = q })) (OfVcpu v) (Sample n)) (OfVcpu v) false
sample_turn k v n q r h here seq =
    subst (λ (m : ℕ). Turned k (noted (sampled_core k v (record { at = m; seq = q })) (OfVcpu v) (Sample m)) (OfVcpu v) false) (sym here)
    (let st = r.settled.stands in
    let past : List Entry = k.log.past in
    let e : Entry = by (k.turns + 1) (OfVcpu v) (Sample (length past)) in
    let z : Sampled = record { at = length past; seq = q } in
    let f = at_stage (vcpu_at k.vcpus v).fault at.Missed h in
    one_entry k (noted (sampled_core k v z) (OfVcpu v) (Sample (length past))) (OfVcpu v) (Sample (length past)) false r
    (record {
      stands = record {
        vcpus = moves.samples (k.turns + 1) v f.ticket z st.vcpus r.actor_is f.held f.stage_is refl (seq ∙ st.mapping.seq_is);
        callers = callers.quiet e past refl st.callers;
        mapping = mapping.quiet e past refl st.mapping;
        state = state.state_same e past refl (λ serial. holds_sample k.setup.vcpus serial (k.turns + 1) v (length past) past r.actor_is) st.state;
      };
      past_is = refl;
      orders = refl;
      turns = refl;
    })
    (may_sample (orders_of k) v f.ticket st.vcpus r.actor_is f.held f.stage_is) refl refl refl (refl, refl))

-- a look

small_slot : (user : ℕ) (s : SlotView) → IsBounded user s → IsSmall user s
small_slot user s b = record { pages = b.pages; users = b.users; indexes = b.indexes }

pub can_be_seen : (k : Core) (v : ℕ) → IsReady k (OfVcpu v) → CanBeSeen k.setup.user (flat k.log.past)
can_be_seen k v r = record {
  user_small = let u = r.settled.limits.user in omega arith;
  stand = slots_now (orders_of k) k.log.past (right (orders_of k) k.log.past r.settled.ruled);
  small = all_map (IsBounded k.setup.user) (IsSmall k.setup.user) (flat k.log.past).slots (small_slot k.setup.user) r.settled.stands.state.is.bounded;
}

pub look_is : (f : Flat) (page here a : ℕ) (o : Option SlotView) (kind : Kind) → a ≡ here → o ≡ slot_over f.slots page → kind ≡ attr_of page f.attrs → record { at = a; slot = o; attr = kind } ≡ look_at f page here
look_is f page here a o kind e g h = rw (e, g, h) refl

-- a fault that has sampled
record HasSampled (o : Option Ticket) (page : ℕ) (x : Sampled) : Type 0 where
  pub ticket : Ticket
  pub held : o ≡ Some ticket
  pub stage_is : stage_of ticket ≡ at.Sampled x
  pub page_is : ticket.access.page ≡ page

has_sampled : (o : Option Ticket) (page : ℕ) (x : Sampled) → IsSampled o page x → HasSampled o page x
has_sampled None page x h = absurd h
has_sampled (Some k) page x h = record { ticket = k; held = refl; stage_is = h.0; page_is = h.1 }

abbrev looked_core : Core → ℕ → Looked → Core
looked_core k v z = record k { vcpus = set k.vcpus v (looking (vcpu_at k.vcpus v) z) }

pub look_turn : (k : Core) (v page : ℕ) (x : Sampled) (z : Looked) → IsReady k (OfVcpu v) → IsSampled (vcpu_at k.vcpus v).fault page x → z ≡ look_at (flat k.log.past) page (length k.log.past) → Turned k (noted (looked_core k v z) (OfVcpu v) (look_entry z)) (OfVcpu v) false
look_turn k v page x z r h here =
    let st = r.settled.stands in
    let past : List Entry = k.log.past in
    let f = has_sampled (vcpu_at k.vcpus v).fault page x h in
    let is : z ≡ look_at (flat past) f.ticket.access.page (length past) = here ∙ ap (λ (p : ℕ). look_at (flat past) p (length past)) (sym f.page_is) in
    let e : Entry = by (k.turns + 1) (OfVcpu v) (look_entry z) in
    one_entry k (noted (looked_core k v z) (OfVcpu v) (look_entry z)) (OfVcpu v) (look_entry z) false r
    (record {
      stands = record {
        vcpus = looks_here (k.turns + 1) v f.ticket x z st.vcpus r.actor_is f.held f.stage_is is (can_be_seen k v r);
        callers = callers.quiet e past refl st.callers;
        mapping = mapping.quiet e past refl st.mapping;
        state = state.state_same e past refl (λ serial. holds_look k.setup.vcpus serial (k.turns + 1) v z.at _ z.attr _ past r.actor_is) st.state;
      };
      past_is = refl;
      orders = refl;
      turns = refl;
    })
    (may_look (orders_of k) v f.ticket x z st.vcpus r.actor_is f.held f.stage_is is) refl refl refl (ap (λ (y : Looked). y.at) here, refl)

-- a fault that has looked
pub record Looking (k : Core) (v : ℕ) (o : Option Ticket) : Type 0 where
  pub ticket : Ticket
  pub sampled : Sampled
  pub looked : Looked
  pub here : AtLook k.setup k.vcpus k.log.past v ticket sampled looked

looked_stage : (k : Core) (v : ℕ) (t : Ticket) (stage : Stage) → IsReady k (OfVcpu v) → (vcpu_at k.vcpus v).fault ≡ Some t → stage_of t ≡ stage → IsLooked stage → Looking k v (Some t)
looked_stage k v t at.Missed r held is h = absurd h
looked_stage k v t (at.Sampled x) r held is h = absurd h
looked_stage k v t (at.Looked x y) r held is h = record { ticket = t; sampled = x; looked = y; here = record { stand = r.settled.stands.vcpus; actor = r.actor_is; in_flight = held; stage = is } }
looked_stage k v t (at.Got x y b) r held is h = absurd h

pub looking_at : (k : Core) (v : ℕ) (o : Option Ticket) → IsReady k (OfVcpu v) → (vcpu_at k.vcpus v).fault ≡ o → HasLooked o → Looking k v o
looking_at k v None r held h = absurd h
looking_at k v (Some t) r held h = looked_stage k v t (stage_of t) r held refl h

-- an exit
abbrev exited_core : Core → ℕ → Core
exited_core k v = record k { vcpus = set k.vcpus v (exited (vcpu_at k.vcpus v)) }

pub exit_turn : (k : Core) (v : ℕ) (why : Exit) → IsReady k (OfVcpu v) → HasLooked (vcpu_at k.vcpus v).fault → May (orders_of k) (Left why) (OfVcpu v) k.log.past → Turned k (noted (exited_core k v) (OfVcpu v) (Left why)) (OfVcpu v) false
exit_turn k v why r h may =
    let st = r.settled.stands in
    let past : List Entry = k.log.past in
    let f = looking_at k v (vcpu_at k.vcpus v).fault r refl h in
    let e : Entry = by (k.turns + 1) (OfVcpu v) (Left why) in
    one_entry k (noted (exited_core k v) (OfVcpu v) (Left why)) (OfVcpu v) (Left why) false r
    (record {
      stands = record {
        vcpus = moves.exits (k.turns + 1) v why st.vcpus r.actor_is;
        callers = callers.quiet e past refl st.callers;
        mapping = mapping.quiet e past refl st.mapping;
        state = state.state_same e past refl (λ serial. holds_exit k.setup k.vcpus past serial (k.turns + 1) v f.ticket f.sampled f.looked why f.here) st.state;
      };
      past_is = refl;
      orders = refl;
      turns = refl;
    })
    may refl refl refl tt

-- a fault that has got nothing is tried again
abbrev settled_core : Core → ℕ → Core
settled_core k v = record k { vcpus = set k.vcpus v (settled (vcpu_at k.vcpus v)) }

pub again_turn : (k : Core) (v : ℕ) → IsReady k (OfVcpu v) → HasLooked (vcpu_at k.vcpus v).fault → May (orders_of k) Retry (OfVcpu v) k.log.past → Turned k (noted (settled_core k v) (OfVcpu v) Retry) (OfVcpu v) false
again_turn k v r h may =
    let st = r.settled.stands in
    let past : List Entry = k.log.past in
    let f = looking_at k v (vcpu_at k.vcpus v).fault r refl h in
    let e : Entry = by (k.turns + 1) (OfVcpu v) Retry in
    let holds : (serial : ℕ) → holds_of k.setup.vcpus serial (e ∷ past) ≡ holds_of k.setup.vcpus serial past = λ serial. holds_retry_looked k.setup k.vcpus past serial (k.turns + 1) v f.ticket f.sampled f.looked f.here in
    freeing_entry k (noted (settled_core k v) (OfVcpu v) Retry) (OfVcpu v) Retry r
    (record {
      stands = record {
        vcpus = moves.retries (k.turns + 1) v st.vcpus r.actor_is;
        callers = callers.quiet e past refl st.callers;
        mapping = mapping.quiet e past refl st.mapping;
        state = state.state_same e past refl holds st.state;
      };
      past_is = refl;
      orders = refl;
      turns = refl;
    })
    may refl refl (λ serial used. inl (still_used e past st.vcpus refl holds serial used)) tt

-- a fault that goes on by a route
pub record Going (k : Core) (v : ℕ) (o : Option Ticket) (route : Route) : Type 0 where
  pub ticket : Ticket
  pub sampled : Sampled
  pub looked : Looked
  pub here : AtLook k.setup k.vcpus k.log.past v ticket sampled looked
  pub route_is : route_of looked ticket.access ≡ route

going_stage : (k : Core) (v : ℕ) (t : Ticket) (stage : Stage) (route : Route) → IsReady k (OfVcpu v) → (vcpu_at k.vcpus v).fault ≡ Some t → stage_of t ≡ stage → IsRoute stage t.access route → Going k v (Some t) route
going_stage k v t at.Missed route r held is h = absurd h
going_stage k v t (at.Sampled x) route r held is h = absurd h
going_stage k v t (at.Looked x y) route r held is h = record { ticket = t; sampled = x; looked = y; here = record { stand = r.settled.stands.vcpus; actor = r.actor_is; in_flight = held; stage = is }; route_is = h }
going_stage k v t (at.Got x y b) route r held is h = absurd h

pub going : (k : Core) (v : ℕ) (o : Option Ticket) (route : Route) → IsReady k (OfVcpu v) → (vcpu_at k.vcpus v).fault ≡ o → HasRoute o route → Going k v o route
going k v None route r held h = absurd h
going k v (Some t) route r held h = going_stage k v t (stage_of t) route r held refl h

-- a user page
abbrev with_user : Core → ℕ → ℕ → Core
with_user k v page = record k { vcpus = set k.vcpus v (getting (vcpu_at k.vcpus v) (InUser page)) }

pub user_turn : (k : Core) (v page : ℕ) → IsReady k (OfVcpu v) → HasRoute (vcpu_at k.vcpus v).fault (to.User page) → Turned k (noted (with_user k v page) (OfVcpu v) (Get (InUser page) 0)) (OfVcpu v) false
user_turn k v page r h =
    let st = r.settled.stands in
    let past : List Entry = k.log.past in
    let f = going k v (vcpu_at k.vcpus v).fault (to.User page) r refl h in
    let e : Entry = by (k.turns + 1) (OfVcpu v) (Get (InUser page) 0) in
    one_entry k (noted (with_user k v page) (OfVcpu v) (Get (InUser page) 0)) (OfVcpu v) (Get (InUser page) 0) false r
    (record {
      stands = record {
        vcpus = moves.gets (k.turns + 1) v f.ticket f.sampled f.looked (InUser page) 0 st.vcpus r.actor_is f.here.in_flight f.here.stage;
        callers = callers.quiet e past refl st.callers;
        mapping = mapping.quiet e past refl st.mapping;
        state = got_user k.setup k.state k.vcpus past (k.turns + 1) v f.ticket f.sampled f.looked page f.here st.state;
      };
      past_is = refl;
      orders = refl;
      turns = refl;
    })
    (may_get_user (orders_of k) k.setup k.vcpus past v f.ticket f.sampled f.looked page f.here f.route_is) refl refl refl tt

-- counts
pub few_ended : (k : Core) (v : ℕ) → IsReady k (OfVcpu v) → (vcpu_at k.vcpus v).ended + 1 < 18446744073709551616
few_ended k v r =
    let e = (r.settled.stands.vcpus.each v no_vcpu r.actor_is).ended_is in
    let d = done_le (OfVcpu v) k.log.past in
    let s = r.room.short in
    below (vcpu_at k.vcpus v).ended (done (OfVcpu v) k.log.past) (length k.log.past) e d s
  where
    below : (a b n : ℕ) → a ≡ b → b ≤ n → n < 2305843009213693952 → a + 1 < 18446744073709551616
    below a b n e d s = omega arith

-- one that has looked is in flight
pub in_flight : (o : Option Ticket) → HasLooked o → IsSome o
in_flight None h = absurd h
in_flight (Some k) h = refl

-- what the route of a fault that has looked allows

abbrev look_premises : (k : Core) (v : ℕ) (t : Ticket) (x : Sampled) (y : Looked) → IsReady k (OfVcpu v) → (vcpu_at k.vcpus v).fault ≡ Some t → stage_of t ≡ at.Looked x y → AtLook k.setup k.vcpus k.log.past v t x y
look_premises k v t x y r held is = record { stand = r.settled.stands.vcpus; actor = r.actor_is; in_flight = held; stage = is }

pub is_over : (k : Core) (v : ℕ) (t : Ticket) (x : Sampled) (y : Looked) → IsReady k (OfVcpu v) → (vcpu_at k.vcpus v).fault ≡ Some t → stage_of t ≡ at.Looked x y → IfSome y.slot (IsSlotOver t.access.page)
is_over k v t x y r held is = may_decide k.setup k.vcpus k.log.past v t x y (look_premises k v t x y r held is)

pub may_exit_by : (k : Core) (v : ℕ) (t : Ticket) (x : Sampled) (y : Looked) (why : Exit) → IsReady k (OfVcpu v) → (vcpu_at k.vcpus v).fault ≡ Some t → stage_of t ≡ at.Looked x y → route_of y t.access ≡ to.Exit why → May (orders_of k) (Left why) (OfVcpu v) k.log.past
may_exit_by k v t x y why r held is route = may_exit (orders_of k) k.setup k.vcpus k.log.past v t x y why (look_premises k v t x y r held is) route

pub may_again_by : (k : Core) (v : ℕ) (t : Ticket) (x : Sampled) (y : Looked) → IsReady k (OfVcpu v) → (vcpu_at k.vcpus v).fault ≡ Some t → stage_of t ≡ at.Looked x y → route_of y t.access ≡ to.Again → May (orders_of k) Retry (OfVcpu v) k.log.past
may_again_by k v t x y r held is route = may_retry_marked (orders_of k) k.setup k.vcpus k.log.past v t x y (look_premises k v t x y r held is) route
