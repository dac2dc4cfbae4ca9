-- The turn of a fault that takes a sighting.
use Rattle.std.proofs.Common.{◌≡◌, ℕ, ◌+◌, ◌<◌, ◌≤◌, List, ◌∷◌, length, set, suc, Option, Some, None, arith, subst, sym, ◌∙◌, ap, refl}
use Rattle.std.proofs.lemmas.List.{get_or-set_same}
use Rattle.std.specs.Prelude.{IsSome}
use Rattle.gm_base.specs.Aim.{Aim}
use Rattle.gm_base.specs.declared.values.Actor.TheVariants.{Vcpu as OfVcpu}
use Rattle.gm_callers.proofs.Stays as callers
use Rattle.gm_fault.specs.declared.ticket.Ticket.{Ticket}
use Rattle.gm_flat.specs.Attribute.{attr_of}
use Rattle.gm_flat.specs.FlatState.{Flat}
use Rattle.gm_flat.specs.Histories.{Fault, Faulting, NoFault, fault}
use Rattle.gm_flat.specs.Replay.{flat_at}
use Rattle.gm_flat.specs.Slots.{slot_over}
use Rattle.gm_flat.specs.declared.entry.Entry.{Entry}
use Rattle.gm_flat.specs.declared.entry.What.TheVariants.{Sample}
use Rattle.gm_flat.specs.declared.views.Looked.{Looked}
use Rattle.gm_flat.specs.declared.views.Sampled.{Sampled}
use Rattle.gm_flat.specs.declared.views.Sighting.{Sighting}
use Rattle.gm_laws.proofs.Kit.{by, flat_at_keep}
use Rattle.gm_laws.proofs.RuledIsRight.{right}
use Rattle.gm_laws.proofs.SmallSlots.{slots_at, small_at}
use Rattle.gm_laws.proofs.TurnsKeep.{new_turn, quiet_freed, turn_ruled}
use Rattle.gm_laws.specs.May.{May}
use Rattle.gm_laws.specs.Turns.{IsTurn}
use Rattle.gm_mapping.proofs.Lists.{self as same_number}
use Rattle.gm_mapping.proofs.Quiet as mapping
use Rattle.gm_turns.proofs.FaultTurns.{look_is}
use Rattle.gm_turns.proofs.StateQuiet as state
use Rattle.gm_turns.specs.Depositing.{Deposited, IsTrueBy, IsTrueOf, IsTrueSight, sighting_entries}
use Rattle.gm_turns.specs.Ready.{CoreStands, IsReady, noted}
use Rattle.gm_turns.specs.Room.{orders_of}
use Rattle.gm_turns.specs.declared.parts.Core.{Core}
use Rattle.gm_vcpus.proofs.Flights.{flight, only_missed}
use Rattle.gm_vcpus.proofs.Holders.{holds_look, holds_sample}
use Rattle.gm_vcpus.proofs.Moves as moves
use Rattle.gm_vcpus.proofs.Sighting.{looks_then, may_look_at, may_sample_at}
use Rattle.gm_vcpus.specs.Sights.{CanBeSeen, look_at, look_entry}
use Rattle.gm_vcpus.specs.Stages.{stage_by, stage_of}
use Rattle.gm_vcpus.specs.Vcpus.{looking, no_vcpu, sampling, vcpu_at, with_sampled}
use Rattle.gm_vcpus.specs.declared.stage.Stage.TheVariants as at
use Rattle.gm_vcpus.specs.declared.vcpu.Vcpu.{Vcpu}

-- what a look may find at any position
pub can_be_seen_at : (k : Core) (v position : ℕ) → IsReady k (OfVcpu v) → CanBeSeen k.setup.user (flat_at position k.log.past)
can_be_seen_at k v position r = record {
  user_small = let u = r.settled.limits.user in omega arith;
  stand = slots_at (orders_of k) position k.log.past (right (orders_of k) k.log.past r.settled.ruled);
  small = small_at (orders_of k) position k.log.past r.settled.ruled.follows;
}

-- the fault that a sighting is true of
record TrueOfFault (x : Fault) (s : Sighting) (past : List Entry) : Type 0 where
  pub access : Aim
  pub missed : ℕ
  pub fault_is : x ≡ Faulting access missed None None None
  pub is : IsTrueOf s access missed past

true_of : (x : Fault) (s : Sighting) (past : List Entry) → IsTrueBy s x past → TrueOfFault x s past
true_of NoFault s past h = absurd h
true_of (Faulting a missed None None None) s past h = record { access = a; missed = missed; fault_is = refl; is = h }
true_of (Faulting a missed (Some x) y z) s past h = absurd h
true_of (Faulting a missed None (Some y) z) s past h = absurd h
true_of (Faulting a missed None None (Some z)) s past h = absurd h

-- a vCPU in flight with a ticket that has only missed, of which a sighting is true
record Sighted (k : Core) (v : ℕ) (s : Sighting) : Type 0 where
  pub ticket : Ticket
  pub held : (vcpu_at k.vcpus v).fault ≡ Some ticket
  pub stage_is : stage_of ticket ≡ at.Missed
  pub missed : ℕ
  pub fault_is : fault v k.log.past ≡ Faulting ticket.access missed None None None
  pub is : IsTrueOf s ticket.access missed k.log.past

sighted : (k : Core) (v : ℕ) (s : Sighting) → IsReady k (OfVcpu v) → IsTrueSight v s k.log.past → Sighted k v s
sighted k v s r h =
    let x = true_of (fault v k.log.past) s k.log.past h in
    let f = only_missed v x.access x.missed r.settled.stands.vcpus r.actor_is x.fault_is in
    record {
      ticket = f.ticket;
      held = f.held;
      stage_is = f.stage_is;
      missed = x.missed;
      fault_is = x.fault_is ∙ ap (λ (a : Aim). Faulting a x.missed None None None) (sym f.access_is);
      is = subst (λ (a : Aim). IsTrueOf s a x.missed k.log.past) (sym f.access_is) x.is;
    }

-- it is in flight, and stays so after its sample
some_held : (o : Option Ticket) (t : Ticket) → o ≡ Some t → IsSome o
some_held o t e = subst IsSome (sym e) refl

pub flies : (k : Core) (v : ℕ) (s : Sighting) → IsReady k (OfVcpu v) → IsTrueSight v s k.log.past → IsSome (vcpu_at k.vcpus v).fault
flies k v s r h = let f = sighted k v s r h in some_held (vcpu_at k.vcpus v).fault f.ticket f.held

abbrev pub with_sample : Core → ℕ → Sampled → List Vcpu
with_sample k v z = set k.vcpus v (sampling (vcpu_at k.vcpus v) z)

sampled_at : (k : Core) (v : ℕ) (z : Sampled) → IsReady k (OfVcpu v) → (vcpu_at (with_sample k v z) v).fault ≡ with_sampled z (vcpu_at k.vcpus v).fault
sampled_at k v z r =
    let c = r.settled.stands.vcpus.count_is in
    let lt : v < length k.vcpus = subst (λ (n : ℕ). v < n) (sym c) r.actor_is in
    ap (λ (x : Vcpu). x.fault) (get_or-set_same k.vcpus v (sampling (vcpu_at k.vcpus v) z) no_vcpu lt)

pub still_flies : (k : Core) (v : ℕ) (s : Sighting) → IsReady k (OfVcpu v) → IsTrueSight v s k.log.past → IsSome (vcpu_at (with_sample k v s.sampled) v).fault
still_flies k v s r h =
    let f = sighted k v s r h in
    some_held (vcpu_at (with_sample k v s.sampled) v).fault (record f.ticket { sampled = Some s.sampled }) (sampled_at k v s.sampled r ∙ ap (with_sampled s.sampled) f.held)

-- the miss of a fault is one
same_miss : (a : Aim) (m n : ℕ) (x : Fault) → x ≡ Faulting a m None None None → x ≡ Faulting a n None None None → m ≡ n
same_miss a m n x e f = in_fault (sym e ∙ f)
  where
    in_fault : Faulting a m None None None ≡ Faulting a n None None None → m ≡ n
    in_fault e = cc

up_to : (a b c : ℕ) → a ≤ b → b ≤ c → a ≤ c
up_to a b c h k = omega arith

one_more : (a b : ℕ) → a ≤ b → a ≤ suc b
one_more a b h = omega arith

next_new : (n : ℕ) → n + 1 < n + 2
next_new n = omega arith

-- what it looked up is what was there
there_then : (z : Looked) (f : Flat) (page : ℕ) → z.slot ≡ slot_over f.slots page → z.attr ≡ attr_of page f.attrs → z ≡ look_at f page z.at
there_then z f page e g = look_is f page z.at z.at z.slot z.attr refl e g

-- after the sample
record Between (k : Core) (v : ℕ) (s : Sighting) (t : Ticket) : Type 0 where
  pub stands : CoreStands (noted (record k { vcpus = with_sample k v s.sampled }) (OfVcpu v) (Sample s.sampled.at))
  pub may : May (orders_of k) (Sample s.sampled.at) (OfVcpu v) k.log.past
  pub held : (vcpu_at (with_sample k v s.sampled) v).fault ≡ Some t
  pub stage_is : stage_of t ≡ at.Sampled s.sampled

between : (k : Core) (v : ℕ) (s : Sighting) (r : IsReady k (OfVcpu v)) (f : Sighted k v s) → Between k v s (record f.ticket { sampled = Some s.sampled })
between k v s r f =
    let st = r.settled.stands in
    let past : List Entry = k.log.past in
    let e : Entry = by (k.turns + 1) (OfVcpu v) (Sample s.sampled.at) in
    let so_far : s.sampled.at ≤ length past = up_to s.sampled.at s.looked.at (length past) f.is.in_order f.is.so_far in
    let after : (m : ℕ) → fault v past ≡ Faulting f.ticket.access m None None None → m ≤ s.sampled.at = λ m g. subst (λ (n : ℕ). n ≤ s.sampled.at) (same_miss f.ticket.access f.missed m (fault v past) f.fault_is g) f.is.after_miss in
    let x = flight v f.ticket at.Missed st.vcpus r.actor_is f.held f.stage_is in
    record {
      stands = record {
        vcpus = moves.samples_at (k.turns + 1) v f.ticket s.sampled s.sampled.at st.vcpus r.actor_is f.held f.stage_is (λ m g _. record { at_is = refl; after_miss = after m g; so_far = so_far; seq_is = f.is.seq });
        callers = callers.quiet e past refl st.callers;
        mapping = mapping.quiet e past refl st.mapping;
        state = state.state_same e past refl (λ serial. holds_sample k.setup.vcpus serial (k.turns + 1) v s.sampled.at past r.actor_is) st.state;
      };
      may = may_sample_at (orders_of k) v f.ticket s.sampled.at st.vcpus r.actor_is f.held f.stage_is (λ m g _. after m g) so_far;
      held = sampled_at k v s.sampled r ∙ ap (with_sampled s.sampled) f.held;
      stage_is = ap (λ (y : Option Looked). stage_by (Some s.sampled) y f.ticket.backing) x.not_looked;
    }

-- the core after both
abbrev deposited : Core → ℕ → Sighting → Core
deposited k v s =
    noted (record (noted (record k { vcpus = with_sample k v s.sampled }) (OfVcpu v) (Sample s.sampled.at)) { vcpus = set (with_sample k v s.sampled) v (looking (vcpu_at (with_sample k v s.sampled) v) s.looked) }) (OfVcpu v) (look_entry s.looked)

record LookedToo (k : Core) (v : ℕ) (s : Sighting) : Type 0 where
  pub stands : CoreStands (deposited k v s)
  pub turn : IsTurn (orders_of k) (k.turns + 1) (OfVcpu v) (sighting_entries s) k.log.past

looked_too : (k : Core) (v : ℕ) (s : Sighting) (r : IsReady k (OfVcpu v)) (f : Sighted k v s) → Between k v s (record f.ticket { sampled = Some s.sampled }) → LookedToo k v s
looked_too k v s r f b =
    let t : Ticket = record f.ticket { sampled = Some s.sampled } in
    let page : ℕ = f.ticket.access.page in
    let e : Entry = by (k.turns + 1) (OfVcpu v) (Sample s.sampled.at) in
    let past : List Entry = e ∷ k.log.past in
    let g : Entry = by (k.turns + 1) (OfVcpu v) (look_entry s.looked) in
    let keep : flat_at s.looked.at past ≡ flat_at s.looked.at k.log.past = flat_at_keep s.looked.at e k.log.past f.is.so_far in
    let there : s.looked ≡ look_at (flat_at s.looked.at past) page s.looked.at = there_then s.looked (flat_at s.looked.at k.log.past) page f.is.slot f.is.attr ∙ ap (λ (x : Flat). look_at x page s.looked.at) (sym keep) in
    let seen : CanBeSeen k.setup.user (flat_at s.looked.at past) = subst (CanBeSeen k.setup.user) (sym keep) (can_be_seen_at k v s.looked.at r) in
    let so_far : s.looked.at ≤ length past = one_more s.looked.at (length k.log.past) f.is.so_far in
    let new = new_turn (k.turns + 1) (OfVcpu v) (Sample s.sampled.at) k.log.past r.settled.new_turn in
    record {
      stands = record {
        vcpus = looks_then (k.turns + 1) v t s.sampled s.looked s.looked.at b.stands.vcpus r.actor_is b.held b.stage_is there f.is.in_order so_far seen;
        callers = callers.quiet g past refl b.stands.callers;
        mapping = mapping.quiet g past refl b.stands.mapping;
        state = state.state_same g past refl (λ serial. holds_look k.setup.vcpus serial (k.turns + 1) v s.looked.at _ s.looked.attr _ past r.actor_is) b.stands.state;
      };
      turn = record {
        actor_is = r.actor_is;
        new = r.settled.new_turn;
        row = refl;
        each_may = (b.may, (may_look_at (orders_of k) v t s.sampled s.looked s.looked.at b.stands.vcpus r.actor_is b.held b.stage_is there f.is.in_order so_far, tt));
        freed = quiet_freed (g ∷ past) (rw (new, same_number (k.turns + 1)) refl);
      };
    }

pub deposit_turn : (k : Core) (v : ℕ) (s : Sighting) → IsReady k (OfVcpu v) → IsTrueSight v s k.log.past → Deposited k (deposited k v s) v s
deposit_turn k v s r h =
    let f = sighted k v s r h in
    let x = looked_too k v s r f (between k v s r f) in
    record {
      stands = x.stands;
      ruled = turn_ruled (orders_of k) (k.turns + 1) (OfVcpu v) (sighting_entries s) k.log.past x.turn r.settled.ruled;
      orders = refl;
      turns = refl;
      next = next_new k.turns;
      past_is = refl;
      by_tables = x.turn;
    }
