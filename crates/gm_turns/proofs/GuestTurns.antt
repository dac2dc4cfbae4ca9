-- The turns of a vCPU that has no fault in flight.
use Rattle.std.proofs.Common.{◌≡◌, ℕ, ◌+◌, ◌<◌, List, [], ◌∷◌, Bool, true, false, length, set, suc, Option, None, arith, subst, sym, ◌∙◌, ap, refl, eqb, ltb}
use Rattle.std.proofs.lemmas.Bool.{cond-true}
use Rattle.std.proofs.lemmas.Bool.Decides.{nat_tests}
use Rattle.gm_base.specs.declared.script.Command.{Command}
use Rattle.gm_base.specs.declared.values.Actor.TheVariants.{Vcpu}
use Rattle.gm_callers.proofs.Stays as callers
use Rattle.gm_flat.specs.Mappings.{flushed, inside, pending}
use Rattle.gm_flat.specs.RightOrder.{IsWaiting, next_command}
use Rattle.gm_flat.specs.declared.entry.Entry.{Entry}
use Rattle.gm_flat.specs.declared.entry.What.TheVariants.{Enter, Flush, Gone}
use Rattle.gm_laws.proofs.Kit.{by}
use Rattle.gm_mapping.proofs.Lists.{self}
use Rattle.gm_mapping.proofs.Moves.{entered, flushed_all, flushing, gone_out, seated}
use Rattle.gm_mmu.specs.Served.{Serving}
use Rattle.gm_tlb.specs.Requests.{Requests}
use Rattle.gm_tlb.specs.declared.tlb.Fill.{Fill}
use Rattle.gm_turns.proofs.OneTurn.{one_entry, two_entries}
use Rattle.gm_turns.proofs.StateQuiet as state
use Rattle.gm_turns.specs.Ready.{IsReady, Turned, noted}
use Rattle.gm_turns.specs.Room.{orders_of}
use Rattle.gm_turns.specs.declared.parts.Core.{Core}
use Rattle.gm_vcpus.proofs.Flights.{no_fault}
use Rattle.gm_vcpus.proofs.Holders.{holds_gone}
use Rattle.gm_vcpus.proofs.Moves as moves
use Rattle.gm_vcpus.proofs.Stays as vcpus
use Rattle.gm_vcpus.specs.Vcpus.{leaving, no_vcpu, vcpu_at}

-- the memory unit after a flush, from what its parts became
pub flushed_mmu : (m n : Serving) (fs : List (List Fill)) (r : Requests) → n.fills ≡ fs → n.requests ≡ r → n ≡ record m { fills = n.fills; requests = n.requests } → n ≡ record m { fills = fs; requests = r }
flushed_mmu m n fs r e f h = h ∙ (ap (λ (x : List (List Fill)). record m { fills = x; requests = n.requests }) e ∙ ap (λ (x : Requests). record m { fills = fs; requests = x }) f)

pub flush_turn : (k : Core) (v : ℕ) → IsReady k (Vcpu v) → pending v k.log.past ≡ true → Turned k (noted (record k { mmu = flushing k.mmu v }) (Vcpu v) Flush) (Vcpu v) true
flush_turn k v r p =
    let st = r.settled.stands in
    let e = by (k.turns + 1) (Vcpu v) Flush in
    one_entry k (noted (record k { mmu = flushing k.mmu v }) (Vcpu v) Flush) (Vcpu v) Flush true r
    (record {
      stands = record {
        vcpus = vcpus.quiet e k.log.past refl st.vcpus;
        callers = callers.quiet e k.log.past refl st.callers;
        mapping = flushed_all (k.turns + 1) v k.log.past st.mapping r.actor_is;
        state = state.quiet e k.log.past refl st.state;
      };
      past_is = refl;
      orders = refl;
      turns = refl;
    })
    p refl refl refl tt

pub enter_turn : (k : Core) (v : ℕ) → IsReady k (Vcpu v) → inside v k.log.past ≡ false → (vcpu_at k.vcpus v).fault ≡ None → pending v k.log.past ≡ false → IsWaiting (next_command (orders_of k) (Vcpu v) k.log.past) → Turned k (noted (record k { mmu = seated k.mmu v true }) (Vcpu v) Enter) (Vcpu v) false
enter_turn k v r out none calm waiting =
    let st = r.settled.stands in
    let e = by (k.turns + 1) (Vcpu v) Enter in
    one_entry k (noted (record k { mmu = seated k.mmu v true }) (Vcpu v) Enter) (Vcpu v) Enter false r
    (record {
      stands = record {
        vcpus = vcpus.quiet e k.log.past refl st.vcpus;
        callers = callers.quiet e k.log.past refl st.callers;
        mapping = entered (k.turns + 1) v k.log.past st.mapping r.actor_is;
        state = state.quiet e k.log.past refl st.state;
      };
      past_is = refl;
      orders = refl;
      turns = refl;
    })
    (record { outside = out; no_fault = no_fault v st.vcpus r.actor_is none; flushed_before = calm; waiting = waiting }) refl refl refl tt

none_after : (t v : ℕ) (past : List Entry) → pending v (by t (Vcpu v) Flush ∷ past) ≡ false
none_after t v past = cond-true (eqb v v) false (pending v past) (self v)

pub flush_enter_turn : (k : Core) (v : ℕ) → IsReady k (Vcpu v) → inside v k.log.past ≡ false → (vcpu_at k.vcpus v).fault ≡ None → pending v k.log.past ≡ true → IsWaiting (next_command (orders_of k) (Vcpu v) k.log.past) → Turned k (noted (record (noted (record k { mmu = flushing k.mmu v }) (Vcpu v) Flush) { mmu = seated (flushing k.mmu v) v true }) (Vcpu v) Enter) (Vcpu v) false
flush_enter_turn k v r out none p waiting =
    let st = r.settled.stands in
    let f = by (k.turns + 1) (Vcpu v) Flush in
    let e = by (k.turns + 1) (Vcpu v) Enter in
    let past = f ∷ k.log.past in
    two_entries k (noted (record (noted (record k { mmu = flushing k.mmu v }) (Vcpu v) Flush) { mmu = seated (flushing k.mmu v) v true }) (Vcpu v) Enter) (Vcpu v) Flush Enter r
    (record {
      stands = record {
        vcpus = vcpus.quiet e past refl (vcpus.quiet f k.log.past refl st.vcpus);
        callers = callers.quiet e past refl (callers.quiet f k.log.past refl st.callers);
        mapping = entered (k.turns + 1) v past (flushed_all (k.turns + 1) v k.log.past st.mapping r.actor_is) r.actor_is;
        state = state.quiet e past refl (state.quiet f k.log.past refl st.state);
      };
      past_is = refl;
      orders = refl;
      turns = refl;
    })
    (p, record { outside = out; no_fault = no_fault v st.vcpus r.actor_is none; flushed_before = none_after (k.turns + 1) v k.log.past; waiting = waiting }) refl refl (refl, refl) tt

pub leave_turn : (k : Core) (v : ℕ) → IsReady k (Vcpu v) → (vcpu_at k.vcpus v).gone ≡ false → next_command (orders_of k) (Vcpu v) k.log.past ≡ None → Turned k (noted (record k { vcpus = set k.vcpus v (leaving (vcpu_at k.vcpus v)); mmu = seated k.mmu v false }) (Vcpu v) Gone) (Vcpu v) false
leave_turn k v r present none =
    let st = r.settled.stands in
    let e = by (k.turns + 1) (Vcpu v) Gone in
    one_entry k (noted (record k { vcpus = set k.vcpus v (leaving (vcpu_at k.vcpus v)); mmu = seated k.mmu v false }) (Vcpu v) Gone) (Vcpu v) Gone false r
    (record {
      stands = record {
        vcpus = moves.leaves (k.turns + 1) v st.vcpus r.actor_is;
        callers = callers.quiet e k.log.past refl st.callers;
        mapping = gone_out (k.turns + 1) v k.log.past st.mapping r.actor_is;
        state = state.state_same e k.log.past refl (λ serial. holds_gone k.setup.vcpus serial (k.turns + 1) v k.log.past) st.state;
      };
      past_is = refl;
      orders = refl;
      turns = refl;
    })
    (record { none_left = none; once = sym (st.vcpus.each v no_vcpu r.actor_is).gone_is ∙ present }) refl refl refl tt
