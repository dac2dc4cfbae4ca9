-- The turns of a call that adds pages.
use Rattle.std.proofs.Common.{◌≡◌, ℕ, ◌+◌, ◌∷◌, false, set, Some, refl}
use Rattle.gm_base.specs.declared.values.Actor.TheVariants.{Caller}
use Rattle.gm_base.specs.declared.values.Folio.{Folio}
use Rattle.gm_callers.proofs.Answering as answering
use Rattle.gm_callers.proofs.Moves as moves
use Rattle.gm_callers.proofs.PageTurns as owed
use Rattle.gm_callers.specs.Callers.{answered, caller_at, paged, pages_in}
use Rattle.gm_callers.specs.Stand.{AddsPages}
use Rattle.gm_calls.specs.Judgements.{pages_of}
use Rattle.gm_calls.specs.declared.judged.PagePlan.{PagePlan}
use Rattle.gm_flat.specs.Effects.{Addition}
use Rattle.gm_flat.specs.Replay.{added_by, flat}
use Rattle.gm_flat.specs.RightCalls.{PagesEnd}
use Rattle.gm_flat.specs.declared.effect.Reply.{Reply}
use Rattle.gm_flat.specs.declared.entry.What.TheVariants.{Answer, Page}
use Rattle.gm_laws.proofs.Kit.{by}
use Rattle.gm_mapping.proofs.Quiet as mapping
use Rattle.gm_state.specs.Views.{StateView}
use Rattle.gm_turns.proofs.OneTurn.{one_entry}
use Rattle.gm_turns.proofs.StateQuiet as state
use Rattle.gm_turns.specs.Ready.{IsReady, Turned, noted}
use Rattle.gm_turns.specs.Room.{orders_of}
use Rattle.gm_turns.specs.Standing.{StateStands}
use Rattle.gm_turns.specs.declared.parts.Core.{Core}
use Rattle.gm_vcpus.proofs.Stays as vcpus

-- it adds a run of pages; the state with them stands for the history with their entry
pub page_turn : (k : Core) (c : ℕ) (q : PagePlan) (index : ℕ) (folio : Folio) (n : ℕ) (d : Addition) (new : StateView) → IsReady k (Caller c) → AddsPages q (caller_at k.callers c).call → added_by (Page index folio n) (Caller c) k.log.past ≡ Some d → owed.MayAdd k.setup.frames q index (pages_in (caller_at k.callers c).call) d k.log.past → StateStands k.setup new (by (k.turns + 1) (Caller c) (Page index folio n) ∷ k.log.past) → Turned k (noted (record k { callers = set k.callers c (paged (caller_at k.callers c)); state = new }) (Caller c) (Page index folio n)) (Caller c) false
page_turn k c q index folio n d new r adds is may stands =
    let st = r.settled.stands in
    let e = by (k.turns + 1) (Caller c) (Page index folio n) in
    one_entry k (noted (record k { callers = set k.callers c (paged (caller_at k.callers c)); state = new }) (Caller c) (Page index folio n)) (Caller c) (Page index folio n) false r
    (record {
      stands = record {
        vcpus = vcpus.quiet e k.log.past refl st.vcpus;
        callers = moves.pages (k.turns + 1) c index folio n q st.callers r.actor_is adds;
        mapping = mapping.quiet e k.log.past refl st.mapping;
        state = stands;
      };
      past_is = refl;
      orders = refl;
      turns = refl;
    })
    (owed.may_page (orders_of k) c q index folio n d st.callers r.actor_is adds is may) refl refl refl tt

-- its pages end, and it is answered
pub pages_answer_turn : (k : Core) (c : ℕ) (q : PagePlan) (reply : Reply) → IsReady k (Caller c) → AddsPages q (caller_at k.callers c).call → PagesEnd k.setup.frames reply (pages_of q) q.base (pages_in (caller_at k.callers c).call) (flat k.log.past) → Turned k (noted (record k { callers = set k.callers c (answered (caller_at k.callers c)) }) (Caller c) (Answer reply)) (Caller c) false
pages_answer_turn k c q reply r adds ends =
    let st = r.settled.stands in
    let e = by (k.turns + 1) (Caller c) (Answer reply) in
    one_entry k (noted (record k { callers = set k.callers c (answered (caller_at k.callers c)) }) (Caller c) (Answer reply)) (Caller c) (Answer reply) false r
    (record {
      stands = record {
        vcpus = vcpus.quiet e k.log.past refl st.vcpus;
        callers = answering.answers (k.turns + 1) c reply st.callers r.actor_is (owed.no_bracket c q st.callers r.actor_is adds);
        mapping = mapping.quiet e k.log.past refl st.mapping;
        state = state.quiet e k.log.past refl st.state;
      };
      past_is = refl;
      orders = refl;
      turns = refl;
    })
    (owed.may_answer (orders_of k) c q reply st.callers r.actor_is adds ends) refl refl refl tt
