-- What a core tells of an actor's next turn before it is taken.
use Rattle.std.proofs.Common.{◌≡◌, ℕ, suc, ◌+◌, ◌-◌, ◌^◌, ◌<◌, ◌≤◌, List, [], ◌∷◌, Bool, true, false, length, Option, Some, None, arith, eqb, leb, cond, refl, ap, sym, ◌∙◌, subst, inl, inr, ◌⊎◌}
use Rattle.std.proofs.lemmas.Bool.{both_ways}
use Rattle.gm_base.specs.Extent.{Extent}
use Rattle.gm_base.specs.Scripts.{Orders}
use Rattle.gm_base.specs.declared.calls.Ioctl.{Ioctl}
use Rattle.gm_base.specs.declared.script.Command.TheVariants.{Call as CallCommand}
use Rattle.gm_base.specs.declared.values.Actor.{Actor}
use Rattle.gm_base.specs.declared.values.Actor.TheVariants.{Caller, Vcpu}
use Rattle.gm_callers.proofs.Moves.{InBracket, acked_is, adding_pages, begun_is, changed_is, idle, in_bracket}
use Rattle.gm_callers.proofs.Replies.{may_change}
use Rattle.gm_callers.proofs.Unmarked.{short_unmarked}
use Rattle.gm_callers.proofs.Waits.{unblocked_begin, unblocked_change, unblocked_end}
use Rattle.gm_callers.specs.Callers.{caller_at, or_empty, spans_in, spans_of}
use Rattle.gm_callers.specs.Stand.{AddsPages, AtAcked, IsAt, IsJudged}
use Rattle.gm_callers.specs.declared.caller.InProgress.{InProgress}
use Rattle.gm_calls.specs.AtOnce.{effect_at_once}
use Rattle.gm_calls.specs.Judgements.{pages_of}
use Rattle.gm_calls.specs.declared.call.Step.TheVariants as step
use Rattle.gm_calls.specs.declared.judged.Judged.TheVariants as judgement
use Rattle.gm_calls.specs.declared.judged.PagePlan.{PagePlan}
use Rattle.gm_determined.proofs.CallerTurn.{AnswerRow, PageRow, Planned, known, view}
use Rattle.gm_flat.specs.Calls.{Bracketed, Paged, Plan, Short, mark_of, plan}
use Rattle.gm_flat.specs.Histories.{Bracket, bracket, call, gone, is_mark}
use Rattle.gm_flat.specs.Invalidation.{count, hull, widened}
use Rattle.gm_flat.specs.Replay.{flat}
use Rattle.gm_flat.specs.RightLives.{plan_of}
use Rattle.gm_flat.specs.RightOrder.{IsBlocked, next_command}
use Rattle.gm_flat.specs.Roomy.{Roomy}
use Rattle.gm_flat.specs.declared.effect.Effect.{Effect}
use Rattle.gm_flat.specs.declared.effect.Effect.TheVariants.{Mark, Move, NoSlot}
use Rattle.gm_flat.specs.declared.entry.Entry.{Entry}
use Rattle.gm_flat.specs.declared.entry.What.{What}
use Rattle.gm_flat.specs.declared.entry.What.TheVariants.{Answer, Page}
use Rattle.gm_inval.specs.Range.{open_range, widen_all}
use Rattle.gm_laws.specs.Counting.{ends}
use Rattle.gm_laws.specs.Turns.{onto}
use Rattle.gm_mapping.proofs.Spanning.{range_would}
use Rattle.gm_state.specs.Marked.{mark_slot}
use Rattle.gm_turns.proofs.BeginTurns.{mark_by}
use Rattle.gm_turns.proofs.Blocking.{present_is}
use Rattle.gm_turns.proofs.ForetoldTurns.{Read, acked_told, begun_told, changed_told, ended_told, leaving_told, at_once_is, marked_loud, pages_told, quiet_row, quiet_told, short_told}
use Rattle.gm_turns.proofs.Loudness.{vcpu_told}
use Rattle.gm_turns.specs.Ahead.{Loud, ahead_in, begin_loud}
use Rattle.gm_turns.specs.Brackets.{IsAtStep, slot_to_mark}
use Rattle.gm_turns.specs.Foretold.{Foretells}
use Rattle.gm_turns.specs.Ready.{CoreStands, IsReady, TookTurn}
use Rattle.gm_turns.specs.Room.{orders_of}
use Rattle.gm_turns.specs.declared.outcome.Ahead.{Ahead}
use Rattle.gm_turns.specs.declared.parts.Core.{Core}

-- a turn that was taken is read by the tables
read : (k : Core) (c : ℕ) (past : List Entry) → IsReady k (Caller c) → (t : TookTurn (orders_of k) (k.turns + 1) (Caller c) false k.log.past past) → Read (orders_of k) (k.turns + 1) c t.entries k.log.past
read k c past r t = record {
  ruled = r.settled.ruled;
  new = r.settled.new_turn;
  seen = view (orders_of k) (k.turns + 1) c t.entries k.log.past (known (orders_of k) c k.log.past r.settled.ruled) t.by_tables.row t.by_tables.each_may t.by_tables.freed;
}

-- what is told of it holds of the history after it
told_after : (k : Core) (a : Actor) (past : List Entry) (told : Option Ahead) → (t : TookTurn (orders_of k) (k.turns + 1) a false k.log.past past) → told ≡ ahead_in (k.turns + 1) (onto (k.turns + 1) a t.entries k.log.past) → told ≡ ahead_in (k.turns + 1) past
told_after k a past told t h = subst (λ (h : List Entry). told ≡ ahead_in (k.turns + 1) h) (sym t.past_is) h

-- nothing is told
pub foretold_none : (k : Core) (c : ℕ) → IsReady k (Caller c) → ((ws : List What) → Read (orders_of k) (k.turns + 1) c ws k.log.past → None ≡ ahead_in (k.turns + 1) (onto (k.turns + 1) (Caller c) ws k.log.past)) → Foretells (orders_of k) (Caller c) (k.turns + 1) k.log.past None
foretold_none k c r f = record {
  moves = λ past present free t. told_after k (Caller c) past None t (f t.entries (read k c past r t));
  stays = λ cause. refl;
}

-- a change is told, of a turn that comes
pub foretold_some : (k : Core) (c : ℕ) (a : Ahead) → IsReady k (Caller c) → (caller_at k.callers c).gone ≡ false → (IsBlocked (orders_of k) (Caller c) k.log.past → ⊥) → ((ws : List What) → Read (orders_of k) (k.turns + 1) c ws k.log.past → Some a ≡ ahead_in (k.turns + 1) (onto (k.turns + 1) (Caller c) ws k.log.past)) → Foretells (orders_of k) (Caller c) (k.turns + 1) k.log.past (Some a)
foretold_some k c a r present free f = record {
  moves = λ past here unblocked t. told_after k (Caller c) past (Some a) t (f t.entries (read k c past r t));
  stays = λ cause. stuck cause;
}
  where
    stuck : (gone (Caller c) k.log.past ≡ true) ⊎ IsBlocked (orders_of k) (Caller c) k.log.past → Some a ≡ None
    stuck (inl h) = absurd (both_ways (gone (Caller c) k.log.past) (present_is k c r.settled r.actor_is present) h)
    stuck (inr h) = absurd (free h)

-- what waits changes nothing
pub foretold_blocked : (k : Core) (c : ℕ) → IsBlocked (orders_of k) (Caller c) k.log.past → Foretells (orders_of k) (Caller c) (k.turns + 1) k.log.past None
foretold_blocked k c blocked = record {
  moves = λ past here unblocked t. absurd (unblocked blocked);
  stays = λ cause. refl;
}

pub foretold_gone : (k : Core) (a : Actor) → gone a k.log.past ≡ true → Foretells (orders_of k) a (k.turns + 1) k.log.past None
foretold_gone k a h = record {
  moves = λ past here unblocked t. absurd (both_ways (gone a k.log.past) here h);
  stays = λ cause. refl;
}

-- an equal change
same_ahead : (a b : ℕ) (e f : Option Effect) (s q m n : ℕ) (h l : Option Extent) → a ≡ b → e ≡ f → s ≡ q → m ≡ n → h ≡ l → ◌≡◌ {A = Option Ahead} (Some (record { at = a; effect = e; seq = s; count = m; hull = h })) (Some (record { at = b; effect = f; seq = q; count = n; hull = l }))
same_ahead a b e f s q m n h l x y z u v = rw (x, y, z, u, v) refl

-- the begin of a bracket

loud_same : (effect : Effect) (n : ℕ) → begin_loud (mark_slot effect) n ≡ marked_loud (mark_of effect) n
loud_same (NoSlot slot) n = ap (λ (m : ℕ). record { at = m; effect = Some (Mark slot) }) (two n)
  where
    two : (n : ℕ) → n + 2 ≡ suc (suc n)
    two n = omega arith
loud_same (Move slot base) n = ap (λ (m : ℕ). record { at = m; effect = Some (Mark slot) }) (two n)
  where
    two : (n : ℕ) → n + 2 ≡ suc (suc n)
    two n = omega arith
loud_same _ n = ap (λ (m : ℕ). record { at = m; effect = None }) (one n)
  where
    one : (n : ℕ) → n + 1 ≡ suc n
    one n = omega arith

spans_plan : (effect : Effect) (o : Option Roomy) (p : Plan) → IsJudged (judgement.Bracket effect) o p → p ≡ Bracketed effect (or_empty o).list
spans_plan effect (Some spans) p h = h
spans_plan effect None p h = absurd h

pub begin_foretold : (k : Core) (c : ℕ) (a : Ahead) → IsReady k (Caller c) → (caller_at k.callers c).gone ≡ false → IsAtStep None (caller_at k.callers c).call → record { at = a.at; effect = a.effect } ≡ begin_loud (slot_to_mark (caller_at k.callers c).call) (length k.log.past) → a.seq ≡ k.mmu.progress.seq → a.count ≡ k.mmu.progress.count + 1 → a.hull ≡ widen_all (open_range k.mmu.progress) (spans_in (caller_at k.callers c).call).list → Foretells (orders_of k) (Caller c) (k.turns + 1) k.log.past (Some a)
begin_foretold k c a r present at loud seq counted range =
    foretold_some k c a r present (unblocked_begin (orders_of k) c at.0 st.callers r.actor_is at.1)
    (λ ws x. same_ahead a.at l.at a.effect l.effect a.seq (ends past) a.count (suc (count past)) a.hull (widened (cond (eqb (count past) 0) None (hull past)) xs)
    (ap (λ (z : Loud). z.at) is_loud) (ap (λ (z : Loud). z.effect) is_loud) (seq ∙ st.mapping.seq_is) (one_more (count past) (counted ∙ ap (λ (n : ℕ). n + 1) st.mapping.count_is)) (range ∙ (ap (λ (zs : List Extent). widen_all (open_range k.mmu.progress) zs) spans_are ∙ range_would k.mmu.progress (count past) (hull past) xs st.mapping.count_is st.mapping.range_is))
    ∙ begun_told (orders_of k) (k.turns + 1) c ws past g.y at.0 xs x g.call_is g.stage.no_bracket planned g.stage.unmade)
  where
    st : CoreStands k
    st = r.settled.stands

    past : List Entry
    past = k.log.past

    g : InBracket k.setup k.callers c at.0 None past
    g = in_bracket c at.0 None st.callers r.actor_is at.1

    xs : List Extent
    xs = (or_empty g.x.spans).list

    planned : plan_of k.setup g.y past ≡ Bracketed at.0 xs
    planned = spans_plan at.0 g.x.spans (plan_of k.setup g.y past) g.stage.is_judged

    spans_are : (spans_in (caller_at k.callers c).call).list ≡ xs
    spans_are = ap (λ (o : Option InProgress). (spans_in o).list) g.is_x

    l : Loud
    l = marked_loud (mark_of at.0) (length past)

    is_loud : record { at = a.at; effect = a.effect } ≡ l
    is_loud = loud ∙ (ap (λ (o : Option ℕ). begin_loud o (length past)) (mark_by at.0 (caller_at k.callers c).call at.1) ∙ loud_same at.0 (length past))

    one_more : (n : ℕ) → a.count ≡ n + 1 → a.count ≡ suc n
    one_more n h = omega (arith, h)

-- the change in a bracket
pub change_foretold : (k : Core) (c : ℕ) (effect : Effect) (a : Ahead) → IsReady k (Caller c) → (caller_at k.callers c).gone ≡ false → IsAt effect (Some step.Acked) (caller_at k.callers c).call → a ≡ record { at = length k.log.past + 0 + 1; effect = Some effect; seq = k.mmu.progress.seq; count = k.mmu.progress.count; hull = open_range k.mmu.progress } → Foretells (orders_of k) (Caller c) (k.turns + 1) k.log.past (Some a)
change_foretold k c effect a r present at is =
    foretold_some k c a r present (unblocked_change (orders_of k) c effect st.callers r.actor_is at)
    (λ ws x. ap (λ (z : Ahead). Some z) is
    ∙ (same_ahead (length past + 0 + 1) (suc (length past)) (Some effect) (Some effect) k.mmu.progress.seq (ends past) k.mmu.progress.count (count past) (open_range k.mmu.progress) (hull past) (one_more (length past)) refl st.mapping.seq_is st.mapping.count_is st.mapping.range_is
    ∙ changed_told (orders_of k) (k.turns + 1) c ws past g.y z.0 effect z.0.spans x g.call_is z.1 z.2.is_bracket z.2.made_is z.2.is_acked))
  where
    st : CoreStands k
    st = r.settled.stands

    past : List Entry
    past = k.log.past

    g : InBracket k.setup k.callers c effect (Some step.Acked) past
    g = in_bracket c effect (Some step.Acked) st.callers r.actor_is at

    z : (b : Bracket) × (bracket c past ≡ Some b) × AtAcked effect g.y.made false b (plan_of k.setup g.y past)
    z = acked_is effect g.x.request g.y.made (bracket c past) (plan_of k.setup g.y past) past g.stage

    one_more : (n : ℕ) → n + 0 + 1 ≡ suc n
    one_more n = omega arith

-- its end
pub end_foretold : (k : Core) (c : ℕ) (effect : Effect) (a : Ahead) → IsReady k (Caller c) → (caller_at k.callers c).gone ≡ false → IsAt effect (Some step.Change) (caller_at k.callers c).call → a ≡ record { at = length k.log.past + 1; effect = None; seq = k.mmu.progress.seq + 1; count = k.mmu.progress.count - 1; hull = cond (leb k.mmu.progress.count 1) None (open_range k.mmu.progress) } → Foretells (orders_of k) (Caller c) (k.turns + 1) k.log.past (Some a)
end_foretold k c effect a r present at is =
    foretold_some k c a r present (unblocked_end (orders_of k) c effect st.callers r.actor_is at)
    (λ ws x. ap (λ (z : Ahead). Some z) is
    ∙ (same_ahead (length past + 1) (suc (length past)) None None (k.mmu.progress.seq + 1) (suc (ends past)) (k.mmu.progress.count - 1) (count past - 1) (cond (leb k.mmu.progress.count 1) None (open_range k.mmu.progress)) (cond (leb (count past) 1) None (hull past)) (one_more (length past)) refl (ap (λ (n : ℕ). n + 1) st.mapping.seq_is ∙ one_more (ends past)) (ap (λ (n : ℕ). n - 1) st.mapping.count_is) (ranges k.mmu.progress.count (count past) (open_range k.mmu.progress) (hull past) st.mapping.count_is st.mapping.range_is)
    ∙ ended_told (orders_of k) (k.turns + 1) c ws past g.y z.0 effect z.0.spans x g.call_is z.1 z.2.is_bracket z.2.made_is))
  where
    st : CoreStands k
    st = r.settled.stands

    past : List Entry
    past = k.log.past

    g : InBracket k.setup k.callers c effect (Some step.Change) past
    g = in_bracket c effect (Some step.Change) st.callers r.actor_is at

    z : (b : Bracket) × (bracket c past ≡ Some b) × AtAcked effect g.y.made true b (plan_of k.setup g.y past)
    z = changed_is effect g.x.request g.y.made (bracket c past) (plan_of k.setup g.y past) past g.stage

    one_more : (n : ℕ) → n + 1 ≡ suc n
    one_more n = omega arith

    ranges : (m n : ℕ) (h l : Option Extent) → m ≡ n → h ≡ l → cond (leb m 1) None h ≡ cond (leb n 1) None l
    ranges m n h l e f = rw (e, f) refl

-- its acknowledgement
pub acked_foretold : (k : Core) (c : ℕ) (effect : Effect) → IsReady k (Caller c) → IsAt effect (Some step.Begin) (caller_at k.callers c).call → Foretells (orders_of k) (Caller c) (k.turns + 1) k.log.past None
acked_foretold k c effect r at =
    let st = r.settled.stands in
    let past : List Entry = k.log.past in
    let g = in_bracket c effect (Some step.Begin) st.callers r.actor_is at in
    let z = begun_is effect g.x.request g.y.made (bracket c past) (plan_of k.setup g.y past) past g.stage in
    foretold_none k c r (λ ws x. acked_told (orders_of k) (k.turns + 1) c ws past g.y z.0 effect z.0.spans x g.call_is z.1 z.2.is_bracket z.2.unmade z.2.asked_is.not_acked)

-- pages
pub pages_foretold : (k : Core) (c : ℕ) (q : PagePlan) → IsReady k (Caller c) → AddsPages q (caller_at k.callers c).call → Foretells (orders_of k) (Caller c) (k.turns + 1) k.log.past None
pages_foretold k c q r at =
    let st = r.settled.stands in
    let past : List Entry = k.log.past in
    let g = adding_pages c q st.callers r.actor_is at in
    let t = k.turns + 1 in
    foretold_none k c r (λ ws x. pages_told (orders_of k) t c ws past g.y (Paged (pages_of q)) x g.call_is g.stage.no_bracket g.stage.is_judged
    (λ z. elim z [
      | inl row ↦ quiet_row t c ws (Page row.0 row.1 row.2 ∷ []) past x.new row.3 refl
      | inr row ↦ quiet_row t c ws (Answer row.0 ∷ []) past x.new row.1 refl
    ]))

-- of a caller without a call in progress
pub leaving_foretold : (k : Core) (c : ℕ) → IsReady k (Caller c) → next_command (orders_of k) (Caller c) k.log.past ≡ None → Foretells (orders_of k) (Caller c) (k.turns + 1) k.log.past None
leaving_foretold k c r none = foretold_none k c r (λ ws x. leaving_told (orders_of k) (k.turns + 1) c ws k.log.past x none)

pub quiet_foretold : (k : Core) (c : ℕ) (i : Ioctl) → IsReady k (Caller c) → (caller_at k.callers c).call ≡ None → next_command (orders_of k) (Caller c) k.log.past ≡ Some (CallCommand i) → None ≡ effect_at_once (plan k.setup i (flat k.log.past)) → Foretells (orders_of k) (Caller c) (k.turns + 1) k.log.past None
quiet_foretold k c i r none command h =
    foretold_none k c r (λ ws x. quiet_told (orders_of k) (k.turns + 1) c ws k.log.past i x (idle c r.settled.stands.callers r.actor_is none).0 command (sym h))

-- a change at once
pub short_foretold : (k : Core) (c : ℕ) (i : Ioctl) (effect : Effect) (a : Ahead) → IsReady k (Caller c) → (caller_at k.callers c).gone ≡ false → (caller_at k.callers c).call ≡ None → next_command (orders_of k) (Caller c) k.log.past ≡ Some (CallCommand i) → Some effect ≡ effect_at_once (plan k.setup i (flat k.log.past)) → (IsBlocked (orders_of k) (Caller c) k.log.past → ⊥) → a ≡ record { at = length k.log.past + 1 + 1; effect = Some effect; seq = k.mmu.progress.seq; count = k.mmu.progress.count; hull = open_range k.mmu.progress } → Foretells (orders_of k) (Caller c) (k.turns + 1) k.log.past (Some a)
short_foretold k c i effect a r present none command h free is =
    foretold_some k c a r present free
    (λ ws x. ap (λ (z : Ahead). Some z) is
    ∙ (same_ahead (length past + 1 + 1) (suc (suc (length past))) (Some effect) (Some effect) k.mmu.progress.seq (ends past) k.mmu.progress.count (count past) (open_range k.mmu.progress) (hull past) (two_more (length past)) refl st.mapping.seq_is st.mapping.count_is st.mapping.range_is
    ∙ short_told (orders_of k) (k.turns + 1) c ws past i effect x (idle c st.callers r.actor_is none).0 command (sym h) (short_unmarked k.setup i (flat past) effect s.0 s.1) (may_change (orders_of k) (k.turns + 1) c i effect s.0 st.callers r.actor_is none s.1)))
  where
    st : CoreStands k
    st = r.settled.stands

    past : List Entry
    past = k.log.past

    s : (n : ℕ) × (plan k.setup i (flat past) ≡ Short effect n)
    s = at_once_is (plan k.setup i (flat past)) effect (sym h)

    two_more : (n : ℕ) → n + 1 + 1 ≡ suc (suc n)
    two_more n = omega arith

-- of a vCPU
pub vcpu_foretold : (k : Core) (v : ℕ) → IsReady k (Vcpu v) → Foretells (orders_of k) (Vcpu v) (k.turns + 1) k.log.past None
vcpu_foretold k v r = record {
  moves = λ past here unblocked t. told_after k (Vcpu v) past None t (vcpu_told (k.turns + 1) v t.entries k.log.past r.settled.new_turn t.by_tables.row);
  stays = λ cause. refl;
}
