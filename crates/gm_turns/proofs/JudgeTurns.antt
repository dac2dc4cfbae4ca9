-- The turn in which a call is judged.
use Rattle.std.proofs.Common.{◌≡◌, ℕ, ◌+◌, ◌^◌, ◌<◌, List, [], ◌∷◌, true, false, length, set, Option, Some, None, arith, subst, sym, ◌∙◌, ap, refl}
use Rattle.std.proofs.lemmas.List.{get_or-set_same}
use Rattle.gm_base.specs.declared.calls.Ioctl.{Ioctl}
use Rattle.gm_base.specs.declared.script.Command.TheVariants.{Call as CallCommand}
use Rattle.gm_base.specs.declared.values.Actor.TheVariants.{Caller}
use Rattle.gm_base.specs.Extent.{Extent}
use Rattle.gm_base.specs.declared.values.Errno.{Errno}
use Rattle.gm_base.specs.declared.values.Setup.{Setup}
use Rattle.gm_flat.specs.FlatState.{Flat}
use Rattle.gm_callers.proofs.Answering as answering
use Rattle.gm_callers.proofs.Moves as moves
use Rattle.gm_callers.proofs.NextCommand.{ended_le}
use Rattle.gm_callers.proofs.Replies as owed
use Rattle.gm_callers.proofs.Waits as waits
use Rattle.gm_callers.specs.Callers.{caller_at, no_caller, without_room}
use Rattle.gm_callers.specs.Holding.{is_holder}
use Rattle.gm_callers.specs.Stand.{CallersStand, IsJudged}
use Rattle.gm_callers.specs.declared.caller.Caller.{Caller as OneCaller}
use Rattle.gm_callers.specs.declared.caller.InProgress.{InProgress}
use Rattle.gm_calls.specs.Judgements.{IsAnswer, Tells}
use Rattle.gm_calls.specs.Lent.{LentStand}
use Rattle.gm_calls.specs.LockSets.{HasItsLocks}
use Rattle.gm_calls.specs.declared.judged.Judged.{Judged}
use Rattle.gm_calls.specs.declared.lock_set.LockSet.{LockSet}
use Rattle.gm_calls.specs.declared.parts.Parts.{Parts}
use Rattle.gm_flat.specs.Calls.{Reads, Refused, plan}
use Rattle.gm_flat.specs.Replay.{flat}
use Rattle.gm_flat.specs.RightOrder.{Judges, is_row, next_command}
use Rattle.gm_flat.specs.Roomy.{Roomy}
use Rattle.gm_flat.specs.Words.{user_word}
use Rattle.gm_flat.specs.declared.effect.Reply.{Reply}
use Rattle.gm_flat.specs.declared.effect.Reply.TheVariants.{Bad, Good}
use Rattle.gm_flat.specs.declared.entry.What.TheVariants.{Answer, Judge}
use Rattle.gm_laws.proofs.Kit.{by}
use Rattle.gm_laws.specs.May.{May}
use Rattle.gm_mapping.proofs.Quiet as mapping
use Rattle.gm_state.proofs.Lending.{IsLent}
use Rattle.gm_state.proofs.PlannedReads.{reads_inside}
use Rattle.gm_turns.proofs.Blocking.{lent_stands}
use Rattle.gm_turns.proofs.OneTurn.{one_entry, two_entries}
use Rattle.gm_turns.proofs.StateQuiet as state
use Rattle.gm_turns.specs.Judging.{answered_now, going_on}
use Rattle.gm_turns.specs.Ready.{IsReady, Turned}
use Rattle.gm_turns.specs.Room.{HasCallRoom, orders_of}
use Rattle.gm_turns.specs.declared.parts.Core.{Core}
use Rattle.gm_vcpus.proofs.Stays as vcpus
use Rattle.gm_words.specs.Banks.{word_in}

-- what a call is judged by

-- what is lent is the core's
pub record IsLentBy (k : Core) (p : Parts) : Type 0 where
  pub state : IsLent p k.state
  pub user : p.user.now ≡ k.state.user
  pub setup : p.setup ≡ k.setup

-- what the judgement tells is told of the plan now
pub told : (k : Core) (c : ℕ) (p : Parts) (i : Ioctl) (j : Judged) (spans : List Extent) → IsReady k (Caller c) → IsLentBy k p → ((f : Flat) → LentStand p f → Tells p.user.now (plan p.setup i f) j spans) → Tells k.state.user (plan k.setup i (flat k.log.past)) j spans
told k c p i j spans r l h =
    subst (λ (u : List (List ℕ)). Tells u (plan k.setup i (flat k.log.past)) j spans) l.user
    (subst (λ (s : Setup). Tells p.user.now (plan s i (flat k.log.past)) j spans) l.setup (h (flat k.log.past) (lent_stands k p r.settled l.state)))

pub has_room : (k : Core) (c : ℕ) → IsReady k (Caller c) → (caller_at k.callers c).call ≡ None → HasCallRoom k c None
has_room k c r none = subst (λ (o : Option InProgress). HasCallRoom k c o) none r.room.own

pub few_callers : (k : Core) (c : ℕ) → IsReady k (Caller c) → length k.callers < 2 ^ 32
few_callers k c r = let e = r.settled.stands.callers.count_is in let l = r.settled.limits.callers in omega arith

pub is_caller : (k : Core) (c : ℕ) → IsReady k (Caller c) → c < length k.callers
is_caller k c r = let e = r.settled.stands.callers.count_is in let l = r.actor_is in omega arith

-- its spans are taken

abbrev pub taken : Core → ℕ → Core
taken k c = record k { callers = set k.callers c (without_room (caller_at k.callers c)) }

pub taken_is : (k : Core) (c : ℕ) → IsReady k (Caller c) → caller_at (taken k c).callers c ≡ without_room (caller_at k.callers c)
taken_is k c r = get_or-set_same k.callers c (without_room (caller_at k.callers c)) no_caller (is_caller k c r)

pub still_idle : (k : Core) (c : ℕ) → IsReady k (Caller c) → (caller_at k.callers c).call ≡ None → (caller_at (taken k c).callers c).call ≡ None
still_idle k c r none = ap (λ (x : OneCaller). x.call) (taken_is k c r) ∙ none

pub taken_stand : (k : Core) (c : ℕ) → IsReady k (Caller c) → CallersStand k.setup (taken k c).callers k.log.past
taken_stand k c r = answering.taken c r.settled.stands.callers r.actor_is

pub taken_ended : (k : Core) (c : ℕ) → IsReady k (Caller c) → (caller_at (taken k c).callers c).ended + 1 < 2 ^ 64
taken_ended k c r = subst (λ (x : OneCaller). x.ended + 1 < 18446744073709551616) (sym (taken_is k c r)) (let l = ended_le c r.settled.stands.callers r.actor_is in let s = r.room.short in omega arith)

-- it is answered at once

answer_turn : (k : Core) (c : ℕ) (i : Ioctl) (reply : Reply) → IsReady k (Caller c) → (caller_at k.callers c).call ≡ None → Judges (orders_of k) c i k.log.past → May (orders_of k) (Answer reply) (Caller c) (by (k.turns + 1) (Caller c) (Judge i) ∷ k.log.past) → is_row k.setup (Caller c) (Judge i ∷ Answer reply ∷ []) k.log.past ≡ true → Turned k (answered_now (taken k c) c i reply) (Caller c) false
answer_turn k c i reply r none judges answers row =
    let st = r.settled.stands in
    let t = k.turns + 1 in
    let j = by t (Caller c) (Judge i) in
    let a = by t (Caller c) (Answer reply) in
    let past = j ∷ k.log.past in
    two_entries k (answered_now (taken k c) c i reply) (Caller c) (Judge i) (Answer reply) r
    (record {
      stands = record {
        vcpus = vcpus.quiet a past refl (vcpus.quiet j k.log.past refl st.vcpus);
        callers = answering.stayed t c i reply (taken_stand k c r) r.actor_is (still_idle k c r none);
        mapping = mapping.quiet a past refl (mapping.quiet j k.log.past refl st.mapping);
        state = state.quiet a past refl (state.quiet j k.log.past refl st.state);
      };
      past_is = refl;
      orders = refl;
      turns = refl;
    })
    (judges, answers) row refl (refl, refl) tt

pub refuse_turn : (k : Core) (c : ℕ) (i : Ioctl) (errno : Errno) → IsReady k (Caller c) → (caller_at k.callers c).call ≡ None → Judges (orders_of k) c i k.log.past → plan k.setup i (flat k.log.past) ≡ Refused errno → Turned k (answered_now (taken k c) c i (Bad errno)) (Caller c) false
refuse_turn k c i errno r none judges h =
    answer_turn k c i (Bad errno) r none judges (owed.may_refuse (orders_of k) (k.turns + 1) c i errno r.settled.stands.callers r.actor_is none h) (owed.row_refused k.setup c i errno (Bad errno) k.log.past h)

-- the words of user memory are the history's
read_is : (k : Core) (c : ℕ) (i : Ioctl) → IsReady k (Caller c) → (page word : ℕ) → plan k.setup i (flat k.log.past) ≡ Reads page word → word_in k.state.user page word ≡ user_word page word k.log.past
read_is k c i r page word h =
    let p = reads_inside k.setup i (flat k.log.past) page word h in
    r.settled.stands.state.is.user.words_are page word p.0 p.1

pub same_turn : (k : Core) (c : ℕ) (i : Ioctl) (answer : ℕ) → IsReady k (Caller c) → (caller_at k.callers c).call ≡ None → Judges (orders_of k) c i k.log.past → IsAnswer k.state.user (plan k.setup i (flat k.log.past)) answer → Turned k (answered_now (taken k c) c i (Good answer)) (Caller c) false
same_turn k c i answer r none judges h =
    answer_turn k c i (Good answer) r none judges (owed.may_same (orders_of k) (k.turns + 1) c i k.state.user answer r.settled.stands.callers r.actor_is none (read_is k c i r) h) (owed.row_same k.setup c i k.state.user answer (Good answer) k.log.past h)

-- it goes on

pub go_turn : (k : Core) (c : ℕ) (i : Ioctl) (held : LockSet) (j : Judged) (spans : Option Roomy) → IsReady k (Caller c) → (caller_at k.callers c).call ≡ None → Judges (orders_of k) c i k.log.past → HasItsLocks held i (flat k.log.past) → IsJudged j spans (plan k.setup i (flat k.log.past)) → Turned k (going_on (taken k c) c (moves.call_of i held j) spans) (Caller c) false
go_turn k c i held j spans r none judges has planned =
    let st = r.settled.stands in
    let t = k.turns + 1 in
    let e = by t (Caller c) (Judge i) in
    one_entry k (going_on (taken k c) c (moves.call_of i held j) spans) (Caller c) (Judge i) false r
    (record {
      stands = record {
        vcpus = vcpus.quiet e k.log.past refl st.vcpus;
        callers = moves.judged t c i held j spans (taken_stand k c r) r.actor_is (still_idle k c r none) has planned;
        mapping = mapping.quiet e k.log.past refl st.mapping;
        state = state.quiet e k.log.past refl st.state;
      };
      past_is = refl;
      orders = refl;
      turns = refl;
    })
    judges (owed.row_judged k.setup c i j spans k.log.past planned) refl refl tt

-- whether it may be judged, or waits for a lock

pub may_judge : (k : Core) (c : ℕ) (i : Ioctl) (needed : LockSet) → IsReady k (Caller c) → (caller_at k.callers c).call ≡ None → next_command (orders_of k) (Caller c) k.log.past ≡ Some (CallCommand i) → HasItsLocks needed i (flat k.log.past) → ((other : ℕ) → is_holder k.callers c needed other ≡ false) → Judges (orders_of k) c i k.log.past
may_judge k c i needed r none command has free = waits.may_judge (orders_of k) c i needed r.settled.stands.callers r.actor_is none command has free
