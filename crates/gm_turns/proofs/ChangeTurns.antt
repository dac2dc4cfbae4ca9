-- The turn in which a bracket makes its change, and what nothing uses any more is freed.
use Rattle.std.proofs.Common.{◌≡◌, ℕ, ◌+◌, ◌<◌, ◌≤◌, ◌⊎◌, List, [], ◌∷◌, Bool, true, false, length, set, suc, Some, arith, subst, sym, ◌∙◌, ap, cond, inl, inr, refl}
use Rattle.gm_base.specs.Scripts.{Orders}
use Rattle.gm_base.specs.declared.values.Actor.TheVariants.{Caller}
use Rattle.gm_base.specs.declared.values.Folio.{Folio}
use Rattle.gm_base.specs.declared.values.Setup.{Setup}
use Rattle.gm_callers.proofs.BracketTurns as owed
use Rattle.gm_callers.proofs.Moves as moves
use Rattle.gm_callers.proofs.Stays as callers
use Rattle.gm_callers.specs.Callers.{caller_at, stepped}
use Rattle.gm_callers.specs.Stand.{CallersStand, IsAt}
use Rattle.gm_callers.specs.declared.caller.Caller.{Caller as OneCaller}
use Rattle.gm_calls.specs.declared.call.Step.TheVariants as step
use Rattle.gm_flat.specs.Effects.{are_added, free_each, free_one}
use Rattle.gm_flat.specs.FlatState.{Flat, FolioState, Triple}
use Rattle.gm_flat.specs.Histories.{same_turn}
use Rattle.gm_flat.specs.Replay.{flat}
use Rattle.gm_flat.specs.RightLives.{IsCached}
use Rattle.gm_flat.specs.RightOrder.{are_frees}
use Rattle.gm_flat.specs.declared.effect.Effect.{Effect}
use Rattle.gm_flat.specs.declared.entry.Entry.{Entry}
use Rattle.gm_flat.specs.declared.entry.What.{What}
use Rattle.gm_flat.specs.declared.entry.What.TheVariants.{Change, Free}
use Rattle.gm_laws.proofs.Kit.{by}
use Rattle.gm_laws.proofs.TurnsKeep.{new_turn}
use Rattle.gm_laws.specs.Turns.{EachMay, IsNewTurn, onto}
use Rattle.gm_mapping.proofs.Lists.{self}
use Rattle.gm_mapping.proofs.Quiet as mapping
use Rattle.gm_mapping.specs.Mapping.{MappingStands}
use Rattle.gm_mmu.specs.Served.{Serving}
use Rattle.gm_state.proofs.Alike.{alike}
use Rattle.gm_state.specs.Stand.{Applied, after_effect}
use Rattle.gm_state.specs.Views.{StateView}
use Rattle.gm_store.specs.Frees.{AllDue as AllDueIn, HasSerial, free_pairs}
use Rattle.gm_store.specs.Stored.{applied as stored_after}
use Rattle.gm_turns.proofs.DeadFolios.{all_added, nothing_left}
use Rattle.gm_turns.proofs.DueFolios.{AllDue, IsCovered, RunDue}
use Rattle.gm_turns.proofs.OneTurn.{turn_by}
use Rattle.gm_turns.proofs.RunFrees.{Freed, all_later, due_later, joined, more_due, one_due, runs_right}
use Rattle.gm_turns.specs.Ready.{HasNoLook, IsReady, Turned}
use Rattle.gm_turns.specs.Room.{orders_of}
use Rattle.gm_turns.specs.Runs.{continues, frees, one_more, run_of, runs, runs_from}
use Rattle.gm_turns.specs.Standing.{StateStands, memory_of, stored_of}
use Rattle.gm_turns.specs.declared.frees.Run.{Run}
use Rattle.gm_turns.specs.declared.parts.Core.{Core}
use Rattle.gm_vcpus.proofs.Holders.{count_held, holds_quiet, none_held}
use Rattle.gm_vcpus.proofs.Stays as vcpus
use Rattle.gm_vcpus.specs.Holds.{holds_of}
use Rattle.gm_vcpus.specs.Stand.{VcpusStand}
use Rattle.gm_vcpus.specs.declared.vcpu.Vcpu.{Vcpu}

-- frees move no group but the state

vcpus_over : {s : Setup} {vs : List Vcpu} (t c : ℕ) (rs : List Run) (past : List Entry) → VcpusStand s vs past → VcpusStand s vs (onto t (Caller c) (frees rs) past)
vcpus_over t c [] past h = h
vcpus_over t c (r ∷ rs) past h = vcpus_over t c rs (by t (Caller c) (Free r.folio r.pages) ∷ past) (vcpus.quiet (by t (Caller c) (Free r.folio r.pages)) past refl h)

callers_over : {s : Setup} {cs : List OneCaller} (t c : ℕ) (rs : List Run) (past : List Entry) → CallersStand s cs past → CallersStand s cs (onto t (Caller c) (frees rs) past)
callers_over t c [] past h = h
callers_over t c (r ∷ rs) past h = callers_over t c rs (by t (Caller c) (Free r.folio r.pages) ∷ past) (callers.quiet (by t (Caller c) (Free r.folio r.pages)) past refl h)

mapping_over : {s : Setup} {m : Serving} (t c : ℕ) (rs : List Run) (past : List Entry) → MappingStands s m past → MappingStands s m (onto t (Caller c) (frees rs) past)
mapping_over t c [] past h = h
mapping_over t c (r ∷ rs) past h = mapping_over t c rs (by t (Caller c) (Free r.folio r.pages) ∷ past) (mapping.quiet (by t (Caller c) (Free r.folio r.pages)) past refl h)

-- what frees leave of the rest of the state
record Over (s : Setup) (old new : List Entry) : Type 0 where
  holds : (serial : ℕ) → holds_of s.vcpus serial new ≡ holds_of s.vcpus serial old
  words : (serial word : ℕ) → (stored_of s new).words serial word ≡ (stored_of s old).words serial word
  user_words : (page word : ℕ) → (memory_of s new).user_words page word ≡ (memory_of s old).user_words page word
  longer : length old ≤ length new

over : (s : Setup) (t c : ℕ) (rs : List Run) (past : List Entry) → Over s past (onto t (Caller c) (frees rs) past)
over s t c [] past = record { holds = λ serial. refl; words = λ serial word. refl; user_words = λ page word. refl; longer = omega arith }
over s t c (r ∷ rs) past =
    let e = by t (Caller c) (Free r.folio r.pages) in
    let o = over s t c rs (e ∷ past) in
    record {
      holds = λ serial. o.holds serial ∙ holds_quiet s.vcpus serial e past refl;
      words = o.words;
      user_words = o.user_words;
      longer = let l = o.longer in omega arith;
    }

-- runs freed one after another are their folios freed one after another

abbrev with_folios : List FolioState → Flat → Flat
with_folios xs f = record f { folios = xs }

run_freed : (t c : ℕ) (cache : List Triple) (past : List Entry) (r : Run) → RunDue cache past r → flat (by t (Caller c) (Free r.folio r.pages) ∷ past) ≡ with_folios (free_each r.pages r.folio.serial (flat past).folios) (flat past)
run_freed t c cache past r d =
    let a : are_added r.pages r.folio.serial (flat past).folios ≡ true = all_added r.pages r.folio.serial (λ k. r.folio.frame + k) (flat past).folios (λ k l. (d.each k l).live) in
    rw a refl

one_freed : (n k : ℕ) (xs : List FolioState) (j : ℕ) → j ≡ k + n → free_each (n + 1) k xs ≡ free_one j (free_each n k xs)
one_freed n k xs j e = subst (λ (m : ℕ). free_each m k xs ≡ free_one j (free_each n k xs)) (next n) (ap (λ (m : ℕ). free_one m (free_each n k xs)) (sym e))
  where
    next : (n : ℕ) → suc n ≡ n + 1
    next n = omega arith

first_freed : (k : ℕ) (xs : List FolioState) → free_each 1 k xs ≡ free_one k xs
first_freed k xs = ap (λ (m : ℕ). free_one m xs) (none k)
  where
    none : (k : ℕ) → k + 0 ≡ k
    none k = omega arith

flat_runs : (t c : ℕ) (cache : List Triple) (past : List Entry) (r : Run) (ps : List (ℕ × Folio)) → RunDue cache past r → AllDue cache past (r.index + r.pages) ps → flat (onto t (Caller c) (frees (runs_from r ps)) past) ≡ with_folios (free_pairs ps (free_each r.pages r.folio.serial (flat past).folios)) (flat past)
flat_runs t c cache past r [] d due = run_freed t c cache past r d
flat_runs t c cache past r (p ∷ ps) d due =
    go (continues r p) refl
    (λ e.
    let j = joined r p e in
    flat_runs t c cache past (one_more r) ps (more_due cache past r p d j.0 j.1 j.2 due.1) (subst (λ (n : ℕ). AllDue cache past n ps) (ap (λ (n : ℕ). n + 1) j.0 ∙ shift r.index r.pages) due.2)
    ∙ ap (λ (xs : List FolioState). with_folios (free_pairs ps xs) (flat past)) (one_freed r.pages r.folio.serial (flat past).folios p.1.serial j.1))
    (λ e.
    let le = due.0 in
    let next = by t (Caller c) (Free r.folio r.pages) ∷ past in
    flat_runs t c cache next (run_of p) ps
    (one_due cache next p (due_later t c cache past r p.0 p.1.serial p.1.frame d le due.1))
    (all_later t c cache past r (p.0 + 1) ps d (omega arith) due.2)
    ∙ (ap (λ (f : Flat). with_folios (free_pairs ps (free_each 1 p.1.serial f.folios)) f) (run_freed t c cache past r d)
    ∙ ap (λ (xs : List FolioState). with_folios (free_pairs ps xs) (flat past)) (first_freed p.1.serial (free_each r.pages r.folio.serial (flat past).folios))))
  where
    shift : (a b : ℕ) → (a + b) + 1 ≡ a + (b + 1)
    shift a b = omega arith

    go : (b : Bool) → continues r p ≡ b → (continues r p ≡ true → flat (onto t (Caller c) (frees (runs_from (one_more r) ps)) past) ≡ with_folios (free_pairs (p ∷ ps) (free_each r.pages r.folio.serial (flat past).folios)) (flat past)) → (continues r p ≡ false → flat (onto t (Caller c) (frees (runs_from (run_of p) ps)) (by t (Caller c) (Free r.folio r.pages) ∷ past)) ≡ with_folios (free_pairs (p ∷ ps) (free_each r.pages r.folio.serial (flat past).folios)) (flat past)) → flat (onto t (Caller c) (frees (cond b (runs_from (one_more r) ps) (r ∷ runs_from (run_of p) ps))) past) ≡ with_folios (free_pairs (p ∷ ps) (free_each r.pages r.folio.serial (flat past).folios)) (flat past)
    go true e x y = x e
    go false e x y = y e

flat_all : (t c : ℕ) (cache : List Triple) (past : List Entry) (ps : List (ℕ × Folio)) → AllDue cache past 0 ps → flat (onto t (Caller c) (frees (runs ps)) past) ≡ with_folios (free_pairs ps (flat past).folios) (flat past)
flat_all t c cache past [] due = refl
flat_all t c cache past (p ∷ ps) due =
    flat_runs t c cache past (run_of p) ps (one_due cache past p due.1) due.2
    ∙ ap (λ (xs : List FolioState). with_folios (free_pairs ps xs) (flat past)) (first_freed p.1.serial (flat past).folios)

-- what is due after the change is due by the history

due_now : {s : Setup} {vs : List Vcpu} (t c : ℕ) (effect : Effect) (past : List Entry) (cache : List Triple) (lo : ℕ) (ps : List (ℕ × Folio)) → VcpusStand s vs (by t (Caller c) (Change effect) ∷ past) → AllDueIn cache (stored_after effect (stored_of s past)) lo ps → AllDue cache (by t (Caller c) (Change effect) ∷ past) lo ps
due_now t c effect past cache lo [] st d = tt
due_now {s = s} t c effect past cache lo (p ∷ ps) st d =
    let e = by t (Caller c) (Change effect) in (
      d.0,
      record {
        at = d.1.at;
        live = d.1.live;
        not_cached = d.1.not_cached;
        not_held = none_held p.1.serial st (holds_quiet s.vcpus p.1.serial e past refl ∙ d.1.not_held);
      },
      due_now t c effect past cache (p.0 + 1) ps st d.2,
    )

covered_now : (s : Setup) (t c : ℕ) (effect : Effect) (past : List Entry) (ps : List (ℕ × Folio)) → ((serial : ℕ) → IsCached serial (flat past) → IsCached serial (flat (by t (Caller c) (Change effect) ∷ past)) ⊎ ((0 < holds_of s.vcpus serial past) ⊎ HasSerial serial ps)) → IsCovered past (by t (Caller c) (Change effect) ∷ past) ps
covered_now s t c effect past ps h serial (inl cached) = elim (h serial cached) [
  | inl y ↦ inl (inl y)
  | inr z ↦ elim z [ inl held ↦ inl (inr (count_held s.vcpus serial past held)) | inr one ↦ inr one ]
]
covered_now s t c effect past ps h serial (inr held) = inl (inr held)

-- the state after the change and the frees

freed_stands : {s : Setup} {vs : List Vcpu} (t c : ℕ) (effect : Effect) (old new : StateView) (past : List Entry) → VcpusStand s vs (by t (Caller c) (Change effect) ∷ past) → StateStands s old past → Applied s (memory_of s past) effect new → new.slots.generation ≤ old.slots.generation + 1 → StateStands s new (onto t (Caller c) (frees (runs new.freed.list)) (by t (Caller c) (Change effect) ∷ past))
freed_stands {s = s} t c effect old new past st h a g =
    let e = by t (Caller c) (Change effect) in
    let ps = new.freed.list in
    let all = onto t (Caller c) (frees (runs ps)) (e ∷ past) in
    let o = over s t c (runs ps) (e ∷ past) in
    record {
      is = alike s new (after_effect effect ps (memory_of s past)) (memory_of s all) (record {
        flat = flat_all t c (flat past).cache (e ∷ past) ps (due_now t c effect past (flat past).cache 0 ps st a.frees.due);
        holds = λ serial. o.holds serial ∙ holds_quiet s.vcpus serial e past refl;
        words = o.words;
        user_words = o.user_words;
      }) a.is;
      generation = let l = o.longer in let x = h.generation in omega arith;
    }

-- what the turn owes

all_frees : (rs : List Run) → are_frees (frees rs) ≡ true
all_frees [] = refl
all_frees (r ∷ rs) = all_frees rs

no_look : (rs : List Run) → HasNoLook (frees rs)
no_look [] = tt
no_look (r ∷ rs) = no_look rs

newest_before : (t c : ℕ) (ws : List What) (w : What) (past : List Entry) → IsNewTurn (t + 1) (onto t (Caller c) ws (by t (Caller c) w ∷ past))
newest_before t c [] w past = omega arith
newest_before t c (v ∷ ws) w past = newest_before t c ws v (by t (Caller c) w ∷ past)

first_of : (t c : ℕ) (effect : Effect) (before : List Entry) → IsNewTurn t before → Freed t c effect (flat before).cache [] (by t (Caller c) (Change effect) ∷ before)
first_of t c effect before new =
    let n : same_turn (by t (Caller c) (Change effect)) before ≡ false = new_turn t (Caller c) (Change effect) before new in
    record { same = λ w. self t; entries = rw n refl; cache_is = rw n refl }

each_may : (o : Orders) (t c : ℕ) (effect : Effect) (past : List Entry) (ps : List (ℕ × Folio)) → IsNewTurn t past → AllDue (flat past).cache (by t (Caller c) (Change effect) ∷ past) 0 ps → EachMay o t (Caller c) (frees (runs ps)) (by t (Caller c) (Change effect) ∷ past)
each_may o t c effect past [] new due = tt
each_may o t c effect past (p ∷ ps) new due =
    let first = by t (Caller c) (Change effect) ∷ past in
    runs_right o t c effect (flat past).cache [] first (run_of p) ps (first_of t c effect past new) (one_due (flat past).cache first p due.1) tt due.2

-- the core after it, but for what is spare
abbrev pub changed_core : Core → ℕ → Effect → StateView → ℕ → Core
changed_core k c effect new spare = record k { callers = set k.callers c (stepped (caller_at k.callers c) step.Change); state = new; log = record { past = onto (k.turns + 1) (Caller c) (Change effect ∷ frees (runs new.freed.list)) k.log.past; spare = spare } }

next_new : (t : ℕ) → t + 1 + 1 ≡ t + 2
next_new t = omega arith

pub change_turn : (k : Core) (c : ℕ) (effect : Effect) (new : StateView) (spare : ℕ) → IsReady k (Caller c) → IsAt effect (Some step.Acked) (caller_at k.callers c).call → Applied k.setup (memory_of k.setup k.log.past) effect new → new.slots.generation ≤ k.state.slots.generation + 1 → Turned k (changed_core k c effect new spare) (Caller c) false
change_turn k c effect new spare r at a g =
    let st = r.settled.stands in
    let t = k.turns + 1 in
    let past = k.log.past in
    let ps = new.freed.list in
    let rs = runs ps in
    let e = by t (Caller c) (Change effect) in
    let unmarked = owed.unmarked c effect st.callers r.actor_is at in
    let vs = vcpus.quiet e past refl st.vcpus in
    let due = due_now t c effect past (flat past).cache 0 ps vs a.frees.due in
    turn_by k (changed_core k c effect new spare) (Caller c) (Change effect ∷ frees rs) false r
    (record {
      stands = record {
        vcpus = vcpus_over t c rs (e ∷ past) vs;
        callers = callers_over t c rs (e ∷ past) (moves.changed t c effect effect st.callers r.actor_is at unmarked);
        mapping = mapping_over t c rs (e ∷ past) (mapping.quiet e past refl st.mapping);
        state = freed_stands t c effect k.state new past vs st.state a g;
      };
      past_is = refl;
      orders = refl;
      turns = refl;
    })
    (record {
      each_may = (owed.may_change (orders_of k) c effect st.callers r.actor_is at, each_may (orders_of k) t c effect past ps r.settled.new_turn due);
      row = owed.row_change k.setup c effect (frees rs) past unmarked (all_frees rs);
      kick_is = refl;
      freed = nothing_left t c effect past ps r.settled.new_turn due (covered_now k.setup t c effect past ps a.frees.covered);
      here = no_look rs;
      next = subst (λ (n : ℕ). IsNewTurn n (onto t (Caller c) (Change effect ∷ frees rs) past)) (next_new k.turns) (newest_before t c (frees rs) (Change effect) past);
    })
