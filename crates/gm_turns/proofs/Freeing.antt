-- A fault that is tried again, and frees the folio whose last hold ends.
use Rattle.std.proofs.Common.{◌≡◌, ℕ, ◌+◌, ◌<◌, ◌&&◌, ◌||◌, ◌⊎◌, List, [], ◌∷◌, ◌++◌, Bool, true, false, not, suc, Some, None, arith, refl, ap, cond, eqb, eqb-true, inl, inr, subst, sym, ◌∙◌}
use Rattle.std.proofs.lemmas.Bool.{and_parts, both_ways, cases_Bool}
use Rattle.gm_base.specs.declared.values.Actor.TheVariants.{Vcpu as OfVcpu}
use Rattle.gm_base.specs.declared.values.Folio.{Folio}
use Rattle.gm_callers.proofs.Stays as callers
use Rattle.gm_fault.specs.declared.ticket.Ticket.{Ticket}
use Rattle.gm_flat.specs.Effects.{free_one, free_run}
use Rattle.gm_flat.specs.FlatState.{FolioState, is_live, was_added}
use Rattle.gm_flat.specs.Histories.{before_turn, newest_turn}
use Rattle.gm_flat.specs.Replay.{flat}
use Rattle.gm_flat.specs.RightLives.{FreeIsRight, IsHeld, IsPlaced, frame_of}
use Rattle.gm_flat.specs.declared.effect.Backing.{Backing}
use Rattle.gm_flat.specs.declared.effect.Backing.TheVariants.{User as InUser, Folio as InFolio}
use Rattle.gm_flat.specs.declared.entry.Entry.{Entry}
use Rattle.gm_flat.specs.declared.entry.What.{What}
use Rattle.gm_flat.specs.declared.entry.What.TheVariants.{Free, Retry}
use Rattle.gm_flat.specs.declared.views.Looked.{Looked}
use Rattle.gm_flat.specs.declared.views.Sampled.{Sampled}
use Rattle.gm_laws.proofs.Kit.{by}
use Rattle.gm_laws.proofs.TurnsKeep.{new_turn}
use Rattle.gm_laws.specs.Ruled.{AllFreed, IsUsed}
use Rattle.gm_mapping.proofs.Lists.{self}
use Rattle.gm_mapping.proofs.Quiet as mapping
use Rattle.gm_state.proofs.Alike.{alike}
use Rattle.gm_state.specs.Holding.{freed_by}
use Rattle.gm_state.specs.Stand.{Memory, StateIs}
use Rattle.gm_state.specs.Views.{StateView}
use Rattle.gm_store.proofs.Caches.{cached_has}
use Rattle.gm_store.proofs.Folios.{frame_gone, live_frame}
use Rattle.gm_store.specs.Frees.{freed_one, hold_dropped, is_last_hold}
use Rattle.gm_store.specs.Stored.{Stored, has_triple, held_less}
use Rattle.gm_turns.proofs.Freed.{before_one}
use Rattle.gm_turns.proofs.Installing.{StateAfter}
use Rattle.gm_turns.proofs.Letting.{one_less, swapped}
use Rattle.gm_turns.proofs.OneTurn.{turn_by}
use Rattle.gm_turns.proofs.Retrying.{frame_at, let_go_core, stale_by}
use Rattle.gm_turns.specs.Faulting.{IsStale}
use Rattle.gm_turns.specs.Ready.{IsReady, Turned, noted}
use Rattle.gm_turns.specs.Room.{orders_of}
use Rattle.gm_turns.specs.Standing.{StateStands, memory_of, stored_of}
use Rattle.gm_turns.specs.declared.parts.Core.{Core}
use Rattle.gm_vcpus.proofs.Allowed.{AtGet, may_retry_stale}
use Rattle.gm_vcpus.proofs.Holders.{count_held, held_count, holds_quiet, holds_retry, none_held}
use Rattle.gm_vcpus.proofs.Moves as moves
use Rattle.gm_vcpus.proofs.Stays as vcpus
use Rattle.gm_vcpus.specs.Holds.{holds_of}
use Rattle.gm_vcpus.specs.Vcpus.{vcpu_at}

-- what is freed is the backing's folio, by its last hold
freed_at : (t : Bool) (x y : Folio) → cond t (Some x) None ≡ Some y → (t ≡ true) × (x ≡ y)
freed_at true x y e = (refl, cc)
freed_at false x y e = absurd (cc)

pub record IsLast (b : Backing) (folio : Folio) (k : Stored) : Type 0 where
  pub backing_is : b ≡ InFolio folio
  pub last : is_last_hold folio.serial k ≡ true

pub freed_is : (b : Backing) (folio : Folio) (k : Stored) → freed_by b k ≡ Some folio → IsLast b folio k
freed_is (InUser page) folio k e = absurd (cc)
freed_is (InFolio x) folio k e =
    let p = freed_at (is_last_hold x.serial k) x folio e in
    record { backing_is = ap (λ (y : Folio). InFolio y) p.1; last = subst (λ (y : Folio). is_last_hold y.serial k ≡ true) p.1 p.0 }

-- one folio is freed
added_one : (s r : ℕ) (xs : List FolioState) → frame_of s xs ≡ Some r → was_added s xs ≡ true
added_one s r [] e = absurd (cc)
added_one s r (x ∷ xs) e = go (eqb x.folio.serial s) e (added_one s r xs)
  where
    go : (t : Bool) → cond t (cond x.live (Some x.folio.frame) None) (frame_of s xs) ≡ Some r → (frame_of s xs ≡ Some r → was_added s xs ≡ true) → (t || was_added s xs) ≡ true
    go true e ih = refl
    go false e ih = ih e

free_run_one : (s r : ℕ) (xs : List FolioState) → frame_of s xs ≡ Some r → free_run 1 s xs ≡ free_one s xs
free_run_one s r xs e =
    let z : s + 0 ≡ s = omega arith in
    let a : was_added (s + 0) xs ≡ true = ap (λ (n : ℕ). was_added n xs) z ∙ added_one s r xs e in
    run_if (was_added (s + 0) xs) a ∙ ap (λ (n : ℕ). free_one n xs) z
  where
    run_if : (t : Bool) → t ≡ true → cond (t && true) (free_one (s + 0) xs) xs ≡ free_one (s + 0) xs
    run_if true e = refl
    run_if false e = absurd (cc)

gone_one : (s : ℕ) (xs : List FolioState) → is_live s (free_one s xs) ≡ false
gone_one s xs = elim (cases_Bool (is_live s (free_one s xs))) [
  | inl t ↦ let l = live_frame s (free_one s xs) t in absurd (frame_gone s l.0 xs l.1)
  | inr f ↦ f
]

-- the two entries
abbrev retried : Core → ℕ → Entry
retried k v = by (k.turns + 1) (OfVcpu v) Retry

abbrev freed : Core → ℕ → Folio → Entry
freed k v folio = by (k.turns + 1) (OfVcpu v) (Free folio 1)

-- what is known of the fault
record LastHold (k : Core) (v : ℕ) (folio : Folio) : Type 0 where
  pub ticket : Ticket
  pub sampled : Sampled
  pub looked : Looked
  pub here : AtGet k.setup k.vcpus k.log.past v ticket sampled looked (InFolio folio)
  pub frame : frame_of folio.serial (flat k.log.past).folios ≡ Some folio.frame
  pub one : holds_of k.setup.vcpus folio.serial k.log.past ≡ 1
  pub unmarked : has_triple folio.serial (flat k.log.past).cache ≡ false

last_hold : (k : Core) (v : ℕ) (folio : Folio) → IsReady k (OfVcpu v) → IsStale (vcpu_at k.vcpus v).fault (InFolio folio) k.mmu.progress → is_last_hold folio.serial (stored_of k.setup k.log.past) ≡ true → LastHold k v folio
last_hold k v folio r h last =
    let f = (stale_by k v (vcpu_at k.vcpus v).fault (InFolio folio) r refl h).having in
    let p = and_parts (eqb (holds_of k.setup.vcpus folio.serial k.log.past) 1) (not (has_triple folio.serial (flat k.log.past).cache)) last in
    record {
      ticket = f.ticket;
      sampled = f.sampled;
      looked = f.looked;
      here = f.here;
      frame = frame_at k v (InFolio folio) f.ticket f.sampled f.looked r f.here;
      one = eqb-true (holds_of k.setup.vcpus folio.serial k.log.past) 1 p.0;
      unmarked = is_false (has_triple folio.serial (flat k.log.past).cache) p.1;
    }
  where
    is_false : (t : Bool) → not t ≡ true → t ≡ false
    is_false true e = absurd (cc)
    is_false false e = refl

none_after : (k : Core) (v : ℕ) (folio : Folio) → LastHold k v folio → holds_of k.setup.vcpus folio.serial (retried k v ∷ k.log.past) ≡ 0
none_after k v folio l =
    zero_left (eqb folio.serial folio.serial) (holds_of k.setup.vcpus folio.serial (retried k v ∷ k.log.past)) (holds_of k.setup.vcpus folio.serial k.log.past) (self folio.serial) l.one
    (holds_retry k.setup k.vcpus k.log.past folio.serial (k.turns + 1) v l.ticket l.sampled l.looked (InFolio folio) l.here)
  where
    zero_left : (t : Bool) (x y : ℕ) → t ≡ true → y ≡ 1 → cond t (suc x) x ≡ y → x ≡ 0
    zero_left true x y e one h = omega arith
    zero_left false x y e one h = absurd (cc)

-- the free is right
free_right : (k : Core) (v : ℕ) (folio : Folio) → IsReady k (OfVcpu v) → LastHold k v folio → FreeIsRight folio 1 (retried k v ∷ k.log.past)
free_right k v folio r l =
    let past : List Entry = k.log.past in
    let new = new_turn (k.turns + 1) (OfVcpu v) Retry past r.settled.new_turn in
    let turn : newest_turn (retried k v ∷ past) ≡ Retry ∷ [] = ap (λ (t : Bool). cond t (newest_turn past ++ Retry ∷ []) (Retry ∷ [])) new in
    record {
      some = omega arith;
      live = λ q lt. let a : folio.serial + q ≡ folio.serial = omega arith in let b : folio.frame ≡ folio.frame + q = omega arith in ap (λ (n : ℕ). frame_of n (flat past).folios) a ∙ (l.frame ∙ ap (λ (n : ℕ). Some n) b);
      not_cached = λ q lt c. let a : folio.serial + q ≡ folio.serial = omega arith in both_ways (has_triple folio.serial (flat past).cache) l.unmarked (subst (λ (n : ℕ). has_triple n (flat past).cache ≡ true) (c.4 ∙ a) (cached_has c.0 c.1 c.2 (flat past).cache c.3));
      not_held = λ q lt held. let a : folio.serial + q ≡ folio.serial = omega arith in none_held folio.serial (moves.retries (k.turns + 1) v r.settled.stands.vcpus r.actor_is) (none_after k v folio l) (subst (λ (n : ℕ). IsHeld n (retried k v ∷ past)) a held);
      placed = subst (λ (ws : List What). IsPlaced folio 1 ws (flat (before_turn (retried k v ∷ past))).cache) (sym turn) refl;
    }

-- nothing is left over
all_freed : (k : Core) (v : ℕ) (folio : Folio) → IsReady k (OfVcpu v) → LastHold k v folio → AllFreed (freed k v folio ∷ retried k v ∷ k.log.past)
all_freed k v folio r l loose serial used =
    let past : List Entry = k.log.past in
    let new = new_turn (k.turns + 1) (OfVcpu v) Retry past r.settled.new_turn in
    let before : before_turn (freed k v folio ∷ retried k v ∷ past) ≡ past =
    ap (λ (t : Bool). cond t (before_turn (retried k v ∷ past)) (retried k v ∷ past)) (self (k.turns + 1)) ∙ before_one (retried k v) past new in
    by_use (subst (IsUsed serial) before used)
  where
    still : eqb folio.serial serial ≡ false → 0 < holds_of k.setup.vcpus serial k.log.past → 0 < holds_of k.setup.vcpus serial (freed k v folio ∷ retried k v ∷ k.log.past)
    still n some =
        let q = holds_quiet k.setup.vcpus serial (freed k v folio) (retried k v ∷ k.log.past) refl in
        let e = same_count (eqb folio.serial serial) (holds_of k.setup.vcpus serial (retried k v ∷ k.log.past)) (holds_of k.setup.vcpus serial k.log.past) n (holds_retry k.setup k.vcpus k.log.past serial (k.turns + 1) v l.ticket l.sampled l.looked (InFolio folio) l.here) in
        subst (λ (x : ℕ). 0 < x) (sym (q ∙ e)) some
      where
        same_count : (t : Bool) (x y : ℕ) → t ≡ false → cond t (suc x) x ≡ y → x ≡ y
        same_count true x y e h = absurd (cc)
        same_count false x y e h = h

    by_use : IsUsed serial k.log.past → IsUsed serial (freed k v folio ∷ retried k v ∷ k.log.past) ⊎ (is_live serial (flat (freed k v folio ∷ retried k v ∷ k.log.past)).folios ≡ false)
    by_use (inl c) = inl (inl c)
    by_use (inr held) = elim (cases_Bool (eqb folio.serial serial)) [
      | inl y ↦ inr (subst (λ (n : ℕ). is_live n (free_run 1 folio.serial (flat k.log.past).folios) ≡ false) (eqb-true folio.serial serial y)
          (ap (is_live folio.serial) (free_run_one folio.serial folio.frame (flat k.log.past).folios l.frame) ∙ gone_one folio.serial (flat k.log.past).folios))
      | inr n ↦ inl (inr (count_held k.setup.vcpus serial (freed k v folio ∷ retried k v ∷ k.log.past) (still n (held_count serial r.settled.stands.vcpus held))))
    ]

-- the state after it
state_freed : (k : Core) (v : ℕ) (folio : Folio) (st : StateView) → IsReady k (OfVcpu v) → LastHold k v folio → is_last_hold folio.serial (stored_of k.setup k.log.past) ≡ true → StateAfter k (InFolio folio) st → StateStands k.setup st (freed k v folio ∷ retried k v ∷ k.log.past)
state_freed k v folio st r l last after =
    let past : List Entry = k.log.past in
    let m : Memory = memory_of k.setup past in
    let one : Memory = record m { stored = freed_one folio.serial (held_less folio.serial m.stored) } in
    let is : StateIs k.setup st one = subst (λ (t : Bool). StateIs k.setup st (record m { stored = hold_dropped t folio.serial m.stored })) last after.is in
    record {
      is = alike k.setup st one (memory_of k.setup (freed k v folio ∷ retried k v ∷ past)) (record {
        flat = ap (λ (xs : List FolioState). record (flat past) { folios = xs }) (free_run_one folio.serial folio.frame (flat past).folios l.frame);
        holds = λ serial. holds_quiet k.setup.vcpus serial (freed k v folio) (retried k v ∷ past) refl ∙
            one_less (eqb folio.serial serial) (eqb serial folio.serial) (holds_of k.setup.vcpus serial (retried k v ∷ past)) (holds_of k.setup.vcpus serial past) (swapped folio.serial serial)
            (holds_retry k.setup k.vcpus past serial (k.turns + 1) v l.ticket l.sampled l.looked (InFolio folio) l.here);
        words = λ serial word. refl;
        user_words = λ page word. refl;
      }) is;
      generation = let g = r.settled.stands.state.generation in let q = ap (λ x. x.generation) after.slots_are in omega arith;
    }

abbrev freed_core : Core → ℕ → Folio → StateView → Core
freed_core k v folio st = noted (noted (let_go_core k v st) (OfVcpu v) Retry) (OfVcpu v) (Free folio 1)

next_new : (n : ℕ) → n + 1 < n + 2
next_new n = omega arith

folio_turn : (k : Core) (v : ℕ) (folio : Folio) (st : StateView) → IsReady k (OfVcpu v) → IsStale (vcpu_at k.vcpus v).fault (InFolio folio) k.mmu.progress → is_last_hold folio.serial (stored_of k.setup k.log.past) ≡ true → StateAfter k (InFolio folio) st → Turned k (freed_core k v folio st) (OfVcpu v) false
folio_turn k v folio st r h last after =
    let stands = r.settled.stands in
    let past : List Entry = k.log.past in
    let e : Entry = retried k v in
    let d : Entry = freed k v folio in
    let f = (stale_by k v (vcpu_at k.vcpus v).fault (InFolio folio) r refl h).having in
    let l = last_hold k v folio r h last in
    turn_by k (freed_core k v folio st) (OfVcpu v) (Retry ∷ Free folio 1 ∷ []) false r
    (record {
      stands = record {
        vcpus = vcpus.quiet d (e ∷ past) refl (moves.retries (k.turns + 1) v stands.vcpus r.actor_is);
        callers = callers.quiet d (e ∷ past) refl (callers.quiet e past refl stands.callers);
        mapping = mapping.quiet d (e ∷ past) refl (mapping.quiet e past refl stands.mapping);
        state = state_freed k v folio st r l last after;
      };
      past_is = refl;
      orders = refl;
      turns = refl;
    })
    (record {
      each_may = (may_retry_stale (orders_of k) k.setup k.vcpus past v f.ticket f.sampled f.looked (InFolio folio) k.mmu.progress f.here stands.mapping.range_is stands.mapping.seq_is f.stale_is, (free_right k v folio r l, tt));
      row = refl;
      kick_is = refl;
      freed = all_freed k v folio r l;
      here = tt;
      next = next_new k.turns;
    })

pub free_turn : (k : Core) (v : ℕ) (b : Backing) (folio : Folio) (st : StateView) → IsReady k (OfVcpu v) → IsStale (vcpu_at k.vcpus v).fault b k.mmu.progress → freed_by b (stored_of k.setup k.log.past) ≡ Some folio → StateAfter k b st → Turned k (freed_core k v folio st) (OfVcpu v) false
free_turn k v b folio st r h is after =
    let p = freed_is b folio (stored_of k.setup k.log.past) is in
    folio_turn k v folio st r (subst (λ (c : Backing). IsStale (vcpu_at k.vcpus v).fault c k.mmu.progress) p.backing_is h) p.last (subst (λ (c : Backing). StateAfter k c st) p.backing_is after)
