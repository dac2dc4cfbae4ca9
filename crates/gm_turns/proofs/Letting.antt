-- What the end of a hold leaves of the state.
use Rattle.std.proofs.Common.{◌≡◌, ℕ, ◌-◌, ◌<◌, List, ◌∷◌, Bool, true, false, suc, Some, None, arith, refl, ap, cond, eqb, subst, sym}
use Rattle.std.proofs.lemmas.Bool.Decides.{nat_tests}
use Rattle.gm_base.specs.declared.values.Folio.{Folio}
use Rattle.gm_base.specs.declared.values.Setup.{Setup}
use Rattle.gm_flat.specs.Replay.{flat}
use Rattle.gm_flat.specs.RightLives.{FaultHolds, IsOfFolio}
use Rattle.gm_flat.specs.Words.{folio_word, user_word}
use Rattle.gm_flat.specs.declared.effect.Backing.{Backing}
use Rattle.gm_flat.specs.declared.effect.Backing.TheVariants.{User as InUser, Folio as InFolio}
use Rattle.gm_flat.specs.declared.entry.Entry.{Entry}
use Rattle.gm_laws.specs.TouchFrames.{HasItsFrame}
use Rattle.gm_state.proofs.Alike.{SameMemory, alike}
use Rattle.gm_state.proofs.Storing.{pool_live}
use Rattle.gm_state.specs.Holding.{IsReleasable, freed_by, released}
use Rattle.gm_state.specs.Stand.{Memory, StateIs}
use Rattle.gm_state.specs.Views.{StateView}
use Rattle.gm_store.specs.Frees.{hold_dropped, is_last_hold}
use Rattle.gm_store.specs.Stored.{held_less}
use Rattle.gm_turns.specs.Standing.{StateStands, memory_of, stored_of}
use Rattle.gm_vcpus.proofs.Allowed.{AtGet}
use Rattle.gm_vcpus.proofs.Flights.{flight}
use Rattle.gm_vcpus.proofs.Holders.{held_count}
use Rattle.gm_vcpus.specs.Holds.{holds_of, is_of_folio, one_more}
use Rattle.gm_vcpus.specs.declared.stage.Stage.TheVariants as at
use Rattle.gm_vcpus.specs.declared.vcpu.Vcpu.{Vcpu}
use Rattle.gm_fault.specs.declared.ticket.Ticket.{Ticket}
use Rattle.gm_flat.specs.declared.views.Looked.{Looked}
use Rattle.gm_flat.specs.declared.views.Sampled.{Sampled}

-- one hold less of a backing, of which no folio is freed
abbrev pub less_held : Backing → Memory → Memory
less_held (InUser page) m = m
less_held (InFolio folio) m = record m { stored = held_less folio.serial m.stored }

kept_by : (t : Bool) (folio : Folio) (m : Memory) → cond t (Some folio) None ≡ None → record m { stored = hold_dropped t folio.serial m.stored } ≡ record m { stored = held_less folio.serial m.stored }
kept_by true folio m e = absurd (cc)
kept_by false folio m e = refl

pub kept : (b : Backing) (m : Memory) → freed_by b m.stored ≡ None → released b m ≡ less_held b m
kept (InUser page) m e = refl
kept (InFolio folio) m e = kept_by (is_last_hold folio.serial m.stored) folio m e

pub one_less : (t u : Bool) (x y : ℕ) → t ≡ u → cond t (suc x) x ≡ y → x ≡ cond u (y - 1) y
one_less true true x y e h = omega arith
one_less false false x y e h = h
one_less true false x y e h = absurd (cc)
one_less false true x y e h = absurd (cc)

pub swapped : (a b : ℕ) → eqb a b ≡ eqb b a
swapped a b = grind (arith, nat_tests)

-- an entry that moves neither the flat state nor words, and ends the hold of a backing
pub record EndsHold (s : Setup) (b : Backing) (e : Entry) (past : List Entry) : Type 0 where
  pub flat_is : flat (e ∷ past) ≡ flat past
  pub words_are : (serial word : ℕ) → folio_word serial word (e ∷ past) ≡ folio_word serial word past
  pub user_are : (page word : ℕ) → user_word page word (e ∷ past) ≡ user_word page word past
  pub holds_are : (serial : ℕ) → one_more (is_of_folio serial b) (holds_of s.vcpus serial (e ∷ past)) ≡ holds_of s.vcpus serial past

less_same : (s : Setup) (b : Backing) (e : Entry) (past : List Entry) → EndsHold s b e past → SameMemory (less_held b (memory_of s past)) (memory_of s (e ∷ past))
less_same s (InUser page) e past h = record { flat = h.flat_is; holds = h.holds_are; words = h.words_are; user_words = h.user_are }
less_same s (InFolio folio) e past h = record {
  flat = h.flat_is;
  holds = λ serial. one_less (eqb folio.serial serial) (eqb serial folio.serial) (holds_of s.vcpus serial (e ∷ past)) (holds_of s.vcpus serial past) (swapped folio.serial serial) (h.holds_are serial);
  words = h.words_are;
  user_words = h.user_are;
}

-- the state after it, where no folio is freed
pub state_less : (s : Setup) (old new : StateView) (b : Backing) (e : Entry) (past : List Entry) → EndsHold s b e past → freed_by b (stored_of s past) ≡ None → StateStands s old past → new.slots ≡ old.slots → StateIs s new (released b (memory_of s past)) → StateStands s new (e ∷ past)
state_less s old new b e past h none tie same is = record {
  is = alike s new (less_held b (memory_of s past)) (memory_of s (e ∷ past)) (less_same s b e past h) (subst (StateIs s new) (kept b (memory_of s past) none) is);
  generation = let g = tie.generation in let q = ap (λ x. x.generation) same in omega arith;
}

-- a fault holds its folio
holds_its : (s : Setup) (vs : List Vcpu) (past : List Entry) (v : ℕ) (k : Ticket) (x : Sampled) (y : Looked) (folio : Folio) → AtGet s vs past v k x y (InFolio folio) → 0 < holds_of s.vcpus folio.serial past
holds_its s vs past v k x y folio h =
    let f = flight v k (at.Got x y (InFolio folio)) h.stand h.actor h.in_flight h.stage in
    held_count folio.serial h.stand (v, subst (FaultHolds folio.serial) (sym f.fault_is) (holds_by f.gotten.backing f.backing_is))
  where
    holds_by : (b : Backing) → b ≡ InFolio folio → IsOfFolio folio.serial b
    holds_by b e = subst (IsOfFolio folio.serial) (sym e) refl

-- so its hold may end
pub releasable : (s : Setup) (st : StateView) (vs : List Vcpu) (past : List Entry) (v : ℕ) (k : Ticket) (x : Sampled) (y : Looked) (b : Backing) → AtGet s vs past v k x y b → HasItsFrame b (flat past) → StateStands s st past → IsReleasable st.store.pool b
releasable s st vs past v k x y (InUser page) h frame tie = tt
releasable s st vs past v k x y (InFolio folio) h frame tie = pool_live s.frames st.store (stored_of s past) folio (λ usage. 0 < usage.holds) tie.is.store frame (λ u e. subst (λ (n : ℕ). 0 < n) (sym e) (holds_its s vs past v k x y folio h))
