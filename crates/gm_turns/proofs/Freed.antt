-- A turn of one entry after which nothing is left over.
use Rattle.std.proofs.Common.{◌≡◌, ℕ, ◌+◌, ◌<◌, ◌⊎◌, List, [], ◌∷◌, Bool, true, false, cond, subst, sym, arith, inl, inr, ap}
use Rattle.gm_base.specs.declared.values.Actor.{Actor}
use Rattle.gm_base.specs.declared.values.Setup.{Setup}
use Rattle.gm_flat.specs.FlatState.{is_live}
use Rattle.gm_flat.specs.Histories.{before_turn, same_turn}
use Rattle.gm_flat.specs.Plays.{is_kick}
use Rattle.gm_flat.specs.Replay.{flat}
use Rattle.gm_flat.specs.RightLives.{IsCached}
use Rattle.gm_flat.specs.RightOrder.{is_row}
use Rattle.gm_flat.specs.declared.entry.Entry.{Entry}
use Rattle.gm_flat.specs.declared.entry.What.{What}
use Rattle.gm_laws.proofs.Kit.{by}
use Rattle.gm_laws.proofs.TurnsKeep.{new_turn}
use Rattle.gm_laws.specs.May.{May}
use Rattle.gm_laws.specs.Ruled.{IsUsed}
use Rattle.gm_turns.proofs.OneTurn.{After, turn_by}
use Rattle.gm_turns.specs.Ready.{IsHereAlone, IsReady, Turned}
use Rattle.gm_turns.specs.Room.{orders_of}
use Rattle.gm_turns.specs.declared.parts.Core.{Core}
use Rattle.gm_vcpus.proofs.Holders.{count_held, held_count}
use Rattle.gm_vcpus.specs.Holds.{holds_of}
use Rattle.gm_vcpus.specs.Stand.{VcpusStand}
use Rattle.gm_vcpus.specs.declared.vcpu.Vcpu.{Vcpu}

-- every folio that was used before the turn is used after it, or isn't live
abbrev pub NoneLeft : List Entry → List Entry → Type 0
NoneLeft before past = (serial : ℕ) → IsUsed serial before → IsUsed serial past ⊎ (is_live serial (flat past).folios ≡ false)

pub before_one : (e : Entry) (past : List Entry) → same_turn e past ≡ false → before_turn (e ∷ past) ≡ past
before_one e past h = ap (λ (t : Bool). cond t (before_turn past) past) h

next_new : (n : ℕ) → n + 1 < n + 2
next_new n = omega arith

-- one entry
pub freeing_entry : (k n : Core) (a : Actor) (w : What) → IsReady k a → After k n a (w ∷ []) → May (orders_of k) w a k.log.past → is_row k.setup a (w ∷ []) k.log.past ≡ true → is_kick (w ∷ []) ≡ false → NoneLeft k.log.past (by (k.turns + 1) a w ∷ k.log.past) → IsHereAlone (w ∷ []) k.log.past → Turned k n a false
freeing_entry k n a w r x may row kick_is none here =
    let f = new_turn (k.turns + 1) a w k.log.past r.settled.new_turn in
    turn_by k n a (w ∷ []) false r x (record {
      each_may = (may, tt);
      row = row;
      kick_is = kick_is;
      freed = λ l serial used. none serial (subst (IsUsed serial) (before_one (by (k.turns + 1) a w) k.log.past f) used);
      here = here;
      next = next_new k.turns;
    })

-- what is used is used after an entry that leaves the flat state and the holds as they were
pub still_used : {s : Setup} {vs : List Vcpu} (e : Entry) (past : List Entry) → VcpusStand s vs past → flat (e ∷ past) ≡ flat past → ((serial : ℕ) → holds_of s.vcpus serial (e ∷ past) ≡ holds_of s.vcpus serial past) → (serial : ℕ) → IsUsed serial past → IsUsed serial (e ∷ past)
still_used e past st same holds serial (inl cached) = inl (subst (IsCached serial) (sym same) cached)
still_used {s = s} e past st same holds serial (inr held) = inr (count_held s.vcpus serial (e ∷ past) (subst (λ (n : ℕ). 0 < n) (sym (holds serial)) (held_count serial st held)))
