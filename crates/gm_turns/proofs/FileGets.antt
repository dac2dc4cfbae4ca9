-- A fault that gets a folio of a file.
use Rattle.std.proofs.Common.{◌≡◌, ℕ, ◌+◌, ◌<◌, ◌≤◌, List, ◌∷◌, Bool, true, false, set, zero, suc, Some, None, arith, refl, ap, cond, eqb, ◌∙◌}
use Rattle.gm_base.specs.declared.values.Actor.TheVariants.{Vcpu as OfVcpu}
use Rattle.gm_base.specs.declared.values.Folio.{Folio}
use Rattle.gm_callers.proofs.Stays as callers
use Rattle.gm_fault.specs.declared.routes.Route.TheVariants as to
use Rattle.gm_flat.specs.FlatState.{cached, in_use}
use Rattle.gm_flat.specs.Histories.{fault}
use Rattle.gm_flat.specs.Replay.{flat}
use Rattle.gm_flat.specs.RightLives.{frame_of}
use Rattle.gm_flat.specs.RightLook.{IsFull}
use Rattle.gm_flat.specs.declared.effect.Backing.TheVariants.{Folio as InFolio}
use Rattle.gm_flat.specs.declared.effect.Exit.TheVariants.{NoFrame}
use Rattle.gm_flat.specs.declared.entry.Entry.{Entry}
use Rattle.gm_flat.specs.declared.entry.What.TheVariants.{Get, Left, Retry}
use Rattle.gm_laws.proofs.Frames.{cached_frames}
use Rattle.gm_laws.proofs.Kit.{by}
use Rattle.gm_laws.specs.May.{May}
use Rattle.gm_mapping.proofs.Quiet as mapping
use Rattle.gm_pool.specs.Pools.{IsLive}
use Rattle.gm_state.proofs.Alike.{alike}
use Rattle.gm_state.proofs.Storing.{pool_live}
use Rattle.gm_state.specs.Holding.{held}
use Rattle.gm_state.specs.Stand.{StateIs}
use Rattle.gm_state.specs.Views.{StateView}
use Rattle.gm_turns.proofs.FaultTurns.{going, looking_at}
use Rattle.gm_turns.proofs.Gets.{flat_got, words_got}
use Rattle.gm_turns.proofs.Letting.{swapped}
use Rattle.gm_turns.proofs.OneTurn.{one_entry}
use Rattle.gm_turns.specs.Faulting.{HasLooked, HasRoute}
use Rattle.gm_turns.specs.Ready.{IsReady, Turned, noted}
use Rattle.gm_turns.specs.Room.{orders_of}
use Rattle.gm_turns.specs.Standing.{memory_of, stored_of}
use Rattle.gm_turns.specs.declared.parts.Core.{Core}
use Rattle.gm_vcpus.proofs.Allowed.{may_get_cached, may_retry_shut, may_want_frame}
use Rattle.gm_vcpus.proofs.Holders.{holds_get}
use Rattle.gm_vcpus.proofs.Moves as moves
use Rattle.gm_vcpus.specs.Holds.{fault_holds, holds_of}
use Rattle.gm_vcpus.specs.Vcpus.{getting, vcpu_at}

-- no more faults hold a folio than there are vCPUs
pub holds_le : (n serial : ℕ) (past : List Entry) → holds_of n serial past ≤ n
holds_le zero serial past = omega arith
holds_le (suc n) serial past = step (fault_holds serial (fault n past)) (holds_of n serial past) n (holds_le n serial past)
  where
    step : (t : Bool) (x n : ℕ) → x ≤ n → cond t (suc x) x ≤ suc n
    step t x n h = grind arith

-- so one more may
pub may_hold : (k : Core) (v : ℕ) (folio : Folio) → IsReady k (OfVcpu v) → frame_of folio.serial (flat k.log.past).folios ≡ Some folio.frame → IsLive k.state.store.pool folio (λ usage. usage.holds < 4294967295)
may_hold k v folio r frame =
    let past : List Entry = k.log.past in
    let l = holds_le k.setup.vcpus folio.serial past in
    let m = r.settled.limits.vcpus in
    pool_live k.setup.frames k.state.store (stored_of k.setup past) folio (λ usage. usage.holds < 4294967295) r.settled.stands.state.is.store frame (λ u e. few u.holds (holds_of k.setup.vcpus folio.serial past) k.setup.vcpus e l m)
  where
    few : (u h n : ℕ) → u ≡ h → h ≤ n → n ≤ 64 → u < 4294967295
    few u h n e l m = omega arith

pub one_held : (t u : Bool) (x : ℕ) → t ≡ u → cond t (suc x) x ≡ cond u (x + 1) x
one_held true true x e = omega arith
one_held false false x e = refl
one_held true false x e = absurd (cc)
one_held false true x e = absurd (cc)

-- the core after a folio that is cached is got
abbrev got_core : Core → ℕ → Folio → StateView → Core
got_core k v folio st = record k { state = st; vcpus = set k.vcpus v (getting (vcpu_at k.vcpus v) (InFolio folio)) }

pub record StateHeld (k : Core) (folio : Folio) (st : StateView) : Type 0 where
  pub slots_are : st.slots ≡ k.state.slots
  pub is : StateIs k.setup st (held folio.serial (memory_of k.setup k.log.past))

pub cached_turn : (k : Core) (v : ℕ) (folio : Folio) (st : StateView) → IsReady k (OfVcpu v) → HasLooked (vcpu_at k.vcpus v).fault → May (orders_of k) (Get (InFolio folio) 0) (OfVcpu v) k.log.past → StateHeld k folio st → Turned k (noted (got_core k v folio st) (OfVcpu v) (Get (InFolio folio) 0)) (OfVcpu v) false
cached_turn k v folio st r h may after =
    let stands = r.settled.stands in
    let past : List Entry = k.log.past in
    let f = looking_at k v (vcpu_at k.vcpus v).fault r refl h in
    let e : Entry = by (k.turns + 1) (OfVcpu v) (Get (InFolio folio) 0) in
    let more : (serial : ℕ) → holds_of k.setup.vcpus serial (e ∷ past) ≡ (held folio.serial (memory_of k.setup past)).stored.holds serial =
    λ serial. holds_get k.setup k.vcpus past serial (k.turns + 1) v f.ticket f.sampled f.looked (InFolio folio) 0 f.here ∙ one_held (eqb folio.serial serial) (eqb serial folio.serial) (holds_of k.setup.vcpus serial past) (swapped folio.serial serial) in
    one_entry k (noted (got_core k v folio st) (OfVcpu v) (Get (InFolio folio) 0)) (OfVcpu v) (Get (InFolio folio) 0) false r
    (record {
      stands = record {
        vcpus = moves.gets (k.turns + 1) v f.ticket f.sampled f.looked (InFolio folio) 0 stands.vcpus r.actor_is f.here.in_flight f.here.stage;
        callers = callers.quiet e past refl stands.callers;
        mapping = mapping.quiet e past refl stands.mapping;
        state = record {
          is = alike k.setup st (held folio.serial (memory_of k.setup past)) (memory_of k.setup (e ∷ past)) (record { flat = flat_got (k.turns + 1) v (InFolio folio) past; holds = more; words = words_got (k.turns + 1) v (InFolio folio) past; user_words = λ page word. refl }) after.is;
          generation = let g = stands.state.generation in let q = ap (λ x. x.generation) after.slots_are in omega arith;
        };
      };
      past_is = refl;
      orders = refl;
      turns = refl;
    })
    may refl refl refl tt

-- what a route to a file allows
pub may_again : (k : Core) (v file index : ℕ) → IsReady k (OfVcpu v) → HasRoute (vcpu_at k.vcpus v).fault (to.File file index) → in_use file (flat k.log.past).files ≡ false → May (orders_of k) Retry (OfVcpu v) k.log.past
may_again k v file index r h shut =
    let f = going k v (vcpu_at k.vcpus v).fault (to.File file index) r refl h in
    may_retry_shut (orders_of k) k.setup k.vcpus k.log.past v f.ticket f.sampled f.looked file index f.here f.route_is shut

pub may_get : (k : Core) (v file index : ℕ) (folio : Folio) → IsReady k (OfVcpu v) → HasRoute (vcpu_at k.vcpus v).fault (to.File file index) → in_use file (flat k.log.past).files ≡ true → cached file index (flat k.log.past).cache ≡ Some folio → May (orders_of k) (Get (InFolio folio) 0) (OfVcpu v) k.log.past
may_get k v file index folio r h used here =
    let f = going k v (vcpu_at k.vcpus v).fault (to.File file index) r refl h in
    may_get_cached (orders_of k) k.setup k.vcpus k.log.past v f.ticket f.sampled f.looked file index folio f.here f.route_is used here

pub may_leave : (k : Core) (v file index : ℕ) → IsReady k (OfVcpu v) → HasRoute (vcpu_at k.vcpus v).fault (to.File file index) → in_use file (flat k.log.past).files ≡ true → cached file index (flat k.log.past).cache ≡ None → IsFull k.setup.frames (flat k.log.past).folios → May (orders_of k) (Left NoFrame) (OfVcpu v) k.log.past
may_leave k v file index r h used none full =
    let f = going k v (vcpu_at k.vcpus v).fault (to.File file index) r refl h in
    may_want_frame (orders_of k) k.setup k.vcpus k.log.past v f.ticket f.sampled f.looked file index f.here f.route_is used none full

-- the frame of a folio that is cached
pub frame_cached : (k : Core) (v file index : ℕ) (folio : Folio) → IsReady k (OfVcpu v) → cached file index (flat k.log.past).cache ≡ Some folio → frame_of folio.serial (flat k.log.past).folios ≡ Some folio.frame
frame_cached k v file index folio r e = cached_frames (orders_of k) k.log.past r.settled.ruled.follows file index folio e
