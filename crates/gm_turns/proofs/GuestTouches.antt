-- What serves an access of a vCPU inside, and what a touch does.
use Rattle.std.proofs.Common.{◌≡◌, ℕ, ◌+◌, ◌-◌, ◌<◌, ◌≤◌, List, [], ◌∷◌, Bool, true, false, length, set, suc, Option, Some, None, arith, subst, sym, ◌∙◌, ap, refl, eqb, inl, inr, ◌⊎◌}
use Rattle.std.proofs.lemmas.Bool.{eqb-false}
use Rattle.gm_base.specs.Aim.{Aim}
use Rattle.gm_base.specs.declared.values.Actor.TheVariants.{Vcpu}
use Rattle.gm_base.specs.declared.values.Place.TheVariants as place
use Rattle.gm_base.specs.declared.script.Command.TheVariants.{Touch as TouchCommand}
use Rattle.gm_base.specs.declared.values.Level.{Level}
use Rattle.gm_base.specs.declared.values.Setup.{Setup}
use Rattle.gm_callers.proofs.Stays as callers
use Rattle.gm_flat.specs.Mappings.{fills, first_serving, inside, leaves}
use Rattle.gm_flat.specs.Replay.{flat}
use Rattle.gm_flat.specs.RightLives.{frame_of}
use Rattle.gm_flat.specs.declared.effect.Backing.{Backing}
use Rattle.gm_flat.specs.declared.effect.Backing.TheVariants.{User, Folio as InFolio}
use Rattle.gm_flat.specs.RightOrder.{next_command}
use Rattle.gm_flat.specs.RightTouch.{IsValue}
use Rattle.gm_flat.specs.Words.{word_of}
use Rattle.gm_flat.specs.declared.entry.Entry.{Entry}
use Rattle.gm_flat.specs.declared.entry.What.TheVariants.{Miss, Touch}
use Rattle.gm_laws.proofs.Kit.{by}
use Rattle.gm_laws.proofs.Parts.{invariant_by}
use Rattle.gm_laws.specs.May.{ServedBy}
use Rattle.gm_mapping.proofs.Filling.{filled, filled_by_leaf}
use Rattle.gm_mapping.proofs.Filling as mapping
use Rattle.gm_mapping.proofs.Moves.{missed, seated}
use Rattle.gm_mapping.proofs.Serving.{ByLeaf, Serves, folio_given, from_first, live_frame, serving, unserved, user_given}
use Rattle.gm_mmu.specs.Served.{served}
use Rattle.gm_slots.specs.Changes.{SlotList}
use Rattle.gm_state.proofs.Alike.{alike}
use Rattle.gm_state.specs.Accessing.{accessed, word_at}
use Rattle.gm_state.specs.Stand.{StateIs}
use Rattle.gm_state.specs.Views.{StateView}
use Rattle.gm_tlb.specs.declared.tlb.Fill.{Fill}
use Rattle.gm_turns.proofs.OneTurn.{After, one_entry}
use Rattle.gm_turns.proofs.StateQuiet as state
use Rattle.gm_turns.specs.Ready.{IsReady, Settled, Turned, noted}
use Rattle.gm_turns.specs.Room.{orders_of}
use Rattle.gm_turns.specs.Standing.{StateStands, memory_of}
use Rattle.gm_turns.specs.Touching.{touch_entry}
use Rattle.gm_vcpus.proofs.Holders.{holds_miss, holds_touch}
use Rattle.gm_vcpus.proofs.Moves as moves
use Rattle.gm_vcpus.specs.Vcpus.{missing, touched, vcpu_at}
use Rattle.gm_turns.specs.declared.parts.Core.{Core}

-- what serves, by the history
pub serves : (k : Core) (v : ℕ) (a : Aim) (f : Fill) → Settled k → v < k.setup.vcpus → served k.mmu v a (length k.log.past) ≡ Some f → Serves k.setup.user v a f k.log.past
serves k v a f t lt e = serving v a f k.log.past t.stands.mapping lt e

-- the leaf begins no later than the page
pub begins_before : (k : Core) (v p : ℕ) (a : Aim) (f : Fill) → Settled k → v < k.setup.vcpus → served k.mmu v a (length k.log.past) ≡ Some f → p ≡ a.page → f.leaf.first ≤ p
begins_before k v p a f t lt e s = subst (λ (n : ℕ). f.leaf.first ≤ n) (sym s) (from_first f.leaf a (serves k v a f t lt e).is_serving)

-- what serves gives this backing
abbrev pub IsServedBy : Core → ℕ → Aim → Fill → Backing → Type 0
IsServedBy k v a f b = ServedBy a b f.leaf.level f.at (length k.log.past) (first_serving a (fills v k.log.past)) (first_serving a (leaves k.log.past))

-- a user page
pub from_user : (k : Core) (v p : ℕ) (a : Aim) (f : Fill) (first : ℕ) → Settled k → v < k.setup.vcpus → served k.mmu v a (length k.log.past) ≡ Some f → f.leaf.place ≡ place.User first → p ≡ a.page → IsServedBy k v a f (User (first + (p - f.leaf.first))) × (first + (p - f.leaf.first) < k.setup.user)
from_user k v p a f first t lt e at s =
    let x = serves k v a f t lt e in
    let g = user_given k.setup.user a.page first f.leaf (x.mapping.gives a.page) at x.gives in
    subst (λ (n : ℕ). IsServedBy k v a f (User (first + (n - f.leaf.first))) × (first + (n - f.leaf.first) < k.setup.user)) (sym s) (x.by (User (first + (a.page - f.leaf.first))) g.0, g.1)

-- a live folio
pub record FromFolio (k : Core) (v : ℕ) (a : Aim) (f : Fill) (frame : ℕ) : Type 0 where
  pub serial : ℕ
  pub live : frame_of serial (flat k.log.past).folios ≡ Some frame
  pub served_by : IsServedBy k v a f (InFolio (record { serial = serial; frame = frame }))

pub from_folio : (k : Core) (v p : ℕ) (a : Aim) (f : Fill) (first : ℕ) → Settled k → v < k.setup.vcpus → inside v k.log.past ≡ true → served k.mmu v a (length k.log.past) ≡ Some f → f.leaf.place ≡ place.Frame first → p ≡ a.page → FromFolio k v a f (first + (p - f.leaf.first))
from_folio k v p a f first t lt i e at s =
    let x = serves k v a f t lt e in
    let g = folio_given k.setup.user a.page first f.leaf (x.mapping.gives a.page) at x.gives in
    let live = live_frame (orders_of k) k.setup.user v a f k.log.past g.folio t.ruled.follows i x g.backs in
    let same : g.folio.frame ≡ first + (p - f.leaf.first) = g.frame_is ∙ ap (λ (n : ℕ). first + (n - f.leaf.first)) (sym s) in
    record {
      serial = g.folio.serial;
      live = live ∙ ap Some same;
      served_by = subst (λ (n : ℕ). IsServedBy k v a f (InFolio (record { serial = g.folio.serial; frame = n }))) same (x.by (InFolio g.folio) g.backs);
    }

-- a miss
after_miss : (n m : ℕ) → n ≡ m → n + 1 ≡ suc m
after_miss n m h = omega arith

pub miss_turn : (k : Core) (v : ℕ) (a : Aim) (n : ℕ) → n ≡ length k.log.past → IsReady k (Vcpu v) → (vcpu_at k.vcpus v).fault ≡ None → inside v k.log.past ≡ true → next_command (orders_of k) (Vcpu v) k.log.past ≡ Some (TouchCommand a) → served k.mmu v a (length k.log.past) ≡ None → Turned k (noted (record k { vcpus = set k.vcpus v (missing (vcpu_at k.vcpus v) a (n + 1)); mmu = seated k.mmu v false }) (Vcpu v) (Miss a)) (Vcpu v) false
miss_turn k v a n here r none i command e =
    let st = r.settled.stands in
    let entry = by (k.turns + 1) (Vcpu v) (Miss a) in
    let u = unserved v a k.log.past st.mapping r.actor_is e in
    one_entry k (noted (record k { vcpus = set k.vcpus v (missing (vcpu_at k.vcpus v) a (n + 1)); mmu = seated k.mmu v false }) (Vcpu v) (Miss a)) (Vcpu v) (Miss a) false r
    (record {
      stands = record {
        vcpus = moves.misses (k.turns + 1) v a (n + 1) st.vcpus r.actor_is (after_miss n (length k.log.past) here);
        callers = callers.quiet entry k.log.past refl st.callers;
        mapping = missed (k.turns + 1) v a k.log.past st.mapping r.actor_is;
        state = state.state_same entry k.log.past refl (λ serial. holds_miss serial (k.turns + 1) v a st.vcpus r.actor_is none) st.state;
      };
      past_is = refl;
      orders = refl;
      turns = refl;
    })
    (record { not_served = record { is_inside = i; no_fill = u.no_fill; no_leaf = u.no_leaf }; command = command }) refl refl refl tt

-- the state after a touch
touched_state : (k : Core) (v : ℕ) (a : Aim) (b : Backing) (level : Level) (value fill : ℕ) (st : StateView) → StateStands k.setup k.state k.log.past → StateIs k.setup st (accessed a b (memory_of k.setup k.log.past)) → st.slots ≡ k.state.slots → StateStands k.setup st (by (k.turns + 1) (Vcpu v) (Touch a b level value fill) ∷ k.log.past)
touched_state k v a b level value fill st t is same =
    let e = by (k.turns + 1) (Vcpu v) (Touch a b level value fill) in
    record {
      is = alike k.setup st (accessed a b (memory_of k.setup k.log.past)) (memory_of k.setup (e ∷ k.log.past)) (record { flat = refl; holds = λ serial. holds_touch k.setup.vcpus serial (k.turns + 1) v a b level value fill k.log.past; words = λ serial word. refl; user_words = λ page word. refl }) is;
      generation = let g = subst (λ (x : SlotList). x.generation ≤ length k.log.past) (sym same) t.generation in omega arith;
    }

-- what a touch needs
pub record AtTouch (k : Core) (v : ℕ) (a : Aim) (b : Backing) (f : Fill) (value : ℕ) (st : StateView) : Type 0 where
  pub ready : IsReady k (Vcpu v)
  pub is_inside : inside v k.log.past ≡ true
  pub command : next_command (orders_of k) (Vcpu v) k.log.past ≡ Some (TouchCommand a)
  pub served_by : IsServedBy k v a f b
  pub value_is : IsValue a.op (word_at b a.word (memory_of k.setup k.log.past)) value
  pub state_is : StateIs k.setup st (accessed a b (memory_of k.setup k.log.past))
  pub slots_same : st.slots ≡ k.state.slots

word_is : (s : Setup) (b : Backing) (word : ℕ) (past : List Entry) → word_at b word (memory_of s past) ≡ word_of b word past
word_is s (User page) word past = refl
word_is s (InFolio folio) word past = refl

touch_turn : (k n : Core) (v : ℕ) (a : Aim) (b : Backing) (f : Fill) (value : ℕ) (st : StateView) → AtTouch k v a b f value st → After k n (Vcpu v) (touch_entry a b value f ∷ []) → Turned k n (Vcpu v) false
touch_turn k n v a b f value st t x =
    one_entry k n (Vcpu v) (touch_entry a b value f) false t.ready x
    (record { is_inside = t.is_inside; is_served = t.served_by; right_value = subst (λ (w : ℕ). IsValue a.op w value) (word_is k.setup b a.word k.log.past) t.value_is; command = t.command }) refl refl refl tt

-- a touch by a fill of the buffer
pub fill_turn : (k : Core) (v : ℕ) (a : Aim) (b : Backing) (f : Fill) (value : ℕ) (st : StateView) → AtTouch k v a b f value st → f.at < length k.log.past → Turned k (noted (record k { state = st; vcpus = set k.vcpus v (touched (vcpu_at k.vcpus v)) }) (Vcpu v) (touch_entry a b value f)) (Vcpu v) false
fill_turn k v a b f value st t lt =
    let h = t.ready.settled.stands in
    let entry = by (k.turns + 1) (Vcpu v) (touch_entry a b value f) in
    touch_turn k (noted (record k { state = st; vcpus = set k.vcpus v (touched (vcpu_at k.vcpus v)) }) (Vcpu v) (touch_entry a b value f)) v a b f value st t
    (record {
      stands = record {
        vcpus = moves.touches (k.turns + 1) v a b f.leaf.level value f.at h.vcpus t.ready.actor_is;
        callers = callers.quiet entry k.log.past refl h.callers;
        mapping = mapping.touched (k.turns + 1) v a b f.leaf.level value f.at k.log.past h.mapping lt;
        state = touched_state k v a b f.leaf.level value f.at st h.state t.state_is t.slots_same;
      };
      past_is = refl;
      orders = refl;
      turns = refl;
    })

-- a touch by a leaf
pub leaf_turn : (k : Core) (v : ℕ) (a : Aim) (b : Backing) (f : Fill) (value : ℕ) (st : StateView) → AtTouch k v a b f value st → (x : Serves k.setup.user v a f k.log.past) → ByLeaf f x.mapping k.log.past → Turned k (noted (record k { state = st; vcpus = set k.vcpus v (touched (vcpu_at k.vcpus v)); mmu = filled k.mmu v f }) (Vcpu v) (touch_entry a b value f)) (Vcpu v) false
leaf_turn k v a b f value st t x l =
    let h = t.ready.settled.stands in
    let entry = by (k.turns + 1) (Vcpu v) (touch_entry a b value f) in
    touch_turn k (noted (record k { state = st; vcpus = set k.vcpus v (touched (vcpu_at k.vcpus v)); mmu = filled k.mmu v f }) (Vcpu v) (touch_entry a b value f)) v a b f value st t
    (record {
      stands = record {
        vcpus = moves.touches (k.turns + 1) v a b f.leaf.level value f.at h.vcpus t.ready.actor_is;
        callers = callers.quiet entry k.log.past refl h.callers;
        mapping = filled_by_leaf (k.turns + 1) v a b value f k.log.past h.mapping t.ready.actor_is x l (invariant_by (orders_of k) k.log.past t.ready.settled.ruled.follows).leaves_name_now;
        state = touched_state k v a b f.leaf.level value f.at st h.state t.state_is t.slots_same;
      };
      past_is = refl;
      orders = refl;
      turns = refl;
    })

-- which of the two serves
pub by_which : (k : Core) (v : ℕ) (a : Aim) (f : Fill) (x : Serves k.setup.user v a f k.log.past) → f.at ≡ length k.log.past → ByLeaf f x.mapping k.log.past
by_which k v a f x e = elim x.which [
  | inl y ↦ let o = y.older in absurd (omega arith)
  | inr y ↦ y
]

pub is_older : (k : Core) (v : ℕ) (a : Aim) (f : Fill) (x : Serves k.setup.user v a f k.log.past) → eqb f.at (length k.log.past) ≡ false → f.at < length k.log.past
is_older k v a f x e = elim x.which [
  | inl y ↦ y.older
  | inr y ↦ absurd (eqb-false f.at (length k.log.past) e y.here)
]
