-- A new core is settled.
use Rattle.std.proofs.Common.{◌≡◌, ℕ, ◌+◌, List, [], Option, Some, None, IfSome, replicate, arith, refl, ◌∙◌, ap, subst, sym, slice_get, slice_index_or}
use Rattle.gm_base.specs.Scripts.{Orders, Schedule}
use Rattle.gm_base.specs.declared.leaf.Leaf.{Leaf}
use Rattle.gm_base.specs.declared.script.Command.{Command}
use Rattle.gm_base.specs.declared.script.Command.TheVariants.{Touch, Call}
use Rattle.gm_base.specs.declared.values.Setup.{Setup}
use Rattle.gm_callers.proofs.Stays as callers
use Rattle.gm_callers.specs.Callers.{no_caller}
use Rattle.gm_callers.specs.Stand.{CallersStand}
use Rattle.gm_callers.specs.declared.caller.Caller.{Caller}
use Rattle.gm_inval.specs.Range.{Progress}
use Rattle.gm_laws.proofs.TurnsKeep.{quiet_freed}
use Rattle.gm_laws.specs.Ruled.{Ruled}
use Rattle.gm_laws.specs.Turns.{IsNewTurn}
use Rattle.gm_mapping.proofs.Quiet as mapping
use Rattle.gm_mapping.specs.Mapping.{MappingStands}
use Rattle.gm_mmu.specs.Served.{Serving}
use Rattle.gm_script.specs.Schedules.{IsCall, IsScript, IsTouch}
use Rattle.gm_state.proofs.Alike.{alike}
use Rattle.gm_state.specs.Stand.{StateIs, at_start}
use Rattle.gm_state.specs.Views.{StateView}
use Rattle.gm_tlb.specs.Requests.{Requests, outside}
use Rattle.gm_tlb.specs.declared.tlb.Fill.{Fill}
use Rattle.gm_vcpus.proofs.Holders.{holds_opens}
use Rattle.gm_vcpus.proofs.Stays as vcpus
use Rattle.gm_vcpus.specs.Stand.{VcpusStand}
use Rattle.gm_vcpus.specs.Vcpus.{no_vcpu}
use Rattle.gm_vcpus.specs.declared.vcpu.Vcpu.{Vcpu}
use Rattle.gm_turns.specs.Ready.{Commanded, CoreStands, IsAccess, IsIoctl, IsWithinLimits, Settled}
use Rattle.gm_turns.specs.Room.{orders_of}
use Rattle.gm_turns.specs.Standing.{StateStands, memory_of}
use Rattle.gm_turns.specs.declared.parts.Core.{Core}

-- a memory unit with no leaf, no fill and no request
pub record IsFreshMmu (vcpus : ℕ) (m : Serving) : Type 0 where
  pub leaves : m.leaves ≡ []
  pub fills : m.fills ≡ replicate vcpus []
  pub requests : m.requests ≡ record { asked = 0; seats = replicate vcpus outside }
  pub progress : m.progress ≡ record { seq = 0; count = 0; kept = None }

mmu_is : (n : ℕ) (m : Serving) → IsFreshMmu n m → m ≡ record { leaves = []; spare = m.spare; fills = replicate n []; requests = record { asked = 0; seats = replicate n outside }; progress = record { seq = 0; count = 0; kept = None } }
mmu_is n m h =
    ap (λ (x : List Leaf). record m { leaves = x }) h.leaves
    ∙ (ap (λ (x : List (List Fill)). record m { leaves = []; fills = x }) h.fills
    ∙ (ap (λ (x : Requests). record m { leaves = []; fills = replicate n []; requests = x }) h.requests
    ∙ ap (λ (x : Progress). record m { leaves = []; fills = replicate n []; requests = record { asked = 0; seats = replicate n outside }; progress = x }) h.progress))

-- the parts of a new core
pub record IsFresh (o : Orders) (k : Core) : Type 0 where
  pub orders : orders_of k ≡ o
  pub past : k.log.past ≡ []
  pub vcpus : k.vcpus ≡ replicate k.setup.vcpus no_vcpu
  pub callers : k.callers ≡ replicate k.setup.callers no_caller
  pub mmu : IsFreshMmu k.setup.vcpus k.mmu
  pub state : StateIs k.setup k.state at_start
  pub generation : k.state.slots.generation ≡ 0

touch_is : (o : Option Command) → IfSome o IsTouch → IfSome o IsAccess
touch_is None h = tt
touch_is (Some (Touch a)) h = tt
touch_is (Some (Call i)) h = absurd h

call_is : (o : Option Command) → IfSome o IsCall → IfSome o IsIoctl
call_is None h = tt
call_is (Some (Touch a)) h = absurd h
call_is (Some (Call i)) h = tt

commands : (s : Schedule) → IsScript s → Commanded s.orders
commands s h = record {
  vcpu_lists = h.vcpus;
  caller_lists = h.callers;
  touches = λ v k. touch_is (slice_get (slice_index_or s.orders.vcpus v []) k) (h.touches v k);
  calls = λ c k. call_is (slice_get (slice_index_or s.orders.callers c []) k) (h.calls c k);
}

limits_are : (s : Schedule) → IsScript s → IsWithinLimits s.orders.setup
limits_are s h = record { frames = h.setup.frames; user = h.setup.user; vcpus = h.setup.vcpus; callers = h.setup.callers }

state_opens : (s : Setup) (st : StateView) → StateIs s st at_start → st.slots.generation ≡ 0 → StateStands s st []
state_opens s st h g = record {
  is = alike s st at_start (memory_of s []) (record { flat = refl; holds = λ serial. holds_opens s.vcpus serial; words = λ serial word. refl; user_words = λ page word. refl }) h;
  generation = omega arith;
}

stands : (o : Orders) (k : Core) → IsFresh o k → CoreStands k
stands o k h = record {
  vcpus = subst (VcpusStand k.setup k.vcpus) (sym h.past) (subst (λ (x : List Vcpu). VcpusStand k.setup x []) (sym h.vcpus) (vcpus.opens k.setup));
  callers = subst (CallersStand k.setup k.callers) (sym h.past) (subst (λ (x : List Caller). CallersStand k.setup x []) (sym h.callers) (callers.opens k.setup));
  mapping = subst (MappingStands k.setup k.mmu) (sym h.past) (subst (λ (x : Serving). MappingStands k.setup x []) (sym (mmu_is k.setup.vcpus k.mmu h.mmu)) (mapping.opens k.setup k.mmu.spare));
  state = subst (StateStands k.setup k.state) (sym h.past) (state_opens k.setup k.state h.state h.generation);
}

pub opens : (s : Schedule) (k : Core) → IsScript s → IsFresh s.orders k → Settled k
opens s k even h = record {
  stands = stands s.orders k h;
  commanded = subst Commanded (sym h.orders) (commands s even);
  limits = subst (λ (o : Orders). IsWithinLimits o.setup) (sym h.orders) (limits_are s even);
  ruled = subst (Ruled (orders_of k)) (sym h.past) (record { follows = tt; row = tt; freed = quiet_freed [] refl });
  new_turn = subst (IsNewTurn (k.turns + 1)) (sym h.past) (omega arith);
}

-- orders from their parts
pub same_orders : (o : Orders) (s : Setup) (vs cs : List (List Command)) → s ≡ o.setup → vs ≡ o.vcpus → cs ≡ o.callers → record { setup = s; vcpus = vs; callers = cs } ≡ o
same_orders o s vs cs a b c =
    let p : Orders = record { setup = s; vcpus = vs; callers = cs } in
    let d : p ≡ record p { setup = o.setup } = ap (λ (x : Setup). record p { setup = x }) a in
    let e : record p { setup = o.setup } ≡ record p { setup = o.setup; vcpus = o.vcpus } = ap (λ (x : List (List Command)). record p { setup = o.setup; vcpus = x }) b in
    let f : record p { setup = o.setup; vcpus = o.vcpus } ≡ o = ap (λ (x : List (List Command)). record o { callers = x }) c in
    d ∙ (e ∙ f)
