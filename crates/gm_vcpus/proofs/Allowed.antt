-- Which entry of a vCPU may come, by the vCPUs and plain facts.
use Rattle.std.proofs.Common.{◌≡◌, ℕ, ◌<◌, ◌||◌, inl, inr, List, Bool, true, false, not, length, Option, Some, None, IfSome, arith, subst, sym, ◌∙◌, ap, refl, eqb}
use Rattle.gm_base.specs.Aim.{Aim}
use Rattle.gm_base.specs.Extent.{Extent}
use Rattle.gm_base.specs.Scripts.{Orders, commands_of}
use Rattle.gm_base.specs.declared.script.Command.TheVariants.{Touch as TouchCommand}
use Rattle.gm_base.specs.declared.values.Actor.TheVariants.{Vcpu as OfVcpu}
use Rattle.gm_base.specs.declared.values.Folio.{Folio}
use Rattle.gm_base.specs.declared.values.Level.{Level}
use Rattle.gm_base.specs.declared.values.Setup.{Setup}
use Rattle.gm_fault.specs.Routes.{IsSlotOver, route_of}
use Rattle.gm_fault.specs.declared.routes.Route.TheVariants.{Again, Exit, File, User}
use Rattle.gm_fault.specs.declared.ticket.Ticket.{Ticket}
use Rattle.gm_flat.specs.FlatState.{Flat, cached, in_use}
use Rattle.gm_flat.specs.Histories.{Fault, fault}
use Rattle.gm_flat.specs.Invalidation.{ended, hull, in_hull, stale}
use Rattle.gm_flat.specs.Mappings.{fills, first_serving, inside, leaves, pending}
use Rattle.gm_flat.specs.Replay.{flat, index_in, looked_slot}
use Rattle.gm_flat.specs.RightInstall.{CachedOrNew, FileGet, GetBy, IsShut, RightGet}
use Rattle.gm_flat.specs.RightLevel.{LevelIs}
use Rattle.gm_flat.specs.RightLook.{IsFull, NotCached, Route as To, RightExit}
use Rattle.gm_flat.specs.RightOrder.{IsBlocked, IsLooked, IsWaiting, command_at, next_command}
use Rattle.gm_flat.specs.RightTouch.{IsValue, MissIsRight}
use Rattle.gm_flat.specs.Words.{word_of}
use Rattle.gm_flat.specs.declared.effect.Backing.{Backing}
use Rattle.gm_flat.specs.declared.effect.Backing.TheVariants.{User as InUser, Folio as InFolio}
use Rattle.gm_flat.specs.declared.effect.Exit.{Exit as Why}
use Rattle.gm_flat.specs.declared.effect.Exit.TheVariants.{NoFrame}
use Rattle.gm_flat.specs.declared.entry.Entry.{Entry}
use Rattle.gm_flat.specs.declared.entry.What.TheVariants.{Enter, Get, Gone, Install, Left, Miss, Retry, Touch}
use Rattle.gm_flat.specs.declared.views.Looked.{Looked}
use Rattle.gm_flat.specs.declared.views.Sampled.{Sampled}
use Rattle.gm_inval.specs.Range.{Progress, open_range, range_holds}
use Rattle.gm_laws.proofs.Counted.{ended_counts}
use Rattle.gm_laws.specs.Counting.{ends}
use Rattle.gm_laws.specs.May.{May, MayInstall, MayRetry, ServedBy}
use Rattle.gm_vcpus.proofs.Flights.{FaultGot, FaultLooked, flight, no_fault}
use Rattle.gm_vcpus.proofs.Routing.{exit_right, file_right, over_page, route_right, table_route, user_below, user_right}
use Rattle.gm_vcpus.specs.Stages.{stage_of}
use Rattle.gm_vcpus.specs.Stand.{SampleIs, VcpusStand}
use Rattle.gm_vcpus.specs.Vcpus.{no_vcpu, vcpu_at}
use Rattle.gm_vcpus.specs.declared.stage.Stage.TheVariants as at
use Rattle.gm_vcpus.specs.declared.vcpu.Vcpu.{Vcpu}

-- the premises of a fault that has looked
pub record AtLook (s : Setup) (vs : List Vcpu) (past : List Entry) (v : ℕ) (k : Ticket) (x : Sampled) (y : Looked) : Type 0 where
  pub stand : VcpusStand s vs past
  pub actor : v < s.vcpus
  pub in_flight : (vcpu_at vs v).fault ≡ Some k
  pub stage : stage_of k ≡ at.Looked x y

abbrev pub flying : (s : Setup) (vs : List Vcpu) (past : List Entry) (v : ℕ) (k : Ticket) (x : Sampled) (y : Looked) → AtLook s vs past v k x y → FaultLooked s.user v k x y past
flying s vs past v k x y h = flight v k (at.Looked x y) h.stand h.actor h.in_flight h.stage

-- what was looked up may be asked for its route
pub may_decide : (s : Setup) (vs : List Vcpu) (past : List Entry) (v : ℕ) (k : Ticket) (x : Sampled) (y : Looked) → AtLook s vs past v k x y → IfSome y.slot (IsSlotOver k.access.page)
may_decide s vs past v k x y h = over_page s.user k.access.page y.slot (flying s vs past v k x y h).look_is.sight

-- an exit by its route
pub may_exit : (o : Orders) (s : Setup) (vs : List Vcpu) (past : List Entry) (v : ℕ) (k : Ticket) (x : Sampled) (y : Looked) (why : Why) → AtLook s vs past v k x y → route_of y k.access ≡ Exit why → May o (Left why) (OfVcpu v) past
may_exit o s vs past v k x y why h r =
    let f = flying s vs past v k x y h in
    subst (λ (z : Fault). IsLooked z × RightExit o.setup.frames why past z) (sym f.fault_is)
    (tt, exit_right o.setup.frames s.user f.sample why y k.access f.seen past f.look_is r)

-- an exit for want of a frame
pub may_want_frame : (o : Orders) (s : Setup) (vs : List Vcpu) (past : List Entry) (v : ℕ) (k : Ticket) (x : Sampled) (y : Looked) (file index : ℕ) → AtLook s vs past v k x y → route_of y k.access ≡ File file index → in_use file (flat past).files ≡ true → cached file index (flat past).cache ≡ None → IsFull o.setup.frames (flat past).folios → May o (Left NoFrame) (OfVcpu v) past
may_want_frame o s vs past v k x y file index h r used none full =
    let f = flying s vs past v k x y h in
    let g = file_right s.user f.sample file index y k.access f.seen past f.look_is r in
    subst (λ (z : Fault). IsLooked z × RightExit o.setup.frames NoFrame past z) (sym f.fault_is)
    (tt, record { right_route = g.right_route; not_cached = wanting f.seen.file (index_in k.access.page (looked_slot f.seen past)) file index (flat past) g.file_is g.index_is used none; full = full })
  where
    wanting : (F I : Option ℕ) (file index : ℕ) (f : Flat) → F ≡ Some file → I ≡ Some index → in_use file f.files ≡ true → cached file index f.cache ≡ None → NotCached F I f
    wanting F I file index f e i used none = rw (e, i) (used, none)

-- a fault that found a marked slot is tried again
pub may_retry_marked : (o : Orders) (s : Setup) (vs : List Vcpu) (past : List Entry) (v : ℕ) (k : Ticket) (x : Sampled) (y : Looked) → AtLook s vs past v k x y → route_of y k.access ≡ Again → May o Retry (OfVcpu v) past
may_retry_marked o s vs past v k x y h r =
    let f = flying s vs past v k x y h in
    subst (MayRetry past) (sym f.fault_is) (inl (route_right s.user f.sample y k.access f.seen past f.look_is ∙ ap table_route r))

-- and one whose file was shut since
pub may_retry_shut : (o : Orders) (s : Setup) (vs : List Vcpu) (past : List Entry) (v : ℕ) (k : Ticket) (x : Sampled) (y : Looked) (file index : ℕ) → AtLook s vs past v k x y → route_of y k.access ≡ File file index → in_use file (flat past).files ≡ false → May o Retry (OfVcpu v) past
may_retry_shut o s vs past v k x y file index h r shut =
    let f = flying s vs past v k x y h in
    let g = file_right s.user f.sample file index y k.access f.seen past f.look_is r in
    subst (MayRetry past) (sym f.fault_is) (inr (g.right_route, subst (λ (F : Option ℕ). IsShut F (flat past)) (sym g.file_is) shut))

-- the user page of its route
pub may_get_user : (o : Orders) (s : Setup) (vs : List Vcpu) (past : List Entry) (v : ℕ) (k : Ticket) (x : Sampled) (y : Looked) (page : ℕ) → AtLook s vs past v k x y → route_of y k.access ≡ User page → May o (Get (InUser page) 0) (OfVcpu v) past
may_get_user o s vs past v k x y page h r =
    let f = flying s vs past v k x y h in
    let u = user_right s.user f.sample page y k.access f.seen past f.look_is r in
    let m : IsLooked (fault v past) × RightGet (InUser page) 0 past (fault v past) =
    subst (λ (z : Fault). IsLooked z × RightGet (InUser page) 0 past z) (sym f.fault_is)
    (tt, subst (λ (to : To). GetBy to (InUser page) 0 k.access f.seen past) (sym u.0) u.1) in
    (m.0, m.1, (λ none. absurd (omega arith)))

-- a user page that is got is one of the machine's
pub user_page_below : (s : Setup) (vs : List Vcpu) (past : List Entry) (v : ℕ) (k : Ticket) (x : Sampled) (y : Looked) (page : ℕ) → AtLook s vs past v k x y → route_of y k.access ≡ User page → page < s.user
user_page_below s vs past v k x y page h r =
    let f = flying s vs past v k x y h in
    user_below s.user f.sample page y k.access f.seen past f.look_is r

pub file_get_as : (b : Backing) (fresh : ℕ) (F I : Option ℕ) (file index : ℕ) (f : Flat) → F ≡ Some file → I ≡ Some index → in_use file f.files ≡ true → CachedOrNew b fresh (cached file index f.cache) → FileGet b fresh F I f
file_get_as b fresh F I file index f e i used h = rw (e, i) (used, h)

-- the folio that is cached at its route's index
pub may_get_cached : (o : Orders) (s : Setup) (vs : List Vcpu) (past : List Entry) (v : ℕ) (k : Ticket) (x : Sampled) (y : Looked) (file index : ℕ) (folio : Folio) → AtLook s vs past v k x y → route_of y k.access ≡ File file index → in_use file (flat past).files ≡ true → cached file index (flat past).cache ≡ Some folio → May o (Get (InFolio folio) 0) (OfVcpu v) past
may_get_cached o s vs past v k x y file index folio h r used here =
    let f = flying s vs past v k x y h in
    let g = file_right s.user f.sample file index y k.access f.seen past f.look_is r in
    let m : IsLooked (fault v past) × RightGet (InFolio folio) 0 past (fault v past) =
    subst (λ (z : Fault). IsLooked z × RightGet (InFolio folio) 0 past z) (sym f.fault_is) (
      tt,
      subst (λ (to : To). GetBy to (InFolio folio) 0 k.access f.seen past) (sym g.right_route)
          (file_get_as (InFolio folio) 0 f.seen.file (index_in k.access.page (looked_slot f.seen past)) file index (flat past) g.file_is g.index_is used
          (subst (λ (c : Option Folio). CachedOrNew (InFolio folio) 0 c) (sym here) (refl, refl))),
    ) in
    (m.0, m.1, (λ none. absurd (omega arith)))

-- after a Get

holds_same : (page : ℕ) (range : Option Extent) → range_holds range page ≡ in_hull page range
holds_same page None = refl
holds_same page (Some e) = refl

stale_parts : (a b c d : Bool) → a ≡ d → b ≡ c → (a || b) ≡ (c || d)
stale_parts true true c d e f = grind arith
stale_parts true false c d e f = grind arith
stale_parts false true c d e f = grind arith
stale_parts false false c d e f = grind arith

-- what the invalidations in progress call stale is stale
pub stale_same : (p : Progress) (x : Sampled) (sample missed page : ℕ) (past : List Entry) → SampleIs x sample missed past → open_range p ≡ hull past → p.seq ≡ ends past → (range_holds (open_range p) page || not (eqb p.seq x.seq)) ≡ stale (Some sample) page past
stale_same p x sample missed page past h range seq =
    stale_parts (range_holds (open_range p) page) (not (eqb p.seq x.seq)) (ended sample past) (in_hull page (hull past))
    (holds_same page (open_range p) ∙ ap (in_hull page) range)
    (ap (λ (n : ℕ). not (eqb n x.seq)) seq ∙ (ap (λ (n : ℕ). not (eqb (ends past) n)) h.seq_is ∙ sym (ended_counts sample past h.so_far)))

-- the premises of a fault that has got its backing; what is in progress is the history's
pub record AtGet (s : Setup) (vs : List Vcpu) (past : List Entry) (v : ℕ) (k : Ticket) (x : Sampled) (y : Looked) (b : Backing) : Type 0 where
  pub stand : VcpusStand s vs past
  pub actor : v < s.vcpus
  pub in_flight : (vcpu_at vs v).fault ≡ Some k
  pub stage : stage_of k ≡ at.Got x y b

abbrev pub holding : (s : Setup) (vs : List Vcpu) (past : List Entry) (v : ℕ) (k : Ticket) (x : Sampled) (y : Looked) (b : Backing) → AtGet s vs past v k x y b → FaultGot s.user v k x y b past
holding s vs past v k x y b h = flight v k (at.Got x y b) h.stand h.actor h.in_flight h.stage

-- one that is stale is tried again
pub may_retry_stale : (o : Orders) (s : Setup) (vs : List Vcpu) (past : List Entry) (v : ℕ) (k : Ticket) (x : Sampled) (y : Looked) (b : Backing) (p : Progress) → AtGet s vs past v k x y b → open_range p ≡ hull past → p.seq ≡ ends past → (range_holds (open_range p) k.access.page || not (eqb p.seq x.seq)) ≡ true → May o Retry (OfVcpu v) past
may_retry_stale o s vs past v k x y b p h range seq is_stale =
    let f = holding s vs past v k x y b h in
    subst (MayRetry past) (sym f.fault_is) (sym (stale_same p x f.sample f.missed k.access.page past f.sample_is range seq) ∙ is_stale)

-- one that isn't installs its leaf
pub may_install : (o : Orders) (s : Setup) (vs : List Vcpu) (past : List Entry) (v : ℕ) (k : Ticket) (x : Sampled) (y : Looked) (b : Backing) (p : Progress) (level : Level) → AtGet s vs past v k x y b → open_range p ≡ hull past → p.seq ≡ ends past → (range_holds (open_range p) k.access.page || not (eqb p.seq x.seq)) ≡ false → LevelIs level o.setup.huge k.access.page past → May o (Install k.access.page level) (OfVcpu v) past
may_install o s vs past v k x y b p level h range seq fresh is_level =
    let f = holding s vs past v k x y b h in
    (subst (MayInstall k.access.page past) (sym f.fault_is) (refl, sym (stale_same p x f.sample f.missed k.access.page past f.sample_is range seq) ∙ fresh), is_level)

-- commands

-- the next command is the one after those that the vCPU has ended
pub next_is : (o : Orders) {s : Setup} {vs : List Vcpu} {past : List Entry} (v : ℕ) → VcpusStand s vs past → v < s.vcpus → next_command o (OfVcpu v) past ≡ command_at (commands_of o (OfVcpu v)) (vcpu_at vs v).ended
next_is o {vs = vs} v st lt = sym (ap (λ (n : ℕ). command_at (commands_of o (OfVcpu v)) n) (st.each v no_vcpu lt).ended_is)

pub may_enter : (o : Orders) {s : Setup} {vs : List Vcpu} {past : List Entry} (v : ℕ) → VcpusStand s vs past → v < s.vcpus → (vcpu_at vs v).fault ≡ None → inside v past ≡ false → pending v past ≡ false → IsWaiting (command_at (commands_of o (OfVcpu v)) (vcpu_at vs v).ended) → May o Enter (OfVcpu v) past
may_enter o v st lt none out flushed waits = record { outside = out; no_fault = no_fault v st lt none; flushed_before = flushed; waiting = subst IsWaiting (sym (next_is o v st lt)) waits }

pub may_depart : (o : Orders) {s : Setup} {vs : List Vcpu} {past : List Entry} (v : ℕ) → VcpusStand s vs past → v < s.vcpus → command_at (commands_of o (OfVcpu v)) (vcpu_at vs v).ended ≡ None → (vcpu_at vs v).gone ≡ false → May o Gone (OfVcpu v) past
may_depart o v st lt none stays = record { none_left = next_is o v st lt ∙ none; once = sym (st.each v no_vcpu lt).gone_is ∙ stays }

pub may_miss : (o : Orders) {s : Setup} {vs : List Vcpu} {past : List Entry} (v : ℕ) (a : Aim) → VcpusStand s vs past → v < s.vcpus → command_at (commands_of o (OfVcpu v)) (vcpu_at vs v).ended ≡ Some (TouchCommand a) → MissIsRight v a past → May o (Miss a) (OfVcpu v) past
may_miss o v a st lt command unserved = record { not_served = unserved; command = next_is o v st lt ∙ command }

pub may_touch : (o : Orders) {s : Setup} {vs : List Vcpu} {past : List Entry} (v : ℕ) (a : Aim) (b : Backing) (level : Level) (value fill : ℕ) → VcpusStand s vs past → v < s.vcpus → command_at (commands_of o (OfVcpu v)) (vcpu_at vs v).ended ≡ Some (TouchCommand a) → inside v past ≡ true → ServedBy a b level fill (length past) (first_serving a (fills v past)) (first_serving a (leaves past)) → IsValue a.op (word_of b a.word past) value → May o (Touch a b level value fill) (OfVcpu v) past
may_touch o v a b level value fill st lt command within served right = record { is_inside = within; is_served = served; right_value = right; command = next_is o v st lt ∙ command }

-- a vCPU is never blocked
pub never_blocked : (o : Orders) (v : ℕ) (past : List Entry) → IsBlocked o (OfVcpu v) past → ⊥
never_blocked o v past h = h
