-- What a ticket tells of its fault.
use Rattle.std.proofs.Common.{◌≡◌, ℕ, ◌<◌, ◌≤◌, List, length, Option, Some, None, subst, sym, refl, ◌∙◌}
use Rattle.gm_base.specs.Aim.{Aim}
use Rattle.gm_base.specs.declared.values.Setup.{Setup}
use Rattle.gm_fault.specs.declared.ticket.Ticket.{Ticket}
use Rattle.gm_flat.specs.Histories.{Fault, Faulting, NoFault, Gotten, Seen, fault}
use Rattle.gm_flat.specs.declared.effect.Backing.{Backing}
use Rattle.gm_flat.specs.declared.entry.Entry.{Entry}
use Rattle.gm_flat.specs.declared.views.Looked.{Looked}
use Rattle.gm_flat.specs.declared.views.Sampled.{Sampled}
use Rattle.gm_vcpus.specs.Asks.{asked_at, asked_by, asked_in}
use Rattle.gm_vcpus.specs.Stages.{stage_by, stage_of}
use Rattle.gm_vcpus.specs.Stand.{FaultIs, LookIs, MissedIs, SampleIs, StageIs, TicketIs, VcpusStand}
use Rattle.gm_vcpus.specs.Vcpus.{no_vcpu, vcpu_at}
use Rattle.gm_vcpus.specs.declared.stage.Stage.{Stage}
use Rattle.gm_vcpus.specs.declared.stage.Stage.TheVariants as at
use Rattle.gm_vcpus.specs.declared.vcpu.Vcpu.{Vcpu}

-- a vCPU has no fault in flight
pub no_fault : {s : Setup} {vs : List Vcpu} {past : List Entry} (v : ℕ) → VcpusStand s vs past → v < s.vcpus → (vcpu_at vs v).fault ≡ None → fault v past ≡ NoFault
no_fault {s = s} {vs = vs} {past = past} v st lt e = none_by s.user (vcpu_at vs v).fault (fault v past) past e (st.each v no_vcpu lt).fault_is
  where
    none_by : (user : ℕ) (o : Option Ticket) (x : Fault) (past : List Entry) → o ≡ None → FaultIs user o x past → x ≡ NoFault
    none_by user None NoFault past e h = refl
    none_by user None (Faulting a missed s l g) past e h = absurd h
    none_by user (Some k) x past e h = absurd (cc)

-- a fault that has only missed
pub record FaultMissed (v : ℕ) (k : Ticket) (past : List Entry) : Type 0 where
  pub missed : ℕ
  pub fault_is : fault v past ≡ Faulting k.access missed None None None
  pub so_far : missed ≤ length past
  pub not_sampled : k.sampled ≡ None
  pub not_looked : k.looked ≡ None
  pub not_got : k.backing ≡ None

-- one that has sampled and not looked yet
pub record FaultSampled (v : ℕ) (k : Ticket) (x : Sampled) (past : List Entry) : Type 0 where
  pub missed : ℕ
  pub sample : ℕ
  pub fault_is : fault v past ≡ Faulting k.access missed (Some sample) None None
  pub so_far : missed ≤ length past
  pub sampled : k.sampled ≡ Some x
  pub not_looked : k.looked ≡ None
  pub not_got : k.backing ≡ None
  pub sample_is : SampleIs x sample missed past

-- one that has looked and got nothing yet
pub record FaultLooked (user v : ℕ) (k : Ticket) (x : Sampled) (y : Looked) (past : List Entry) : Type 0 where
  pub missed : ℕ
  pub sample : ℕ
  pub seen : Seen
  pub fault_is : fault v past ≡ Faulting k.access missed (Some sample) (Some seen) None
  pub so_far : missed ≤ length past
  pub sampled : k.sampled ≡ Some x
  pub looked : k.looked ≡ Some y
  pub not_got : k.backing ≡ None
  pub sample_is : SampleIs x sample missed past
  pub look_is : LookIs user k.access.page sample y seen past

-- one that has got its backing
pub record FaultGot (user v : ℕ) (k : Ticket) (x : Sampled) (y : Looked) (b : Backing) (past : List Entry) : Type 0 where
  pub missed : ℕ
  pub sample : ℕ
  pub seen : Seen
  pub gotten : Gotten
  pub fault_is : fault v past ≡ Faulting k.access missed (Some sample) (Some seen) (Some gotten)
  pub so_far : missed ≤ length past
  pub sample_is : SampleIs x sample missed past
  pub look_is : LookIs user k.access.page sample y seen past
  pub backing_is : gotten.backing ≡ b

-- by the stage

abbrev pub Flies : ℕ → ℕ → Ticket → Stage → List Entry → Type 0
Flies user v k at.Missed past = FaultMissed v k past
Flies user v k (at.Sampled x) past = FaultSampled v k x past
Flies user v k (at.Looked x y) past = FaultLooked user v k x y past
Flies user v k (at.Got x y b) past = FaultGot user v k x y b past

by_stage : (user v : ℕ) (k : Ticket) (missed : ℕ) (x : Option Sampled) (y : Option Looked) (b : Option Backing) (s : Option ℕ) (l : Option Seen) (g : Option Gotten) (past : List Entry) → k.sampled ≡ x → k.looked ≡ y → k.backing ≡ b → fault v past ≡ Faulting k.access missed s l g → missed ≤ length past → StageIs user k.access.page missed x y b s l g past → Flies user v k (stage_by x y b) past
by_stage user v k missed None None None None None None past ex ey eb f le h = record { missed = missed; fault_is = f; so_far = le; not_sampled = ex; not_looked = ey; not_got = eb }
by_stage user v k missed (Some x) None None (Some s) None None past ex ey eb f le h = record { missed = missed; sample = s; fault_is = f; so_far = le; sampled = ex; not_looked = ey; not_got = eb; sample_is = h }
by_stage user v k missed (Some x) (Some y) None (Some s) (Some l) None past ex ey eb f le h = record { missed = missed; sample = s; seen = l; fault_is = f; so_far = le; sampled = ex; looked = ey; not_got = eb; sample_is = h.0; look_is = h.1 }
by_stage user v k missed (Some x) (Some y) (Some b) (Some s) (Some l) (Some g) past ex ey eb f le h = record { missed = missed; sample = s; seen = l; gotten = g; fault_is = f; so_far = le; sample_is = h.0; look_is = h.1; backing_is = h.2 }
by_stage user v k missed x y b s l g past ex ey eb f le h = absurd h

by_fault : (user v : ℕ) (k : Ticket) (o : Option Ticket) (x : Fault) (past : List Entry) → o ≡ Some k → fault v past ≡ x → FaultIs user o x past → Flies user v k (stage_of k) past
by_fault user v k None x past e f h = absurd (cc)
by_fault user v k (Some j) NoFault past e f h = absurd h
by_fault user v k (Some j) (Faulting a missed s l g) past e f h =
    let t : TicketIs user k a missed s l g past = subst (λ (i : Ticket). TicketIs user i a missed s l g past) (same j k e) h in
    by_stage user v k missed k.sampled k.looked k.backing s l g past refl refl refl (f ∙ access_in (sym t.access_is)) t.so_far
    (subst (λ (b : Aim). StageIs user b.page missed k.sampled k.looked k.backing s l g past) (sym t.access_is) t.stage_is)
  where
    same : (a b : Ticket) → Some a ≡ Some b → a ≡ b
    same a b e = cc

    access_in : (p : a ≡ k.access) → Faulting a missed s l g ≡ Faulting k.access missed s l g
    access_in p = cc

-- a fault in flight, by how far it is
pub flight : {s : Setup} {vs : List Vcpu} {past : List Entry} (v : ℕ) (k : Ticket) (t : Stage) → VcpusStand s vs past → v < s.vcpus → (vcpu_at vs v).fault ≡ Some k → stage_of k ≡ t → Flies s.user v k t past
flight {s = s} {vs = vs} {past = past} v k t st lt e is =
    subst (λ (z : Stage). Flies s.user v k z past) is (by_fault s.user v k (vcpu_at vs v).fault (fault v past) past e refl (st.each v no_vcpu lt).fault_is)

-- a ticket of a fault that has only missed
pub record OnlyMissed (o : Option Ticket) (a : Aim) : Type 0 where
  pub ticket : Ticket
  pub held : o ≡ Some ticket
  pub stage_is : stage_of ticket ≡ at.Missed
  pub access_is : ticket.access ≡ a

none_yet : (user page missed : ℕ) (x : Option Sampled) (y : Option Looked) (b : Option Backing) (past : List Entry) → StageIs user page missed x y b None None None past → stage_by x y b ≡ at.Missed
none_yet user page missed None y b past h = refl
none_yet user page missed (Some x) None None past h = absurd h
none_yet user page missed (Some x) None (Some b) past h = absurd h
none_yet user page missed (Some x) (Some y) None past h = absurd h
none_yet user page missed (Some x) (Some y) (Some b) past h = absurd h

only_by : (user : ℕ) (o : Option Ticket) (a : Aim) (missed : ℕ) (past : List Entry) → FaultIs user o (Faulting a missed None None None) past → OnlyMissed o a
only_by user None a missed past h = absurd h
only_by user (Some k) a missed past h = record { ticket = k; held = refl; stage_is = none_yet user a.page missed k.sampled k.looked k.backing past h.stage_is; access_is = h.access_is }

-- a fault of the history that has only missed is in flight
pub only_missed : {s : Setup} {vs : List Vcpu} {past : List Entry} (v : ℕ) (a : Aim) (missed : ℕ) → VcpusStand s vs past → v < s.vcpus → fault v past ≡ Faulting a missed None None None → OnlyMissed (vcpu_at vs v).fault a
only_missed {s = s} {vs = vs} {past = past} v a missed st lt e =
    only_by s.user (vcpu_at vs v).fault a missed past (subst (λ (x : Fault). FaultIs s.user (vcpu_at vs v).fault x past) e (st.each v no_vcpu lt).fault_is)

-- what a ticket asks for, its fault does
asked_stage : (user : ℕ) (k : Ticket) (n : ℕ) (a : Aim) (missed : ℕ) (x : Option Sampled) (y : Option Looked) (b : Option Backing) (s : Option ℕ) (l : Option Seen) (g : Option Gotten) (past : List Entry) → k.access ≡ a → n ≡ missed → StageIs user a.page missed x y b s l g past → asked_at (stage_by x y b) k.access n ≡ asked_in (Faulting a missed s l g)
asked_stage user k n a missed None None None None None None past e f h = rw (e, f) refl
asked_stage user k n a missed (Some x) None None (Some s) None None past e f h = refl
asked_stage user k n a missed (Some x) (Some y) None (Some s) (Some l) None past e f h = refl
asked_stage user k n a missed (Some x) (Some y) (Some b) (Some s) (Some l) (Some g) past e f h = refl
asked_stage user k n a missed x y b s l g past e f h = absurd h

asked_fault : (user : ℕ) (o : Option Ticket) (n : ℕ) (x : Fault) (past : List Entry) → FaultIs user o x past → MissedIs n x → asked_by o n ≡ asked_in x
asked_fault user None n NoFault past h e = refl
asked_fault user None n (Faulting a missed s l g) past h e = absurd h
asked_fault user (Some k) n NoFault past h e = absurd h
asked_fault user (Some k) n (Faulting a missed s l g) past h e = asked_stage user k n a missed k.sampled k.looked k.backing s l g past h.access_is e h.stage_is

pub asked_is : {s : Setup} {vs : List Vcpu} {past : List Entry} (v : ℕ) → VcpusStand s vs past → v < s.vcpus → asked_by (vcpu_at vs v).fault (vcpu_at vs v).missed ≡ asked_in (fault v past)
asked_is {s = s} {vs = vs} {past = past} v st lt =
    let x = st.each v no_vcpu lt in
    asked_fault s.user (vcpu_at vs v).fault (vcpu_at vs v).missed (fault v past) past x.fault_is x.missed_is
