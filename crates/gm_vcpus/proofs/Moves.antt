-- The turns of one vCPU.
use Rattle.std.proofs.Common.{◌≡◌, ℕ, ◌+◌, ◌<◌, ◌≤◌, List, ◌∷◌, false, length, get_or, set, suc, Option, Some, None, arith, sym, refl, ◌∙◌, eqb}
use Rattle.std.proofs.lemmas.Bool.Decides.{nat_tests}
use Rattle.std.proofs.lemmas.List.{length-set}
use Rattle.gm_base.specs.Aim.{Aim}
use Rattle.gm_base.specs.declared.values.Actor.TheVariants.{Vcpu as OfVcpu}
use Rattle.gm_base.specs.declared.values.Level.{Level}
use Rattle.gm_base.specs.declared.values.Setup.{Setup}
use Rattle.gm_fault.specs.declared.ticket.Ticket.{Ticket}
use Rattle.gm_flat.specs.Histories.{Fault, Faulting, Gotten, NoFault, Seen, done, fault, with_get, with_look, with_sample}
use Rattle.gm_flat.specs.declared.effect.Backing.{Backing}
use Rattle.gm_flat.specs.declared.effect.Exit.{Exit}
use Rattle.gm_flat.specs.declared.entry.Entry.{Entry}
use Rattle.gm_flat.specs.declared.entry.What.{What}
use Rattle.gm_flat.specs.declared.entry.What.TheVariants.{Miss, Sample, Look, Get, Install, Retry, Touch, Left, Gone}
use Rattle.gm_flat.specs.declared.views.Looked.{Looked}
use Rattle.gm_flat.specs.declared.views.Sampled.{Sampled}
use Rattle.gm_laws.proofs.Counted.{ends_all}
use Rattle.gm_laws.proofs.Kit.{by}
use Rattle.gm_laws.specs.Counting.{ends}
use Rattle.gm_vcpus.proofs.Flights.{flight}
use Rattle.gm_vcpus.proofs.Lists.{self, set_each}
use Rattle.gm_vcpus.proofs.Stays.{fault_later, look_later, sample_later, still_other, vcpu_stays}
use Rattle.gm_vcpus.specs.Stages.{stage_of}
use Rattle.gm_vcpus.specs.Stand.{LookIs, MissedIs, SampleIs, StageIs, VcpuIs, VcpusStand}
use Rattle.gm_vcpus.specs.Vcpus.{exited, getting, leaving, looking, missing, no_vcpu, sampling, settled, touched, vcpu_at}
use Rattle.gm_vcpus.specs.declared.stage.Stage.TheVariants as at
use Rattle.gm_vcpus.specs.declared.vcpu.Vcpu.{Vcpu}

beyond : (c d n : ℕ) → c < n → n ≤ d → eqb c d ≡ false
beyond c d n h k = grind (arith, nat_tests)

-- one vCPU moves, by an entry of its own
pub moved : {s : Setup} {vs : List Vcpu} (t v : ℕ) (w : What) (past : List Entry) (x : Vcpu) → VcpusStand s vs past → v < s.vcpus → VcpuIs s x v (by t (OfVcpu v) w ∷ past) → VcpusStand s (set vs v x) (by t (OfVcpu v) w ∷ past)
moved {s = s} {vs = vs} t v w past x st lt here = record {
  count_is = length-set vs v x ∙ st.count_is;
  each = set_each (λ (u : ℕ) (y : Vcpu). VcpuIs s y u (by t (OfVcpu v) w ∷ past)) vs s.vcpus v x st.count_is lt here (λ u d lu apart. vcpu_stays s (get_or vs u d) u (by t (OfVcpu v) w) past (still_other u w (OfVcpu v) apart) (st.each u d lu));
  none_beyond = λ u le. (still_other u w (OfVcpu v) (beyond v u s.vcpus lt le)).fault_stays (length past) (fault u past) ∙ st.none_beyond u le;
}

-- an access misses

pub misses : {s : Setup} {vs : List Vcpu} {past : List Entry} (t v : ℕ) (a : Aim) (after : ℕ) → VcpusStand s vs past → v < s.vcpus → after ≡ suc (length past) → VcpusStand s (set vs v (missing (vcpu_at vs v) a after)) (by t (OfVcpu v) (Miss a) ∷ past)
misses {s = s} {vs = vs} {past = past} t v a after st lt here =
    let old = st.each v no_vcpu lt in
    moved t v (Miss a) past (missing (vcpu_at vs v) a after) st lt
    (record {
      ended_is = old.ended_is;
      gone_is = old.gone_is;
      missed_is = rw (self v) here;
      fault_is = rw (self v) (record { access_is = refl; so_far = omega arith; stage_is = tt });
    })

-- its fault samples the sequence

sampled_as : (user page missed : ℕ) (z : Sampled) (y : Option Looked) (b : Option Backing) (at : ℕ) (past : List Entry) → y ≡ None → b ≡ None → SampleIs z at missed past → StageIs user page missed (Some z) y b (Some at) None None past
sampled_as user page missed z y b at past ey eb h = rw (ey, eb) h

looked_as : (user page missed : ℕ) (x : Option Sampled) (u : Sampled) (z : Looked) (b : Option Backing) (sample : ℕ) (l : Seen) (past : List Entry) → x ≡ Some u → b ≡ None → SampleIs u sample missed past → LookIs user page sample z l past → StageIs user page missed x (Some z) b (Some sample) (Some l) None past
looked_as user page missed x u z b sample l past ex eb h k = rw (ex, eb) (h, k)

got_as : (user page missed : ℕ) (x : Option Sampled) (u : Sampled) (y : Option Looked) (z : Looked) (b : Backing) (sample : ℕ) (l : Seen) (after : ℕ) (past : List Entry) → x ≡ Some u → y ≡ Some z → SampleIs u sample missed past → LookIs user page sample z l past → StageIs user page missed x y (Some b) (Some sample) (Some l) (Some (record { after = after; backing = b })) past
got_as user page missed x u y z b sample l after past ex ey h k = rw (ex, ey) (h, k, refl)

-- its miss stays where it was
sample_keeps : (n position : ℕ) (x : Fault) → MissedIs n x → MissedIs n (with_sample position x)
sample_keeps n position NoFault h = h
sample_keeps n position (Faulting a m s l g) h = h

look_keeps : (n : ℕ) (seen : Seen) (x : Fault) → MissedIs n x → MissedIs n (with_look seen x)
look_keeps n seen NoFault h = h
look_keeps n seen (Faulting a m s l g) h = h

get_keeps : (n : ℕ) (gotten : Gotten) (x : Fault) → MissedIs n x → MissedIs n (with_get gotten x)
get_keeps n gotten NoFault h = h
get_keeps n gotten (Faulting a m s l g) h = h

more : (a b : ℕ) → a ≤ b → a ≤ suc b
more a b h = omega arith

-- a sample for a position after the miss
pub samples_at : {s : Setup} {vs : List Vcpu} {past : List Entry} (t v : ℕ) (k : Ticket) (z : Sampled) (position : ℕ) → VcpusStand s vs past → v < s.vcpus → (vcpu_at vs v).fault ≡ Some k → stage_of k ≡ at.Missed → ((missed : ℕ) → fault v past ≡ Faulting k.access missed None None None → missed ≤ length past → SampleIs z position missed past) → VcpusStand s (set vs v (sampling (vcpu_at vs v) z)) (by t (OfVcpu v) (Sample position) ∷ past)
samples_at {s = s} {vs = vs} {past = past} t v k z position st lt e is sampled =
    let old = st.each v no_vcpu lt in
    let f = flight v k at.Missed st lt e is in
    let entry : Entry = by t (OfVcpu v) (Sample position) in
    moved t v (Sample position) past (sampling (vcpu_at vs v) z) st lt
    (record {
      ended_is = old.ended_is;
      gone_is = old.gone_is;
      missed_is = rw (self v) (sample_keeps (vcpu_at vs v).missed position (fault v past) old.missed_is);
      fault_is =
          rw (e, self v, f.fault_is)
          (record {
            access_is = refl;
            so_far = more f.missed (length past) f.so_far;
            stage_is = sampled_as s.user k.access.page f.missed z k.looked k.backing position (entry ∷ past) f.not_looked f.not_got (sample_later z position f.missed entry past (sampled f.missed f.fault_is f.so_far));
          });
    })

-- a sample at the present position
now_sampled : (missed : ℕ) (z : Sampled) (past : List Entry) → missed ≤ length past → z.at ≡ length past → z.seq ≡ ends past → SampleIs z (length past) missed past
now_sampled missed z past le at seq = record { at_is = at; after_miss = le; so_far = omega arith; seq_is = seq ∙ sym (ends_all past) }

pub samples : {s : Setup} {vs : List Vcpu} {past : List Entry} (t v : ℕ) (k : Ticket) (z : Sampled) → VcpusStand s vs past → v < s.vcpus → (vcpu_at vs v).fault ≡ Some k → stage_of k ≡ at.Missed → z.at ≡ length past → z.seq ≡ ends past → VcpusStand s (set vs v (sampling (vcpu_at vs v) z)) (by t (OfVcpu v) (Sample (length past)) ∷ past)
samples {past = past} t v k z st lt e is here seq = samples_at t v k z (length past) st lt e is (λ missed _ le. now_sampled missed z past le here seq)

-- its fault looks up its page, for a position after its sample

abbrev pub seen_by : ℕ → ℕ → Looked → Option ℕ → Option ℕ → Seen
seen_by place at z slot file = record { place = place; at = at; slot = slot; attr = z.attr; file = file }

pub looks : {s : Setup} {vs : List Vcpu} {past : List Entry} (t v : ℕ) (k : Ticket) (x : Sampled) (z : Looked) (position : ℕ) (slot file : Option ℕ) → VcpusStand s vs past → v < s.vcpus → (vcpu_at vs v).fault ≡ Some k → stage_of k ≡ at.Sampled x → ((sample : ℕ) → x.at ≡ sample → sample ≤ length past → LookIs s.user k.access.page sample z (seen_by (length past) position z slot file) (by t (OfVcpu v) (Look position slot z.attr file) ∷ past)) → VcpusStand s (set vs v (looking (vcpu_at vs v) z)) (by t (OfVcpu v) (Look position slot z.attr file) ∷ past)
looks {s = s} {vs = vs} {past = past} t v k x z position slot file st lt e is look =
    let old = st.each v no_vcpu lt in
    let f = flight v k (at.Sampled x) st lt e is in
    let entry : Entry = by t (OfVcpu v) (Look position slot z.attr file) in
    moved t v (Look position slot z.attr file) past (looking (vcpu_at vs v) z) st lt
    (record {
      ended_is = old.ended_is;
      gone_is = old.gone_is;
      missed_is = rw (self v) (look_keeps (vcpu_at vs v).missed (seen_by (length past) position z slot file) (fault v past) old.missed_is);
      fault_is =
          rw (e, self v, f.fault_is)
          (record {
            access_is = refl;
            so_far = more f.missed (length past) f.so_far;
            stage_is = looked_as s.user k.access.page f.missed k.sampled x z k.backing f.sample (seen_by (length past) position z slot file) (entry ∷ past) f.sampled f.not_got (sample_later x f.sample f.missed entry past f.sample_is) (look f.sample f.sample_is.at_is f.sample_is.so_far);
          });
    })

-- its fault gets its backing

pub gets : {s : Setup} {vs : List Vcpu} {past : List Entry} (t v : ℕ) (k : Ticket) (x : Sampled) (y : Looked) (b : Backing) (fresh : ℕ) → VcpusStand s vs past → v < s.vcpus → (vcpu_at vs v).fault ≡ Some k → stage_of k ≡ at.Looked x y → VcpusStand s (set vs v (getting (vcpu_at vs v) b)) (by t (OfVcpu v) (Get b fresh) ∷ past)
gets {s = s} {vs = vs} {past = past} t v k x y b fresh st lt e is =
    let old = st.each v no_vcpu lt in
    let f = flight v k (at.Looked x y) st lt e is in
    let entry : Entry = by t (OfVcpu v) (Get b fresh) in
    moved t v (Get b fresh) past (getting (vcpu_at vs v) b) st lt
    (record {
      ended_is = old.ended_is;
      gone_is = old.gone_is;
      missed_is = rw (self v) (get_keeps (vcpu_at vs v).missed (record { after = suc (length past); backing = b }) (fault v past) old.missed_is);
      fault_is =
          rw (e, self v, f.fault_is)
          (record {
            access_is = refl;
            so_far = more f.missed (length past) f.so_far;
            stage_is = got_as s.user k.access.page f.missed k.sampled x k.looked y b f.sample f.seen (suc (length past)) (entry ∷ past) f.sampled f.looked (sample_later x f.sample f.missed entry past f.sample_is) (look_later s.user k.access.page f.sample y f.seen entry past f.look_is);
          });
    })

-- its fault installs its leaf

pub installs : {s : Setup} {vs : List Vcpu} {past : List Entry} (t v page : ℕ) (level : Level) → VcpusStand s vs past → v < s.vcpus → VcpusStand s (set vs v (settled (vcpu_at vs v))) (by t (OfVcpu v) (Install page level) ∷ past)
installs {s = s} {vs = vs} {past = past} t v page level st lt =
    let old = st.each v no_vcpu lt in
    moved t v (Install page level) past (settled (vcpu_at vs v)) st lt (record { ended_is = old.ended_is; gone_is = old.gone_is; missed_is = rw (self v) tt; fault_is = rw (self v) tt })

-- its fault is tried again

pub retries : {s : Setup} {vs : List Vcpu} {past : List Entry} (t v : ℕ) → VcpusStand s vs past → v < s.vcpus → VcpusStand s (set vs v (settled (vcpu_at vs v))) (by t (OfVcpu v) Retry ∷ past)
retries {s = s} {vs = vs} {past = past} t v st lt =
    let old = st.each v no_vcpu lt in
    moved t v Retry past (settled (vcpu_at vs v)) st lt (record { ended_is = old.ended_is; gone_is = old.gone_is; missed_is = rw (self v) tt; fault_is = rw (self v) tt })

-- its command touches, and so ends

plus_one : (a b : ℕ) → a ≡ b → a + 1 ≡ suc b
plus_one a b h = omega arith

pub touches : {s : Setup} {vs : List Vcpu} {past : List Entry} (t v : ℕ) (a : Aim) (b : Backing) (level : Level) (value fill : ℕ) → VcpusStand s vs past → v < s.vcpus → VcpusStand s (set vs v (touched (vcpu_at vs v))) (by t (OfVcpu v) (Touch a b level value fill) ∷ past)
touches {s = s} {vs = vs} {past = past} t v a b level value fill st lt =
    let old = st.each v no_vcpu lt in
    moved t v (Touch a b level value fill) past (touched (vcpu_at vs v)) st lt
    (record {
      ended_is = rw (self v) (plus_one (vcpu_at vs v).ended (done (OfVcpu v) past) old.ended_is);
      gone_is = old.gone_is;
      missed_is = old.missed_is;
      fault_is = fault_later s.user (vcpu_at vs v).fault (fault v past) (by t (OfVcpu v) (Touch a b level value fill)) past old.fault_is;
    })

-- its command leaves the guest, and so ends with its fault

pub exits : {s : Setup} {vs : List Vcpu} {past : List Entry} (t v : ℕ) (why : Exit) → VcpusStand s vs past → v < s.vcpus → VcpusStand s (set vs v (exited (vcpu_at vs v))) (by t (OfVcpu v) (Left why) ∷ past)
exits {s = s} {vs = vs} {past = past} t v why st lt =
    let old = st.each v no_vcpu lt in
    moved t v (Left why) past (exited (vcpu_at vs v)) st lt
    (record {
      ended_is = rw (self v) (plus_one (vcpu_at vs v).ended (done (OfVcpu v) past) old.ended_is);
      gone_is = old.gone_is;
      missed_is = rw (self v) tt;
      fault_is = rw (self v) tt;
    })

-- it has no command left

pub leaves : {s : Setup} {vs : List Vcpu} {past : List Entry} (t v : ℕ) → VcpusStand s vs past → v < s.vcpus → VcpusStand s (set vs v (leaving (vcpu_at vs v))) (by t (OfVcpu v) Gone ∷ past)
leaves {s = s} {vs = vs} {past = past} t v st lt =
    let old = st.each v no_vcpu lt in
    moved t v Gone past (leaving (vcpu_at vs v)) st lt
    (record {
      ended_is = old.ended_is;
      gone_is = rw (self v) refl;
      missed_is = old.missed_is;
      fault_is = fault_later s.user (vcpu_at vs v).fault (fault v past) (by t (OfVcpu v) Gone) past old.fault_is;
    })
