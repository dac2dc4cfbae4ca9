-- How many faults hold a folio, and how an entry changes that.
use Rattle.std.proofs.Common.{◌≡◌, ℕ, ◌<◌, ◌≤◌, ◌⊎◌, inl, inr, List, [], ◌∷◌, Bool, true, false, length, zero, suc, Option, Some, None, arith, subst, sym, ◌∙◌, ap, refl, cond, eqb, leb}
use Rattle.std.proofs.lemmas.Bool.{cases_Bool, eqb-true, eq-eqb}
use Rattle.std.proofs.lemmas.Bool.Decides.{nat_tests}
use Rattle.gm_base.specs.Aim.{Aim}
use Rattle.gm_base.specs.declared.values.Actor.TheVariants.{Vcpu as OfVcpu}
use Rattle.gm_base.specs.declared.values.Kind.{Kind}
use Rattle.gm_base.specs.declared.values.Level.{Level}
use Rattle.gm_base.specs.declared.values.Setup.{Setup}
use Rattle.gm_fault.specs.declared.ticket.Ticket.{Ticket}
use Rattle.gm_flat.specs.Histories.{Fault, Faulting, Gotten, NoFault, Seen, fault, with_get, with_look, with_sample}
use Rattle.gm_flat.specs.RightLives.{FaultHolds, IsHeld, IsOfFolio}
use Rattle.gm_flat.specs.declared.effect.Backing.{Backing}
use Rattle.gm_flat.specs.declared.effect.Backing.TheVariants.{User as InUser, Folio as InFolio}
use Rattle.gm_flat.specs.declared.effect.Exit.{Exit}
use Rattle.gm_flat.specs.declared.entry.Entry.{Entry}
use Rattle.gm_flat.specs.declared.entry.What.{What}
use Rattle.gm_flat.specs.declared.entry.What.TheVariants.{Miss, Sample, Look, Get, Install, Retry, Touch, Left, Gone}
use Rattle.gm_flat.specs.declared.views.Looked.{Looked}
use Rattle.gm_flat.specs.declared.views.Sampled.{Sampled}
use Rattle.gm_laws.proofs.Kit.{by}
use Rattle.gm_vcpus.proofs.Allowed.{AtGet, AtLook, flying, holding}
use Rattle.gm_vcpus.proofs.Flights.{no_fault}
use Rattle.gm_vcpus.proofs.Lists.{self}
use Rattle.gm_vcpus.proofs.Stays.{still, still_other}
use Rattle.gm_vcpus.specs.Holds.{fault_holds, holds_of, is_of_folio, one_more}
use Rattle.gm_vcpus.specs.Stand.{VcpusStand, moves_vcpus}
use Rattle.gm_vcpus.specs.Vcpus.{vcpu_at}
use Rattle.gm_vcpus.specs.declared.vcpu.Vcpu.{Vcpu}

-- whether a fault holds it

of_folio : (serial : ℕ) (b : Backing) → IsOfFolio serial b → is_of_folio serial b ≡ true
of_folio serial (InUser user) h = absurd h
of_folio serial (InFolio folio) h = eq-eqb folio.serial serial h

is_folio : (serial : ℕ) (b : Backing) → is_of_folio serial b ≡ true → IsOfFolio serial b
is_folio serial (InUser user) h = absurd (cc)
is_folio serial (InFolio folio) h = eqb-true folio.serial serial h

pub holds_true : (serial : ℕ) (x : Fault) → FaultHolds serial x → fault_holds serial x ≡ true
holds_true serial NoFault h = absurd h
holds_true serial (Faulting a m s l None) h = absurd h
holds_true serial (Faulting a m s l (Some g)) h = of_folio serial g.backing h

pub true_holds : (serial : ℕ) (x : Fault) → fault_holds serial x ≡ true → FaultHolds serial x
true_holds serial NoFault h = absurd (cc)
true_holds serial (Faulting a m s l None) h = absurd (cc)
true_holds serial (Faulting a m s l (Some g)) h = is_folio serial g.backing h

-- held exactly where the count isn't 0

pub count_held : (n serial : ℕ) (past : List Entry) → 0 < holds_of n serial past → IsHeld serial past
count_held zero serial past h = absurd (omega arith)
count_held (suc n) serial past h = step (fault_holds serial (fault n past)) refl (λ l. count_held n serial past l) h
  where
    step : (t : Bool) → fault_holds serial (fault n past) ≡ t → (0 < holds_of n serial past → IsHeld serial past) → 0 < one_more t (holds_of n serial past) → IsHeld serial past
    step true e ih h = (n, true_holds serial (fault n past) e)
    step false e ih h = ih h

held_counted : (n serial v : ℕ) (past : List Entry) → v < n → fault_holds serial (fault v past) ≡ true → 0 < holds_of n serial past
held_counted zero serial v past lt h = absurd (omega arith)
held_counted (suc n) serial v past lt h = elim (cases_Bool (eqb v n)) [
  | inl e ↦ rw (subst (λ (u : ℕ). fault_holds serial (fault u past) ≡ true) (eqb-true v n e) h) (omega arith)
  | inr e ↦ grows (fault_holds serial (fault n past)) (holds_of n serial past) (held_counted n serial v past (below v n lt e) h)
]
  where
    below : (v n : ℕ) → v < suc n → eqb v n ≡ false → v < n
    below v n h e = grind (arith, nat_tests)

    grows : (t : Bool) (x : ℕ) → 0 < x → 0 < one_more t x
    grows true x h = omega arith
    grows false x h = h

pub held_count : {s : Setup} {vs : List Vcpu} {past : List Entry} (serial : ℕ) → VcpusStand s vs past → IsHeld serial past → 0 < holds_of s.vcpus serial past
held_count {s = s} {past = past} serial st h = elim (cases_Bool (leb s.vcpus h.0)) [
  | inl e ↦ absurd (subst (λ (x : Fault). FaultHolds serial x) (st.none_beyond h.0 (le s.vcpus h.0 e)) h.1)
  | inr e ↦ held_counted s.vcpus serial h.0 past (gt s.vcpus h.0 e) (holds_true serial (fault h.0 past) h.1)
]
  where
    le : (a b : ℕ) → leb a b ≡ true → a ≤ b
    le a b h = grind (arith, nat_tests)

    gt : (a b : ℕ) → leb a b ≡ false → b < a
    gt a b h = grind (arith, nat_tests)

pub none_held : {s : Setup} {vs : List Vcpu} {past : List Entry} (serial : ℕ) → VcpusStand s vs past → holds_of s.vcpus serial past ≡ 0 → IsHeld serial past → ⊥
none_held {s = s} {past = past} serial st e h = let l = held_count serial st h in absurd (omega arith)

-- a folio is held, or none of the first n holds it
pub held_or_none : (n serial : ℕ) (past : List Entry) → IsHeld serial past ⊎ (holds_of n serial past ≡ 0)
held_or_none n serial past = elim (cases_Bool (eqb (holds_of n serial past) 0)) [
  | inl e ↦ inr (eqb-true (holds_of n serial past) 0 e)
  | inr e ↦ inl (count_held n serial past (some (holds_of n serial past) e))
]
  where
    some : (x : ℕ) → eqb x 0 ≡ false → 0 < x
    some x e = grind (arith, nat_tests)

-- an entry that leaves each fault as it was

same_all : (n serial : ℕ) (e : Entry) (past : List Entry) → ((u : ℕ) → u < n → fault_holds serial (fault u (e ∷ past)) ≡ fault_holds serial (fault u past)) → holds_of n serial (e ∷ past) ≡ holds_of n serial past
same_all zero serial e past h = refl
same_all (suc n) serial e past h =
    ap (λ (t : Bool). one_more t (holds_of n serial (e ∷ past))) (h n (omega arith)) ∙
    ap (λ (x : ℕ). one_more (fault_holds serial (fault n past)) x) (same_all n serial e past (λ u lt. h u (omega arith)))

pub holds_quiet : (n serial : ℕ) (e : Entry) (past : List Entry) → moves_vcpus e.what e.actor ≡ false → holds_of n serial (e ∷ past) ≡ holds_of n serial past
holds_quiet n serial e past h = same_all n serial e past (λ u lt. ap (fault_holds serial) ((still u e.what e.actor h).fault_stays (length past) (fault u past)))

-- an entry of one vCPU

swap : (t u : Bool) (x : ℕ) → one_more t (one_more u x) ≡ one_more u (one_more t x)
swap true true x = refl
swap true false x = refl
swap false true x = refl
swap false false x = refl

under : (b t u : Bool) (x y : ℕ) → one_more t x ≡ one_more u y → one_more t (one_more b x) ≡ one_more u (one_more b y)
under b t u x y h = swap t b x ∙ (ap (one_more b) h ∙ swap b u y)

other : (t u v : ℕ) (w : What) (past : List Entry) → eqb v u ≡ false → fault u (by t (OfVcpu v) w ∷ past) ≡ fault u past
other t u v w past e = (still_other u w (OfVcpu v) e).fault_stays (length past) (fault u past)

apart : (v n u : ℕ) → v ≡ n → u < n → eqb v u ≡ false
apart v n u e lt = grind (arith, nat_tests)

balance_here : (n serial t v : ℕ) (w : What) (past : List Entry) → v ≡ n → one_more (fault_holds serial (fault v past)) (holds_of (suc n) serial (by t (OfVcpu v) w ∷ past)) ≡ one_more (fault_holds serial (fault v (by t (OfVcpu v) w ∷ past))) (holds_of (suc n) serial past)
balance_here n serial t v w past e =
    let same : holds_of n serial (by t (OfVcpu v) w ∷ past) ≡ holds_of n serial past = same_all n serial (by t (OfVcpu v) w) past (λ u lt. ap (fault_holds serial) (other t u v w past (apart v n u e lt))) in
    ap (λ (u : ℕ). one_more (fault_holds serial (fault v past)) (one_more (fault_holds serial (fault u (by t (OfVcpu v) w ∷ past))) (holds_of n serial (by t (OfVcpu v) w ∷ past)))) (sym e) ∙
    (swap (fault_holds serial (fault v past)) (fault_holds serial (fault v (by t (OfVcpu v) w ∷ past))) (holds_of n serial (by t (OfVcpu v) w ∷ past)) ∙
    (ap (λ (x : ℕ). one_more (fault_holds serial (fault v (by t (OfVcpu v) w ∷ past))) (one_more (fault_holds serial (fault v past)) x)) same ∙
    ap (λ (u : ℕ). one_more (fault_holds serial (fault v (by t (OfVcpu v) w ∷ past))) (one_more (fault_holds serial (fault u past)) (holds_of n serial past))) e))

balance_there : (n serial t v : ℕ) (w : What) (past : List Entry) → eqb v n ≡ false → one_more (fault_holds serial (fault v past)) (holds_of n serial (by t (OfVcpu v) w ∷ past)) ≡ one_more (fault_holds serial (fault v (by t (OfVcpu v) w ∷ past))) (holds_of n serial past) → one_more (fault_holds serial (fault v past)) (holds_of (suc n) serial (by t (OfVcpu v) w ∷ past)) ≡ one_more (fault_holds serial (fault v (by t (OfVcpu v) w ∷ past))) (holds_of (suc n) serial past)
balance_there n serial t v w past e ih =
    ap (λ (b : Bool). one_more (fault_holds serial (fault v past)) (one_more b (holds_of n serial (by t (OfVcpu v) w ∷ past)))) (ap (fault_holds serial) (other t n v w past e)) ∙
    under (fault_holds serial (fault n past)) (fault_holds serial (fault v past)) (fault_holds serial (fault v (by t (OfVcpu v) w ∷ past))) (holds_of n serial (by t (OfVcpu v) w ∷ past)) (holds_of n serial past) ih

-- the counts before and after differ as what its own fault holds
pub balance : (n serial t v : ℕ) (w : What) (past : List Entry) → v < n → one_more (fault_holds serial (fault v past)) (holds_of n serial (by t (OfVcpu v) w ∷ past)) ≡ one_more (fault_holds serial (fault v (by t (OfVcpu v) w ∷ past))) (holds_of n serial past)
balance zero serial t v w past lt = absurd (omega arith)
balance (suc n) serial t v w past lt = elim (cases_Bool (eqb v n)) [
  | inl e ↦ balance_here n serial t v w past (eqb-true v n e)
  | inr e ↦ balance_there n serial t v w past e (balance n serial t v w past (below v n lt e))
]
  where
    below : (v n : ℕ) → v < suc n → eqb v n ≡ false → v < n
    below v n h e = grind (arith, nat_tests)

cancel : (t : Bool) (x y : ℕ) → one_more t x ≡ one_more t y → x ≡ y
cancel true x y h = omega arith
cancel false x y h = h

-- where its own fault holds what it held
own_same : (n serial t v : ℕ) (w : What) (past : List Entry) → v < n → fault_holds serial (fault v (by t (OfVcpu v) w ∷ past)) ≡ fault_holds serial (fault v past) → holds_of n serial (by t (OfVcpu v) w ∷ past) ≡ holds_of n serial past
own_same n serial t v w past lt e =
    cancel (fault_holds serial (fault v past)) (holds_of n serial (by t (OfVcpu v) w ∷ past)) (holds_of n serial past)
    (balance n serial t v w past lt ∙ ap (λ (b : Bool). one_more b (holds_of n serial past)) e)

-- where it held nothing
own_more : (n serial t v : ℕ) (w : What) (past : List Entry) → v < n → fault_holds serial (fault v past) ≡ false → holds_of n serial (by t (OfVcpu v) w ∷ past) ≡ one_more (fault_holds serial (fault v (by t (OfVcpu v) w ∷ past))) (holds_of n serial past)
own_more n serial t v w past lt e = ap (λ (b : Bool). one_more b (holds_of n serial (by t (OfVcpu v) w ∷ past))) (sym e) ∙ balance n serial t v w past lt

-- where it holds nothing any more
own_less : (n serial t v : ℕ) (w : What) (past : List Entry) → v < n → fault_holds serial (fault v (by t (OfVcpu v) w ∷ past)) ≡ false → one_more (fault_holds serial (fault v past)) (holds_of n serial (by t (OfVcpu v) w ∷ past)) ≡ holds_of n serial past
own_less n serial t v w past lt e = balance n serial t v w past lt ∙ ap (λ (b : Bool). one_more b (holds_of n serial past)) e

-- the nine kinds

pub holds_miss : {s : Setup} {vs : List Vcpu} {past : List Entry} (serial t v : ℕ) (a : Aim) → VcpusStand s vs past → v < s.vcpus → (vcpu_at vs v).fault ≡ None → holds_of s.vcpus serial (by t (OfVcpu v) (Miss a) ∷ past) ≡ holds_of s.vcpus serial past
holds_miss {s = s} {past = past} serial t v a st lt none =
    own_same s.vcpus serial t v (Miss a) past lt
    (ap (λ (b : Bool). fault_holds serial (cond b (Faulting a (suc (length past)) None None None) (fault v past))) (self v) ∙ sym (ap (fault_holds serial) (no_fault v st lt none)))

sample_same : (serial at : ℕ) (t : Bool) (x : Fault) → fault_holds serial (cond t (with_sample at x) x) ≡ fault_holds serial x
sample_same serial at true NoFault = refl
sample_same serial at true (Faulting a m s l None) = refl
sample_same serial at true (Faulting a m s l (Some g)) = refl
sample_same serial at false x = refl

pub holds_sample : (n serial t v at : ℕ) (past : List Entry) → v < n → holds_of n serial (by t (OfVcpu v) (Sample at) ∷ past) ≡ holds_of n serial past
holds_sample n serial t v at past lt = own_same n serial t v (Sample at) past lt (sample_same serial at (eqb v v) (fault v past))

look_same : (serial : ℕ) (seen : Seen) (t : Bool) (x : Fault) → fault_holds serial (cond t (with_look seen x) x) ≡ fault_holds serial x
look_same serial seen true NoFault = refl
look_same serial seen true (Faulting a m s l None) = refl
look_same serial seen true (Faulting a m s l (Some g)) = refl
look_same serial seen false x = refl

pub holds_look : (n serial t v at : ℕ) (slot : Option ℕ) (attr : Kind) (file : Option ℕ) (past : List Entry) → v < n → holds_of n serial (by t (OfVcpu v) (Look at slot attr file) ∷ past) ≡ holds_of n serial past
holds_look n serial t v at slot attr file past lt =
    own_same n serial t v (Look at slot attr file) past lt (look_same serial (record { place = length past; at = at; slot = slot; attr = attr; file = file }) (eqb v v) (fault v past))

-- one more for the serial of a folio that is got
pub holds_get : (s : Setup) (vs : List Vcpu) (past : List Entry) (serial t v : ℕ) (k : Ticket) (x : Sampled) (y : Looked) (b : Backing) (fresh : ℕ) → AtLook s vs past v k x y → holds_of s.vcpus serial (by t (OfVcpu v) (Get b fresh) ∷ past) ≡ one_more (is_of_folio serial b) (holds_of s.vcpus serial past)
holds_get s vs past serial t v k x y b fresh h =
    let f = flying s vs past v k x y h in
    let g : Gotten = record { after = suc (length past); backing = b } in
    own_more s.vcpus serial t v (Get b fresh) past h.actor (ap (fault_holds serial) f.fault_is) ∙
    (ap (λ (c : Bool). one_more (fault_holds serial (cond c (with_get g (fault v past)) (fault v past))) (holds_of s.vcpus serial past)) (self v) ∙
    ap (λ (z : Fault). one_more (fault_holds serial (with_get g z)) (holds_of s.vcpus serial past)) f.fault_is)

-- one less where a fault that got a folio is over
over : (s : Setup) (vs : List Vcpu) (past : List Entry) (serial t v : ℕ) (k : Ticket) (x : Sampled) (y : Looked) (b : Backing) (w : What) → AtGet s vs past v k x y b → fault v (by t (OfVcpu v) w ∷ past) ≡ NoFault → one_more (is_of_folio serial b) (holds_of s.vcpus serial (by t (OfVcpu v) w ∷ past)) ≡ holds_of s.vcpus serial past
over s vs past serial t v k x y b w h e =
    let f = holding s vs past v k x y b h in
    ap (λ (c : Backing). one_more (is_of_folio serial c) (holds_of s.vcpus serial (by t (OfVcpu v) w ∷ past))) (sym f.backing_is) ∙
    (ap (λ (z : Fault). one_more (fault_holds serial z) (holds_of s.vcpus serial (by t (OfVcpu v) w ∷ past))) (sym f.fault_is) ∙
    own_less s.vcpus serial t v w past h.actor (ap (fault_holds serial) e))

ended_fault : (t v : ℕ) (past : List Entry) → cond (eqb v v) NoFault (fault v past) ≡ NoFault
ended_fault t v past = ap (λ (b : Bool). cond b NoFault (fault v past)) (self v)

pub holds_install : (s : Setup) (vs : List Vcpu) (past : List Entry) (serial t v : ℕ) (k : Ticket) (x : Sampled) (y : Looked) (b : Backing) (page : ℕ) (level : Level) → AtGet s vs past v k x y b → one_more (is_of_folio serial b) (holds_of s.vcpus serial (by t (OfVcpu v) (Install page level) ∷ past)) ≡ holds_of s.vcpus serial past
holds_install s vs past serial t v k x y b page level h = over s vs past serial t v k x y b (Install page level) h (ended_fault t v past)

pub holds_retry : (s : Setup) (vs : List Vcpu) (past : List Entry) (serial t v : ℕ) (k : Ticket) (x : Sampled) (y : Looked) (b : Backing) → AtGet s vs past v k x y b → one_more (is_of_folio serial b) (holds_of s.vcpus serial (by t (OfVcpu v) Retry ∷ past)) ≡ holds_of s.vcpus serial past
holds_retry s vs past serial t v k x y b h = over s vs past serial t v k x y b Retry h (ended_fault t v past)

-- no right history has an exit after a Get; its count would fall too
pub holds_exit_got : (s : Setup) (vs : List Vcpu) (past : List Entry) (serial t v : ℕ) (k : Ticket) (x : Sampled) (y : Looked) (b : Backing) (why : Exit) → AtGet s vs past v k x y b → one_more (is_of_folio serial b) (holds_of s.vcpus serial (by t (OfVcpu v) (Left why) ∷ past)) ≡ holds_of s.vcpus serial past
holds_exit_got s vs past serial t v k x y b why h = over s vs past serial t v k x y b (Left why) h (ended_fault t v past)

-- a fault that got nothing holds nothing
free_over : (s : Setup) (vs : List Vcpu) (past : List Entry) (serial t v : ℕ) (k : Ticket) (x : Sampled) (y : Looked) (w : What) → AtLook s vs past v k x y → fault v (by t (OfVcpu v) w ∷ past) ≡ NoFault → holds_of s.vcpus serial (by t (OfVcpu v) w ∷ past) ≡ holds_of s.vcpus serial past
free_over s vs past serial t v k x y w h e =
    own_same s.vcpus serial t v w past h.actor (ap (fault_holds serial) e ∙ sym (ap (fault_holds serial) (flying s vs past v k x y h).fault_is))

pub holds_retry_looked : (s : Setup) (vs : List Vcpu) (past : List Entry) (serial t v : ℕ) (k : Ticket) (x : Sampled) (y : Looked) → AtLook s vs past v k x y → holds_of s.vcpus serial (by t (OfVcpu v) Retry ∷ past) ≡ holds_of s.vcpus serial past
holds_retry_looked s vs past serial t v k x y h = free_over s vs past serial t v k x y Retry h (ended_fault t v past)

pub holds_exit : (s : Setup) (vs : List Vcpu) (past : List Entry) (serial t v : ℕ) (k : Ticket) (x : Sampled) (y : Looked) (why : Exit) → AtLook s vs past v k x y → holds_of s.vcpus serial (by t (OfVcpu v) (Left why) ∷ past) ≡ holds_of s.vcpus serial past
holds_exit s vs past serial t v k x y why h = free_over s vs past serial t v k x y (Left why) h (ended_fault t v past)

pub holds_touch : (n serial t v : ℕ) (a : Aim) (b : Backing) (level : Level) (value fill : ℕ) (past : List Entry) → holds_of n serial (by t (OfVcpu v) (Touch a b level value fill) ∷ past) ≡ holds_of n serial past
holds_touch n serial t v a b level value fill past = same_all n serial (by t (OfVcpu v) (Touch a b level value fill)) past (λ u lt. refl)

pub holds_gone : (n serial t v : ℕ) (past : List Entry) → holds_of n serial (by t (OfVcpu v) Gone ∷ past) ≡ holds_of n serial past
holds_gone n serial t v past = same_all n serial (by t (OfVcpu v) Gone) past (λ u lt. refl)

-- no entry yet
pub holds_opens : (n serial : ℕ) → holds_of n serial [] ≡ 0
holds_opens zero serial = refl
holds_opens (suc n) serial = holds_opens n serial
