-- What an entry that moves no vCPU leaves as it was.
use Rattle.std.proofs.Common.{◌≡◌, ℕ, ◌<◌, ◌≤◌, List, [], ◌∷◌, Bool, true, false, length, get_or, suc, Option, Some, None, arith, subst, sym, refl, ◌∙◌, ap, cond, leb, zero, replicate}
use Rattle.std.proofs.lemmas.List.{length-replicate}
use Rattle.gm_base.specs.declared.values.Actor.{Actor}
use Rattle.gm_base.specs.declared.values.Actor.TheVariants.{Vcpu as OfVcpu, Caller}
use Rattle.gm_base.specs.declared.values.Setup.{Setup}
use Rattle.gm_fault.specs.declared.ticket.Ticket.{Ticket}
use Rattle.gm_flat.specs.FlatState.{Flat}
use Rattle.gm_flat.specs.Histories.{Fault, Faulting, NoFault, Gotten, Seen, done, ends_one, fault, fault_step, gone, gone_step, is_vcpu, same_actor}
use Rattle.gm_flat.specs.Replay.{looked_slot, slot_by}
use Rattle.gm_flat.specs.declared.effect.Backing.{Backing}
use Rattle.gm_flat.specs.declared.entry.Entry.{Entry}
use Rattle.gm_flat.specs.declared.entry.What.{What}
use Rattle.gm_flat.specs.declared.entry.What.TheVariants.{Miss, Sample, Look, Get, Install, Retry, Touch, Left, Answer, Gone}
use Rattle.gm_flat.specs.declared.views.Looked.{Looked}
use Rattle.gm_flat.specs.declared.views.Sampled.{Sampled}
use Rattle.gm_laws.proofs.Counted.{ends_keep}
use Rattle.gm_laws.proofs.Kit.{flat_at_keep}
use Rattle.gm_vcpus.specs.Stand.{FaultIs, LookIs, MissedIs, SampleIs, StageIs, VcpuIs, VcpusStand, moves_vcpus}
use Rattle.gm_vcpus.specs.Vcpus.{no_vcpu}
use Rattle.gm_vcpus.specs.declared.vcpu.Vcpu.{Vcpu}

-- an entry doesn't move the vCPU
pub record Still (v : ℕ) (w : What) (a : Actor) : Type 0 where
  pub fault_stays : (n : ℕ) (x : Fault) → fault_step v w a n x ≡ x
  pub none_gone : gone_step w (same_actor (OfVcpu v) a) ≡ false
  pub none_done : ends_one w (same_actor (OfVcpu v) a) ≡ false

fault_other : (v : ℕ) (w : What) (a : Actor) (n : ℕ) (x : Fault) → is_vcpu v a ≡ false → fault_step v w a n x ≡ x
fault_other v (Miss access) a n x h = rw h refl
fault_other v (Sample at) a n x h = rw h refl
fault_other v (Look at slot attr file) a n x h = rw h refl
fault_other v (Get backing fresh) a n x h = rw h refl
fault_other v (Install page level) a n x h = rw h refl
fault_other v Retry a n x h = rw h refl
fault_other v (Left why) a n x h = rw h refl
fault_other v _ a n x h = refl

gone_other : (w : What) (own : Bool) → own ≡ false → gone_step w own ≡ false
gone_other Gone own h = h
gone_other _ own h = refl

done_other : (w : What) (own : Bool) → own ≡ false → ends_one w own ≡ false
done_other (Touch a b l v f) own h = h
done_other (Left why) own h = h
done_other (Answer r) own h = h
done_other _ own h = refl

pub still_other : (v : ℕ) (w : What) (a : Actor) → is_vcpu v a ≡ false → Still v w a
still_other v w a h = record {
  fault_stays = λ n x. fault_other v w a n x h;
  none_gone = gone_other w (same_actor (OfVcpu v) a) h;
  none_done = done_other w (same_actor (OfVcpu v) a) h;
}

-- a vCPU's entry of another kind
quiet_fault : (v : ℕ) (w : What) (a : Actor) (n : ℕ) (x : Fault) → moves_vcpus w a ≡ false → fault_step v w a n x ≡ x
quiet_fault v (Miss access) (OfVcpu u) n x h = absurd (cc)
quiet_fault v (Sample at) (OfVcpu u) n x h = absurd (cc)
quiet_fault v (Look at slot attr file) (OfVcpu u) n x h = absurd (cc)
quiet_fault v (Get backing fresh) (OfVcpu u) n x h = absurd (cc)
quiet_fault v (Install page level) (OfVcpu u) n x h = absurd (cc)
quiet_fault v Retry (OfVcpu u) n x h = absurd (cc)
quiet_fault v (Left why) (OfVcpu u) n x h = absurd (cc)
quiet_fault v w (Caller c) n x h = fault_other v w (Caller c) n x refl
quiet_fault v _ a n x h = refl

quiet_gone : (w : What) (v u : ℕ) → moves_vcpus w (OfVcpu u) ≡ false → gone_step w (same_actor (OfVcpu v) (OfVcpu u)) ≡ false
quiet_gone Gone v u h = absurd (cc)
quiet_gone _ v u h = refl

quiet_done : (w : What) (v u : ℕ) → moves_vcpus w (OfVcpu u) ≡ false → ends_one w (same_actor (OfVcpu v) (OfVcpu u)) ≡ false
quiet_done (Touch a b l x f) v u h = absurd (cc)
quiet_done (Left why) v u h = absurd (cc)
quiet_done (Answer r) v u h = absurd (cc)
quiet_done _ v u h = refl

pub still : (v : ℕ) (w : What) (a : Actor) → moves_vcpus w a ≡ false → Still v w a
still v w (Caller c) h = still_other v w (Caller c) refl
still v w (OfVcpu u) h = record {
  fault_stays = λ n x. quiet_fault v w (OfVcpu u) n x h;
  none_gone = quiet_gone w v u h;
  none_done = quiet_done w v u h;
}

-- one entry later

more : (a b : ℕ) → a ≤ b → a ≤ suc b
more a b h = omega arith

pub sample_later : (x : Sampled) (at missed : ℕ) (e : Entry) (past : List Entry) → SampleIs x at missed past → SampleIs x at missed (e ∷ past)
sample_later x at missed e past h = record {
  at_is = h.at_is;
  after_miss = h.after_miss;
  so_far = more at (length past) h.so_far;
  seq_is = h.seq_is ∙ sym (ends_keep at e past h.so_far);
}

pub looked_later : (l : Seen) (e : Entry) (past : List Entry) → l.at ≤ length past → looked_slot l (e ∷ past) ≡ looked_slot l past
looked_later l e past h = ap (λ (f : Flat). cond (leb l.at l.place) (slot_by l.slot f.slots) None) (flat_at_keep l.at e past h)

pub look_later : (user page sample : ℕ) (x : Looked) (l : Seen) (e : Entry) (past : List Entry) → LookIs user page sample x l past → LookIs user page sample x l (e ∷ past)
look_later user page sample x l e past h =
    let p = h.before_place in
    let q = h.so_far in
    record {
      at_is = h.at_is;
      after_sample = h.after_sample;
      before_place = h.before_place;
      so_far = omega arith;
      slot_is = looked_later l e past (omega arith) ∙ h.slot_is;
      attr_is = h.attr_is;
      file_is = h.file_is;
      sight = h.sight;
    }

stage_later : (user page missed : ℕ) (x : Option Sampled) (y : Option Looked) (b : Option Backing) (s : Option ℕ) (l : Option Seen) (g : Option Gotten) (e : Entry) (past : List Entry) → StageIs user page missed x y b s l g past → StageIs user page missed x y b s l g (e ∷ past)
stage_later user page missed None None None None None None e past h = h
stage_later user page missed (Some x) None None (Some s) None None e past h = sample_later x s missed e past h
stage_later user page missed (Some x) (Some y) None (Some s) (Some l) None e past h = (sample_later x s missed e past h.0, look_later user page s y l e past h.1)
stage_later user page missed (Some x) (Some y) (Some b) (Some s) (Some l) (Some g) e past h = (sample_later x s missed e past h.0, look_later user page s y l e past h.1, h.2)
stage_later user page missed x y b s l g e past h = absurd h

pub fault_later : (user : ℕ) (k : Option Ticket) (x : Fault) (e : Entry) (past : List Entry) → FaultIs user k x past → FaultIs user k x (e ∷ past)
fault_later user None NoFault e past h = h
fault_later user None (Faulting a missed s l g) e past h = absurd h
fault_later user (Some k) NoFault e past h = absurd h
fault_later user (Some k) (Faulting a missed s l g) e past h = record {
  access_is = h.access_is;
  so_far = more missed (length past) h.so_far;
  stage_is = stage_later user a.page missed k.sampled k.looked k.backing s l g e past h.stage_is;
}

pub vcpu_stays : (s : Setup) (x : Vcpu) (v : ℕ) (e : Entry) (past : List Entry) → Still v e.what e.actor → VcpuIs s x v past → VcpuIs s x v (e ∷ past)
vcpu_stays s x v e past t h = record {
  ended_is = h.ended_is ∙ sym (ap (λ (b : Bool). cond b (suc (done (OfVcpu v) past)) (done (OfVcpu v) past)) t.none_done);
  gone_is = h.gone_is ∙ sym (ap (λ (b : Bool). cond b true (gone (OfVcpu v) past)) t.none_gone);
  missed_is = subst (MissedIs x.missed) (sym (t.fault_stays (length past) (fault v past))) h.missed_is;
  fault_is = subst (λ (y : Fault). FaultIs s.user x.fault y (e ∷ past)) (sym (t.fault_stays (length past) (fault v past))) (fault_later s.user x.fault (fault v past) e past h.fault_is);
}

-- an entry that moves no vCPU
pub quiet : {s : Setup} {vs : List Vcpu} (e : Entry) (past : List Entry) → moves_vcpus e.what e.actor ≡ false → VcpusStand s vs past → VcpusStand s vs (e ∷ past)
quiet {s = s} {vs = vs} e past h st = record {
  count_is = st.count_is;
  each = λ v d lt. vcpu_stays s (get_or vs v d) v e past (still v e.what e.actor h) (st.each v d lt);
  none_beyond = λ v le. (still v e.what e.actor h).fault_stays (length past) (fault v past) ∙ st.none_beyond v le;
}

all_idle : (n v : ℕ) (d : Vcpu) → v < n → get_or (replicate n no_vcpu) v d ≡ no_vcpu
all_idle zero v d h = absurd (omega arith)
all_idle (suc n) zero d h = refl
all_idle (suc n) (suc v) d h = all_idle n v d (omega arith)

-- no entry yet
pub opens : (s : Setup) → VcpusStand s (replicate s.vcpus no_vcpu) []
opens s = record {
  count_is = length-replicate s.vcpus no_vcpu;
  each = λ v d lt. subst (λ (x : Vcpu). VcpuIs s x v []) (sym (all_idle s.vcpus v d lt)) (record { ended_is = refl; fault_is = tt; missed_is = tt; gone_is = refl });
  none_beyond = λ v le. refl;
}
