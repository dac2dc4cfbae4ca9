-- A vCPU flushes, enters and leaves, and what is mapped stands for it.
use Rattle.std.proofs.Common.{◌≡◌, ℕ, ◌+◌, ◌<◌, List, [], ◌∷◌, Bool, true, false, length, get_or, set, suc, arith, subst, sym, refl, ◌∙◌, ap, eqb, cond, leb}
use Rattle.std.proofs.lemmas.Bool.{cond-true, cond-false}
use Rattle.std.proofs.lemmas.Bool.Decides.{nat_tests}
use Rattle.std.proofs.lemmas.List.{length-set}
use Rattle.gm_base.specs.Aim.{Aim}
use Rattle.gm_base.specs.declared.values.Actor.TheVariants.{Vcpu}
use Rattle.gm_base.specs.declared.values.Setup.{Setup}
use Rattle.gm_flat.specs.Mappings.{Mapping, fills, flushed, inside}
use Rattle.gm_flat.specs.declared.entry.Entry.{Entry}
use Rattle.gm_flat.specs.declared.entry.What.TheVariants.{Enter, Flush, Miss, Gone}
use Rattle.gm_laws.proofs.Counted.{asked_keep, flushed_le}
use Rattle.gm_laws.proofs.Kit.{by}
use Rattle.gm_laws.specs.Counting.{asked, asked_at}
use Rattle.gm_mmu.specs.Served.{Serving}
use Rattle.gm_tlb.specs.Requests.{outside, seat_of, with_seat}
use Rattle.gm_tlb.specs.declared.ring.Seat.{Seat}
use Rattle.gm_tlb.specs.declared.tlb.Fill.{Fill}
use Rattle.gm_mapping.proofs.Lists.{self, set_each}
use Rattle.gm_mapping.proofs.Quiet.{seat_stays}
use Rattle.gm_mapping.specs.Alike.{FillsAre}
use Rattle.gm_mapping.specs.Mapping.{MappingStands, SeatIs}

beyond : (v u n : ℕ) → v < n → (n < suc u) → eqb v u ≡ false
beyond v u n h k = grind (arith, nat_tests)

not_le : (n : ℕ) → leb (suc n) n ≡ false
not_le n = grind (arith, nat_tests)

-- a vCPU with another seat
abbrev pub seated : Serving → ℕ → Bool → Serving
seated m v is_inside = record m { requests = with_seat m.requests v (record { inside = is_inside; done = (seat_of m.requests v).done }) }

-- it enters
pub entered : {s : Setup} {m : Serving} (t v : ℕ) (past : List Entry) → MappingStands s m past → v < s.vcpus → MappingStands s (seated m v true) (by t (Vcpu v) Enter ∷ past)
entered {s = s} {m = m} t v past st lt =
    let e : Entry = by t (Vcpu v) Enter in
    let old = st.seats_are v outside lt in
    record {
      seat_count = length-set m.requests.seats v _ ∙ st.seat_count;
      buffer_count = st.buffer_count;
      asked_is = st.asked_is;
      seats_are = set_each (λ (u : ℕ) (x : Seat). SeatIs x u (e ∷ past)) m.requests.seats s.vcpus v _ st.seat_count lt
          (record { is_inside = sym (cond-true (eqb v v) true (inside v past) (self v)); done_is = old.done_is ∙ sym (asked_keep (flushed v past) e past (flushed_le v past)) })
          (λ u d lu ne. seat_stays (get_or m.requests.seats u d) u e past (cond-false (eqb v u) true (inside u past) ne) refl (st.seats_are u d lu));
      none_beyond = λ u le. cond-false (eqb v u) true (inside u past) (beyond v u s.vcpus lt (omega arith)) ∙ st.none_beyond u le;
      buffers_are = st.buffers_are;
      leaves_are = st.leaves_are;
      count_is = st.count_is;
      range_is = st.range_is;
      seq_is = st.seq_is;
    }

-- it misses, and is outside
pub missed : {s : Setup} {m : Serving} (t v : ℕ) (a : Aim) (past : List Entry) → MappingStands s m past → v < s.vcpus → MappingStands s (seated m v false) (by t (Vcpu v) (Miss a) ∷ past)
missed {s = s} {m = m} t v a past st lt =
    let e : Entry = by t (Vcpu v) (Miss a) in
    let old = st.seats_are v outside lt in
    record {
      seat_count = length-set m.requests.seats v _ ∙ st.seat_count;
      buffer_count = st.buffer_count;
      asked_is = st.asked_is;
      seats_are = set_each (λ (u : ℕ) (x : Seat). SeatIs x u (e ∷ past)) m.requests.seats s.vcpus v _ st.seat_count lt
          (record { is_inside = sym (cond-true (eqb v v) false (inside v past) (self v)); done_is = old.done_is ∙ sym (asked_keep (flushed v past) e past (flushed_le v past)) })
          (λ u d lu ne. seat_stays (get_or m.requests.seats u d) u e past (cond-false (eqb v u) false (inside u past) ne) refl (st.seats_are u d lu));
      none_beyond = λ u le. cond-false (eqb v u) false (inside u past) (beyond v u s.vcpus lt (omega arith)) ∙ st.none_beyond u le;
      buffers_are = st.buffers_are;
      leaves_are = st.leaves_are;
      count_is = st.count_is;
      range_is = st.range_is;
      seq_is = st.seq_is;
    }

-- it writes gone, and is outside
pub gone_out : {s : Setup} {m : Serving} (t v : ℕ) (past : List Entry) → MappingStands s m past → v < s.vcpus → MappingStands s (seated m v false) (by t (Vcpu v) Gone ∷ past)
gone_out {s = s} {m = m} t v past st lt =
    let e : Entry = by t (Vcpu v) Gone in
    let old = st.seats_are v outside lt in
    record {
      seat_count = length-set m.requests.seats v _ ∙ st.seat_count;
      buffer_count = st.buffer_count;
      asked_is = st.asked_is;
      seats_are = set_each (λ (u : ℕ) (x : Seat). SeatIs x u (e ∷ past)) m.requests.seats s.vcpus v _ st.seat_count lt
          (record { is_inside = sym (cond-true (eqb v v) false (inside v past) (self v)); done_is = old.done_is ∙ sym (asked_keep (flushed v past) e past (flushed_le v past)) })
          (λ u d lu ne. seat_stays (get_or m.requests.seats u d) u e past (cond-false (eqb v u) false (inside u past) ne) refl (st.seats_are u d lu));
      none_beyond = λ u le. cond-false (eqb v u) false (inside u past) (beyond v u s.vcpus lt (omega arith)) ∙ st.none_beyond u le;
      buffers_are = st.buffers_are;
      leaves_are = st.leaves_are;
      count_is = st.count_is;
      range_is = st.range_is;
      seq_is = st.seq_is;
    }

-- it flushes
abbrev pub flushing : Serving → ℕ → Serving
flushing m v = record m { fills = set m.fills v []; requests = with_seat m.requests v (record { inside = (seat_of m.requests v).inside; done = m.requests.asked }) }

asked_here : (t v : ℕ) (past : List Entry) → asked_at (suc (length past)) (by t (Vcpu v) Flush ∷ past) ≡ asked past
asked_here t v past = rw (not_le (length past)) refl

flushed_here : (t v : ℕ) (past : List Entry) → flushed v (by t (Vcpu v) Flush ∷ past) ≡ suc (length past)
flushed_here t v past = cond-true (eqb v v) (suc (length past)) (flushed v past) (self v)

pub flushed_all : {s : Setup} {m : Serving} (t v : ℕ) (past : List Entry) → MappingStands s m past → v < s.vcpus → MappingStands s (flushing m v) (by t (Vcpu v) Flush ∷ past)
flushed_all {s = s} {m = m} t v past st lt =
    let e : Entry = by t (Vcpu v) Flush in
    let old = st.seats_are v outside lt in
    record {
      seat_count = length-set m.requests.seats v _ ∙ st.seat_count;
      buffer_count = length-set m.fills v [] ∙ st.buffer_count;
      asked_is = st.asked_is;
      seats_are = set_each (λ (u : ℕ) (x : Seat). SeatIs x u (e ∷ past)) m.requests.seats s.vcpus v _ st.seat_count lt
          (record { is_inside = old.is_inside; done_is = st.asked_is ∙ sym (ap (λ (n : ℕ). asked_at n (e ∷ past)) (flushed_here t v past) ∙ asked_here t v past) })
          (λ u d lu ne. seat_stays (get_or m.requests.seats u d) u e past refl (cond-false (eqb v u) (suc (length past)) (flushed u past) ne) (st.seats_are u d lu));
      none_beyond = st.none_beyond;
      buffers_are = set_each (λ (u : ℕ) (x : List Fill). FillsAre s.user x (fills u (e ∷ past))) m.fills s.vcpus v [] st.buffer_count lt
          (subst (λ (ms : List Mapping). FillsAre s.user [] ms) (sym (cond-true (eqb v v) [] (fills v past) (self v))) tt)
          (λ u d lu ne. subst (λ (ms : List Mapping). FillsAre s.user (get_or m.fills u d) ms) (sym (cond-false (eqb v u) [] (fills u past) ne)) (st.buffers_are u d lu));
      leaves_are = st.leaves_are;
      count_is = st.count_is;
      range_is = st.range_is;
      seq_is = st.seq_is;
    }
