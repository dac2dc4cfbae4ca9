-- What an entry that maps nothing leaves as it was.
use Rattle.std.proofs.lemmas.List.{get_or-replicate, length-replicate}
use Rattle.gm_tlb.specs.Requests.{outside}
use Rattle.gm_tlb.specs.declared.tlb.Fill.{Fill}
use Rattle.std.proofs.Common.{◌≡◌, ℕ, ◌≤◌, List, [], ◌∷◌, Bool, false, length, get_or, suc, Option, arith, subst, sym, refl, ◌∙◌, ap, cond, replicate, None}
use Rattle.gm_base.specs.Extent.{Extent}
use Rattle.gm_base.specs.declared.values.Actor.{Actor}
use Rattle.gm_base.specs.declared.values.Actor.TheVariants.{Vcpu, Caller}
use Rattle.gm_base.specs.declared.values.Setup.{Setup}
use Rattle.gm_flat.specs.Histories.{is_vcpu}
use Rattle.gm_flat.specs.Invalidation.{count, count_step, hull, hull_step}
use Rattle.gm_flat.specs.Mappings.{Mapping, fills, fills_step, flushed, flushed_step, inside, inside_step, leaves, leaves_step}
use Rattle.gm_flat.specs.declared.entry.Entry.{Entry}
use Rattle.gm_flat.specs.declared.entry.What.{What}
use Rattle.gm_flat.specs.declared.entry.What.TheVariants.{Enter, Flush, Miss, Install, Touch, Begin, End, Gone}
use Rattle.gm_mapping.specs.Alike.{FillsAre, LeafIs, over}
use Rattle.gm_mmu.specs.Served.{Serving}
use Rattle.gm_table.specs.Leaves.{leaf_over}
use Rattle.gm_tlb.specs.declared.ring.Seat.{Seat}
use Rattle.gm_laws.proofs.Counted.{asked_keep, flushed_le}
use Rattle.gm_laws.specs.Counting.{asked, asked_at, asked_step, ends, ends_step}
use Rattle.gm_mapping.specs.Mapping.{MappingStands, SeatIs, moves_mapping}

-- an entry maps nothing
pub record Unmapped (w : What) (a : Actor) : Type 0 where
  pub inside_stays : (v : ℕ) (x : Bool) → inside_step v w a x ≡ x
  pub flushed_stays : (v n x : ℕ) → flushed_step v w a n x ≡ x
  pub fills_stay : (v : ℕ) (past : List Entry) (ms : List Mapping) → fills_step v w a past ms ≡ ms
  pub leaves_stay : (past : List Entry) (ms : List Mapping) → leaves_step w a past ms ≡ ms
  pub count_stays : (n : ℕ) → count_step w n ≡ n
  pub hull_stays : (n : ℕ) (x : Option Extent) → hull_step w n x ≡ x
  pub asked_stays : (n : ℕ) → asked_step w n ≡ n
  pub ends_stay : (n : ℕ) → ends_step w n ≡ n

unmapped : (w : What) (a : Actor) → moves_mapping w a ≡ false → Unmapped w a
unmapped Enter a h = absurd (cc)
unmapped Flush a h = absurd (cc)
unmapped (Miss x) a h = absurd (cc)
unmapped (Install p l) a h = absurd (cc)
unmapped (Touch x b l v f) a h = absurd (cc)
unmapped (Begin ss) a h = absurd (cc)
unmapped End a h = absurd (cc)
unmapped Gone (Vcpu v) h = absurd (cc)
unmapped Gone (Caller c) h = record { inside_stays = λ v x. refl; flushed_stays = λ v n x. refl; fills_stay = λ v past ms. refl; leaves_stay = λ past ms. refl; count_stays = λ n. refl; hull_stays = λ n x. refl; asked_stays = λ n. refl; ends_stay = λ n. refl }
unmapped _ a h = record { inside_stays = λ v x. refl; flushed_stays = λ v n x. refl; fills_stay = λ v past ms. refl; leaves_stay = λ past ms. refl; count_stays = λ n. refl; hull_stays = λ n x. refl; asked_stays = λ n. refl; ends_stay = λ n. refl }

-- a seat under an entry that neither moves the vCPU nor flushes it
pub seat_stays : (seat : Seat) (v : ℕ) (e : Entry) (past : List Entry) → inside v (e ∷ past) ≡ inside v past → flushed v (e ∷ past) ≡ flushed v past → SeatIs seat v past → SeatIs seat v (e ∷ past)
seat_stays seat v e past i f h = record {
  is_inside = h.is_inside ∙ sym i;
  done_is = h.done_is ∙ sym (ap (λ (n : ℕ). asked_at n (e ∷ past)) f ∙ asked_keep (flushed v past) e past (flushed_le v past));
}

pub quiet : {s : Setup} {m : Serving} (e : Entry) (past : List Entry) → moves_mapping e.what e.actor ≡ false → MappingStands s m past → MappingStands s m (e ∷ past)
quiet {s = s} {m = m} e past h st =
    let u = unmapped e.what e.actor h in
    record {
      seat_count = st.seat_count;
      buffer_count = st.buffer_count;
      asked_is = st.asked_is ∙ sym (u.asked_stays (asked past));
      seats_are = λ v d lt. seat_stays (get_or m.requests.seats v d) v e past (u.inside_stays v (inside v past)) (u.flushed_stays v (length past) (flushed v past)) (st.seats_are v d lt);
      none_beyond = λ v le. u.inside_stays v (inside v past) ∙ st.none_beyond v le;
      buffers_are = λ v d lt. subst (λ (ms : List Mapping). FillsAre s.user (get_or m.fills v d) ms) (sym (u.fills_stay v past (fills v past))) (st.buffers_are v d lt);
      leaves_are = λ page. subst (λ (ms : List Mapping). LeafIs s.user (leaf_over m.leaves page) (over page ms)) (sym (u.leaves_stay past (leaves past))) (st.leaves_are page);
      count_is = st.count_is ∙ sym (u.count_stays (count past));
      range_is = st.range_is ∙ sym (u.hull_stays (count past) (hull past));
      seq_is = st.seq_is ∙ sym (u.ends_stay (ends past));
    }

-- no entry yet
pub opens : (s : Setup) (spare : ℕ) → MappingStands s (record { leaves = []; spare = spare; fills = replicate s.vcpus []; requests = record { asked = 0; seats = replicate s.vcpus outside }; progress = record { seq = 0; count = 0; kept = None } }) []
opens s spare = record {
  seat_count = length-replicate s.vcpus outside;
  buffer_count = length-replicate s.vcpus [];
  asked_is = refl;
  seats_are = λ v d lt. subst (λ (x : Seat). SeatIs x v []) (sym (get_or-replicate s.vcpus v outside d lt)) (record { is_inside = refl; done_is = refl });
  none_beyond = λ v le. refl;
  buffers_are = λ v d lt. subst (λ (x : List Fill). FillsAre s.user x []) (sym (get_or-replicate s.vcpus v [] d lt)) tt;
  leaves_are = λ page. tt;
  count_is = refl;
  range_is = refl;
  seq_is = refl;
}
