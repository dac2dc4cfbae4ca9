-- A flush is pending exactly where a request came after the vCPU's last flush; and who is inside.
use Rattle.std.proofs.Common.{◌≡◌, ℕ, ◌<◌, ◌≤◌, List, [], ◌∷◌, Bool, true, false, length, suc, arith, subst, sym, refl, ◌∙◌, ap, cond, leb, ltb, le-leb, inl, inr}
use Rattle.std.proofs.lemmas.Bool.{cases_Bool, cond-true, cond-false}
use Rattle.std.proofs.lemmas.Bool.Decides.{nat_tests}
use Rattle.gm_base.specs.declared.values.Actor.{Actor}
use Rattle.gm_base.specs.declared.values.Setup.{Setup}
use Rattle.gm_flat.specs.Histories.{is_vcpu}
use Rattle.gm_flat.specs.Mappings.{flushed, flushed_step, inside, pending, pending_step}
use Rattle.gm_flat.specs.declared.entry.Entry.{Entry}
use Rattle.gm_flat.specs.declared.entry.What.{What}
use Rattle.gm_flat.specs.declared.entry.What.TheVariants.{Begin, Flush}
use Rattle.gm_laws.proofs.Counted.{asked_all, asked_keep, asked_rises, flushed_le}
use Rattle.gm_laws.specs.Counting.{asked, asked_at, asked_step}
use Rattle.gm_mmu.specs.Served.{Serving}
use Rattle.gm_tlb.specs.Requests.{has_pending, outside, seat_of}
use Rattle.gm_mapping.specs.Mapping.{MappingStands}

not_less : (n : ℕ) → false ≡ ltb n n
not_less n = grind (arith, nat_tests)

less_next : (a b : ℕ) → a ≤ b → true ≡ ltb a (suc b)
less_next a b h = grind (arith, nat_tests)

not_le : (n : ℕ) → leb (suc n) n ≡ false
not_le n = grind (arith, nat_tests)

at_most : (i : ℕ) (past : List Entry) → i ≤ length past → asked_at i past ≤ asked past
at_most i past h = let r = asked_rises i (length past) past h in let e = asked_all past in omega arith

by_what : (v : ℕ) (w : What) (a : Actor) (past : List Entry) → pending v past ≡ ltb (asked_at (flushed v past) past) (asked past) → pending_step v w a (pending v past) ≡ ltb (cond (leb (flushed_step v w a (length past) (flushed v past)) (length past)) (asked_at (flushed_step v w a (length past) (flushed v past)) past) (asked_step w (asked past))) (asked_step w (asked past))
by_what v Flush a past ih = flushes (is_vcpu v a)
  where
    flushes : (t : Bool) → cond t false (pending v past) ≡ ltb (cond (leb (cond t (suc (length past)) (flushed v past)) (length past)) (asked_at (cond t (suc (length past)) (flushed v past)) past) (asked past)) (asked past)
    flushes true = rw (not_le (length past)) (not_less (asked past))
    flushes false = rw (le-leb (flushed v past) (length past) (flushed_le v past)) ih
by_what v (Begin ss) a past ih = rw (le-leb (flushed v past) (length past) (flushed_le v past)) (less_next (asked_at (flushed v past) past) (asked past) (at_most (flushed v past) past (flushed_le v past)))
by_what v _ a past ih = rw (le-leb (flushed v past) (length past) (flushed_le v past)) ih

pub pending_counts : (v : ℕ) (past : List Entry) → pending v past ≡ ltb (asked_at (flushed v past) past) (asked past)
pending_counts v [] = refl
pending_counts v (e ∷ past) = by_what v e.what e.actor past (pending_counts v past)

pub pending_is : {s : Setup} {m : Serving} {past : List Entry} (v : ℕ) → MappingStands s m past → v < s.vcpus → has_pending m.requests v ≡ pending v past
pending_is {s = s} {m = m} {past = past} v st lt =
    ap (λ (n : ℕ). ltb n m.requests.asked) (st.seats_are v outside lt).done_is
    ∙ ap (λ (n : ℕ). ltb (asked_at (flushed v past) past) n) st.asked_is
    ∙ sym (pending_counts v past)

pub inside_is : {s : Setup} {m : Serving} {past : List Entry} (v : ℕ) → MappingStands s m past → v < s.vcpus → (seat_of m.requests v).inside ≡ inside v past
inside_is v st lt = (st.seats_are v outside lt).is_inside
