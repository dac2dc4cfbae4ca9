-- The worked row «flush pending inside» plays the turns of its script.
use Rattle.std.proofs.Common.{[], arith, inl, inr, refl, suc, ◌≤◌}
use Rattle.gm_base.specs.declared.script.Turn.TheVariants.{Kick, Next}
use Rattle.gm_base.specs.declared.values.Actor.TheVariants.{Caller, Vcpu}
use Rattle.gm_flat.specs.Plays.{Plays, PlaysTurn}
use Rattle.gm_laws.proofs.FlushPendingRuled.{follows11, follows15, past11, past15}
use Rattle.gm_laws.proofs.Rows.{all_turns, cons_nil, differ, false_true, one_caller, one_vcpu, some_none_call, true_false_any}
use Rattle.gm_laws.specs.FlushPending.{flush_pending, flush_pending_orders, flush_pending_turns}

late : 15 ≤ 12 → ⊥
late h = omega arith

turn1 : PlaysTurn flush_pending_orders 1 (Next (Caller 0)) flush_pending
turn1 = record { of_actor = ((λ e. differ 21 1 refl e), ((λ e. differ 20 1 refl e), ((λ e. differ 19 1 refl e), ((λ e. differ 18 1 refl e), ((λ e. differ 17 1 refl e), ((λ e. differ 17 1 refl e), ((λ e. differ 16 1 refl e), ((λ e. differ 15 1 refl e), ((λ e. differ 14 1 refl e), ((λ e. differ 13 1 refl e), ((λ e. differ 11 1 refl e), ((λ e. differ 10 1 refl e), ((λ e. differ 9 1 refl e), ((λ e. differ 8 1 refl e), ((λ e. differ 7 1 refl e), ((λ e. differ 6 1 refl e), ((λ e. differ 5 1 refl e), ((λ e. differ 4 1 refl e), ((λ e. differ 3 1 refl e), ((λ e. differ 2 1 refl e), ((λ e. refl), ((λ e. refl), ((λ e. refl), tt))))))))))))))))))))))); played = (refl, ((λ e. cons_nil e), (λ u. elim u [ inl g ↦ false_true g | inr b ↦ elim b [ inl w ↦ absurd (one_caller flush_pending_orders [] w.ioctl refl tt w.waits) | inr a ↦ absurd a ] ]))) }

turn2 : PlaysTurn flush_pending_orders 2 (Next (Vcpu 0)) flush_pending
turn2 = record { of_actor = ((λ e. differ 21 2 refl e), ((λ e. differ 20 2 refl e), ((λ e. differ 19 2 refl e), ((λ e. differ 18 2 refl e), ((λ e. differ 17 2 refl e), ((λ e. differ 17 2 refl e), ((λ e. differ 16 2 refl e), ((λ e. differ 15 2 refl e), ((λ e. differ 14 2 refl e), ((λ e. differ 13 2 refl e), ((λ e. differ 11 2 refl e), ((λ e. differ 10 2 refl e), ((λ e. differ 9 2 refl e), ((λ e. differ 8 2 refl e), ((λ e. differ 7 2 refl e), ((λ e. differ 6 2 refl e), ((λ e. differ 5 2 refl e), ((λ e. differ 4 2 refl e), ((λ e. differ 3 2 refl e), ((λ e. refl), ((λ e. differ 1 2 refl e), ((λ e. differ 1 2 refl e), ((λ e. differ 1 2 refl e), tt))))))))))))))))))))))); played = (refl, ((λ e. cons_nil e), (λ u. elim u [ inl g ↦ false_true g | inr b ↦ absurd b ]))) }

turn3 : PlaysTurn flush_pending_orders 3 (Next (Vcpu 0)) flush_pending
turn3 = record { of_actor = ((λ e. differ 21 3 refl e), ((λ e. differ 20 3 refl e), ((λ e. differ 19 3 refl e), ((λ e. differ 18 3 refl e), ((λ e. differ 17 3 refl e), ((λ e. differ 17 3 refl e), ((λ e. differ 16 3 refl e), ((λ e. differ 15 3 refl e), ((λ e. differ 14 3 refl e), ((λ e. differ 13 3 refl e), ((λ e. differ 11 3 refl e), ((λ e. differ 10 3 refl e), ((λ e. differ 9 3 refl e), ((λ e. differ 8 3 refl e), ((λ e. differ 7 3 refl e), ((λ e. differ 6 3 refl e), ((λ e. differ 5 3 refl e), ((λ e. differ 4 3 refl e), ((λ e. refl), ((λ e. differ 2 3 refl e), ((λ e. differ 1 3 refl e), ((λ e. differ 1 3 refl e), ((λ e. differ 1 3 refl e), tt))))))))))))))))))))))); played = (refl, ((λ e. cons_nil e), (λ u. elim u [ inl g ↦ false_true g | inr b ↦ absurd b ]))) }

turn4 : PlaysTurn flush_pending_orders 4 (Next (Vcpu 0)) flush_pending
turn4 = record { of_actor = ((λ e. differ 21 4 refl e), ((λ e. differ 20 4 refl e), ((λ e. differ 19 4 refl e), ((λ e. differ 18 4 refl e), ((λ e. differ 17 4 refl e), ((λ e. differ 17 4 refl e), ((λ e. differ 16 4 refl e), ((λ e. differ 15 4 refl e), ((λ e. differ 14 4 refl e), ((λ e. differ 13 4 refl e), ((λ e. differ 11 4 refl e), ((λ e. differ 10 4 refl e), ((λ e. differ 9 4 refl e), ((λ e. differ 8 4 refl e), ((λ e. differ 7 4 refl e), ((λ e. differ 6 4 refl e), ((λ e. differ 5 4 refl e), ((λ e. refl), ((λ e. differ 3 4 refl e), ((λ e. differ 2 4 refl e), ((λ e. differ 1 4 refl e), ((λ e. differ 1 4 refl e), ((λ e. differ 1 4 refl e), tt))))))))))))))))))))))); played = (refl, ((λ e. cons_nil e), (λ u. elim u [ inl g ↦ false_true g | inr b ↦ absurd b ]))) }

turn5 : PlaysTurn flush_pending_orders 5 (Next (Vcpu 0)) flush_pending
turn5 = record { of_actor = ((λ e. differ 21 5 refl e), ((λ e. differ 20 5 refl e), ((λ e. differ 19 5 refl e), ((λ e. differ 18 5 refl e), ((λ e. differ 17 5 refl e), ((λ e. differ 17 5 refl e), ((λ e. differ 16 5 refl e), ((λ e. differ 15 5 refl e), ((λ e. differ 14 5 refl e), ((λ e. differ 13 5 refl e), ((λ e. differ 11 5 refl e), ((λ e. differ 10 5 refl e), ((λ e. differ 9 5 refl e), ((λ e. differ 8 5 refl e), ((λ e. differ 7 5 refl e), ((λ e. differ 6 5 refl e), ((λ e. refl), ((λ e. differ 4 5 refl e), ((λ e. differ 3 5 refl e), ((λ e. differ 2 5 refl e), ((λ e. differ 1 5 refl e), ((λ e. differ 1 5 refl e), ((λ e. differ 1 5 refl e), tt))))))))))))))))))))))); played = (refl, ((λ e. cons_nil e), (λ u. elim u [ inl g ↦ false_true g | inr b ↦ absurd b ]))) }

turn6 : PlaysTurn flush_pending_orders 6 (Next (Vcpu 0)) flush_pending
turn6 = record { of_actor = ((λ e. differ 21 6 refl e), ((λ e. differ 20 6 refl e), ((λ e. differ 19 6 refl e), ((λ e. differ 18 6 refl e), ((λ e. differ 17 6 refl e), ((λ e. differ 17 6 refl e), ((λ e. differ 16 6 refl e), ((λ e. differ 15 6 refl e), ((λ e. differ 14 6 refl e), ((λ e. differ 13 6 refl e), ((λ e. differ 11 6 refl e), ((λ e. differ 10 6 refl e), ((λ e. differ 9 6 refl e), ((λ e. differ 8 6 refl e), ((λ e. differ 7 6 refl e), ((λ e. refl), ((λ e. differ 5 6 refl e), ((λ e. differ 4 6 refl e), ((λ e. differ 3 6 refl e), ((λ e. differ 2 6 refl e), ((λ e. differ 1 6 refl e), ((λ e. differ 1 6 refl e), ((λ e. differ 1 6 refl e), tt))))))))))))))))))))))); played = (refl, ((λ e. cons_nil e), (λ u. elim u [ inl g ↦ false_true g | inr b ↦ absurd b ]))) }

turn7 : PlaysTurn flush_pending_orders 7 (Next (Vcpu 0)) flush_pending
turn7 = record { of_actor = ((λ e. differ 21 7 refl e), ((λ e. differ 20 7 refl e), ((λ e. differ 19 7 refl e), ((λ e. differ 18 7 refl e), ((λ e. differ 17 7 refl e), ((λ e. differ 17 7 refl e), ((λ e. differ 16 7 refl e), ((λ e. differ 15 7 refl e), ((λ e. differ 14 7 refl e), ((λ e. differ 13 7 refl e), ((λ e. differ 11 7 refl e), ((λ e. differ 10 7 refl e), ((λ e. differ 9 7 refl e), ((λ e. differ 8 7 refl e), ((λ e. refl), ((λ e. differ 6 7 refl e), ((λ e. differ 5 7 refl e), ((λ e. differ 4 7 refl e), ((λ e. differ 3 7 refl e), ((λ e. differ 2 7 refl e), ((λ e. differ 1 7 refl e), ((λ e. differ 1 7 refl e), ((λ e. differ 1 7 refl e), tt))))))))))))))))))))))); played = (refl, ((λ e. cons_nil e), (λ u. elim u [ inl g ↦ false_true g | inr b ↦ absurd b ]))) }

turn8 : PlaysTurn flush_pending_orders 8 (Next (Vcpu 0)) flush_pending
turn8 = record { of_actor = ((λ e. differ 21 8 refl e), ((λ e. differ 20 8 refl e), ((λ e. differ 19 8 refl e), ((λ e. differ 18 8 refl e), ((λ e. differ 17 8 refl e), ((λ e. differ 17 8 refl e), ((λ e. differ 16 8 refl e), ((λ e. differ 15 8 refl e), ((λ e. differ 14 8 refl e), ((λ e. differ 13 8 refl e), ((λ e. differ 11 8 refl e), ((λ e. differ 10 8 refl e), ((λ e. differ 9 8 refl e), ((λ e. refl), ((λ e. differ 7 8 refl e), ((λ e. differ 6 8 refl e), ((λ e. differ 5 8 refl e), ((λ e. differ 4 8 refl e), ((λ e. differ 3 8 refl e), ((λ e. differ 2 8 refl e), ((λ e. differ 1 8 refl e), ((λ e. differ 1 8 refl e), ((λ e. differ 1 8 refl e), tt))))))))))))))))))))))); played = (refl, ((λ e. cons_nil e), (λ u. elim u [ inl g ↦ false_true g | inr b ↦ absurd b ]))) }

turn9 : PlaysTurn flush_pending_orders 9 (Next (Vcpu 0)) flush_pending
turn9 = record { of_actor = ((λ e. differ 21 9 refl e), ((λ e. differ 20 9 refl e), ((λ e. differ 19 9 refl e), ((λ e. differ 18 9 refl e), ((λ e. differ 17 9 refl e), ((λ e. differ 17 9 refl e), ((λ e. differ 16 9 refl e), ((λ e. differ 15 9 refl e), ((λ e. differ 14 9 refl e), ((λ e. differ 13 9 refl e), ((λ e. differ 11 9 refl e), ((λ e. differ 10 9 refl e), ((λ e. refl), ((λ e. differ 8 9 refl e), ((λ e. differ 7 9 refl e), ((λ e. differ 6 9 refl e), ((λ e. differ 5 9 refl e), ((λ e. differ 4 9 refl e), ((λ e. differ 3 9 refl e), ((λ e. differ 2 9 refl e), ((λ e. differ 1 9 refl e), ((λ e. differ 1 9 refl e), ((λ e. differ 1 9 refl e), tt))))))))))))))))))))))); played = (refl, ((λ e. cons_nil e), (λ u. elim u [ inl g ↦ false_true g | inr b ↦ absurd b ]))) }

turn10 : PlaysTurn flush_pending_orders 10 (Next (Caller 0)) flush_pending
turn10 = record { of_actor = ((λ e. differ 21 10 refl e), ((λ e. differ 20 10 refl e), ((λ e. differ 19 10 refl e), ((λ e. differ 18 10 refl e), ((λ e. differ 17 10 refl e), ((λ e. differ 17 10 refl e), ((λ e. differ 16 10 refl e), ((λ e. differ 15 10 refl e), ((λ e. differ 14 10 refl e), ((λ e. differ 13 10 refl e), ((λ e. differ 11 10 refl e), ((λ e. refl), ((λ e. differ 9 10 refl e), ((λ e. differ 8 10 refl e), ((λ e. differ 7 10 refl e), ((λ e. differ 6 10 refl e), ((λ e. differ 5 10 refl e), ((λ e. differ 4 10 refl e), ((λ e. differ 3 10 refl e), ((λ e. differ 2 10 refl e), ((λ e. differ 1 10 refl e), ((λ e. differ 1 10 refl e), ((λ e. differ 1 10 refl e), tt))))))))))))))))))))))); played = (refl, ((λ e. cons_nil e), (λ u. elim u [ inl g ↦ false_true g | inr b ↦ elim b [ inl w ↦ absurd (one_caller flush_pending_orders past11 w.ioctl refl follows11 w.waits) | inr a ↦ absurd a ] ]))) }

turn11 : PlaysTurn flush_pending_orders 11 (Next (Caller 0)) flush_pending
turn11 = record { of_actor = ((λ e. differ 21 11 refl e), ((λ e. differ 20 11 refl e), ((λ e. differ 19 11 refl e), ((λ e. differ 18 11 refl e), ((λ e. differ 17 11 refl e), ((λ e. differ 17 11 refl e), ((λ e. differ 16 11 refl e), ((λ e. differ 15 11 refl e), ((λ e. differ 14 11 refl e), ((λ e. differ 13 11 refl e), ((λ e. refl), ((λ e. differ 10 11 refl e), ((λ e. differ 9 11 refl e), ((λ e. differ 8 11 refl e), ((λ e. differ 7 11 refl e), ((λ e. differ 6 11 refl e), ((λ e. differ 5 11 refl e), ((λ e. differ 4 11 refl e), ((λ e. differ 3 11 refl e), ((λ e. differ 2 11 refl e), ((λ e. differ 1 11 refl e), ((λ e. differ 1 11 refl e), ((λ e. differ 1 11 refl e), tt))))))))))))))))))))))); played = (refl, ((λ e. cons_nil e), (λ u. elim u [ inl g ↦ false_true g | inr b ↦ elim b [ inl w ↦ absurd (some_none_call w.none_in_progress) | inr a ↦ absurd a ] ]))) }

turn12 : PlaysTurn flush_pending_orders 12 (Next (Caller 0)) flush_pending
turn12 = record { of_actor = ((λ e. differ 21 12 refl e), ((λ e. differ 20 12 refl e), ((λ e. differ 19 12 refl e), ((λ e. differ 18 12 refl e), ((λ e. differ 17 12 refl e), ((λ e. differ 17 12 refl e), ((λ e. differ 16 12 refl e), ((λ e. differ 15 12 refl e), ((λ e. differ 14 12 refl e), ((λ e. differ 13 12 refl e), ((λ e. differ 11 12 refl e), ((λ e. differ 10 12 refl e), ((λ e. differ 9 12 refl e), ((λ e. differ 8 12 refl e), ((λ e. differ 7 12 refl e), ((λ e. differ 6 12 refl e), ((λ e. differ 5 12 refl e), ((λ e. differ 4 12 refl e), ((λ e. differ 3 12 refl e), ((λ e. differ 2 12 refl e), ((λ e. differ 1 12 refl e), ((λ e. differ 1 12 refl e), ((λ e. differ 1 12 refl e), tt))))))))))))))))))))))); played = (refl, ((λ e. inr (inr (refl, record { vcpu = 0; is_inside = refl; not_flushed = omega arith }))), (λ u. refl))) }

turn13 : PlaysTurn flush_pending_orders 13 (Next (Vcpu 0)) flush_pending
turn13 = record { of_actor = ((λ e. differ 21 13 refl e), ((λ e. differ 20 13 refl e), ((λ e. differ 19 13 refl e), ((λ e. differ 18 13 refl e), ((λ e. differ 17 13 refl e), ((λ e. differ 17 13 refl e), ((λ e. differ 16 13 refl e), ((λ e. differ 15 13 refl e), ((λ e. differ 14 13 refl e), ((λ e. refl), ((λ e. differ 11 13 refl e), ((λ e. differ 10 13 refl e), ((λ e. differ 9 13 refl e), ((λ e. differ 8 13 refl e), ((λ e. differ 7 13 refl e), ((λ e. differ 6 13 refl e), ((λ e. differ 5 13 refl e), ((λ e. differ 4 13 refl e), ((λ e. differ 3 13 refl e), ((λ e. differ 2 13 refl e), ((λ e. differ 1 13 refl e), ((λ e. differ 1 13 refl e), ((λ e. differ 1 13 refl e), tt))))))))))))))))))))))); played = (refl, ((λ e. cons_nil e), (λ u. elim u [ inl g ↦ false_true g | inr b ↦ absurd b ]))) }

turn14 : PlaysTurn flush_pending_orders 14 (Kick 0) flush_pending
turn14 = record { of_actor = ((λ e. differ 21 14 refl e), ((λ e. differ 20 14 refl e), ((λ e. differ 19 14 refl e), ((λ e. differ 18 14 refl e), ((λ e. differ 17 14 refl e), ((λ e. differ 17 14 refl e), ((λ e. differ 16 14 refl e), ((λ e. differ 15 14 refl e), ((λ e. refl), ((λ e. differ 13 14 refl e), ((λ e. differ 11 14 refl e), ((λ e. differ 10 14 refl e), ((λ e. differ 9 14 refl e), ((λ e. differ 8 14 refl e), ((λ e. differ 7 14 refl e), ((λ e. differ 6 14 refl e), ((λ e. differ 5 14 refl e), ((λ e. differ 4 14 refl e), ((λ e. differ 3 14 refl e), ((λ e. differ 2 14 refl e), ((λ e. differ 1 14 refl e), ((λ e. differ 1 14 refl e), ((λ e. differ 1 14 refl e), tt))))))))))))))))))))))); played = (inr refl, ((λ e. cons_nil e), (λ e. true_false_any e))) }

turn15 : PlaysTurn flush_pending_orders 15 (Next (Caller 0)) flush_pending
turn15 = record { of_actor = ((λ e. differ 21 15 refl e), ((λ e. differ 20 15 refl e), ((λ e. differ 19 15 refl e), ((λ e. differ 18 15 refl e), ((λ e. differ 17 15 refl e), ((λ e. differ 17 15 refl e), ((λ e. differ 16 15 refl e), ((λ e. refl), ((λ e. differ 14 15 refl e), ((λ e. differ 13 15 refl e), ((λ e. differ 11 15 refl e), ((λ e. differ 10 15 refl e), ((λ e. differ 9 15 refl e), ((λ e. differ 8 15 refl e), ((λ e. differ 7 15 refl e), ((λ e. differ 6 15 refl e), ((λ e. differ 5 15 refl e), ((λ e. differ 4 15 refl e), ((λ e. differ 3 15 refl e), ((λ e. differ 2 15 refl e), ((λ e. differ 1 15 refl e), ((λ e. differ 1 15 refl e), ((λ e. differ 1 15 refl e), tt))))))))))))))))))))))); played = (refl, ((λ e. cons_nil e), (λ u. elim u [ inl g ↦ false_true g | inr b ↦ elim b [ inl w ↦ absurd (some_none_call w.none_in_progress) | inr a ↦ absurd (one_vcpu flush_pending_orders past15 _ refl follows15 (λ i m. late m) a.1) ] ]))) }

turn16 : PlaysTurn flush_pending_orders 16 (Next (Caller 0)) flush_pending
turn16 = record { of_actor = ((λ e. differ 21 16 refl e), ((λ e. differ 20 16 refl e), ((λ e. differ 19 16 refl e), ((λ e. differ 18 16 refl e), ((λ e. differ 17 16 refl e), ((λ e. differ 17 16 refl e), ((λ e. refl), ((λ e. differ 15 16 refl e), ((λ e. differ 14 16 refl e), ((λ e. differ 13 16 refl e), ((λ e. differ 11 16 refl e), ((λ e. differ 10 16 refl e), ((λ e. differ 9 16 refl e), ((λ e. differ 8 16 refl e), ((λ e. differ 7 16 refl e), ((λ e. differ 6 16 refl e), ((λ e. differ 5 16 refl e), ((λ e. differ 4 16 refl e), ((λ e. differ 3 16 refl e), ((λ e. differ 2 16 refl e), ((λ e. differ 1 16 refl e), ((λ e. differ 1 16 refl e), ((λ e. differ 1 16 refl e), tt))))))))))))))))))))))); played = (refl, ((λ e. cons_nil e), (λ u. elim u [ inl g ↦ false_true g | inr b ↦ elim b [ inl w ↦ absurd (some_none_call w.none_in_progress) | inr a ↦ true_false_any a.0 ] ]))) }

turn17 : PlaysTurn flush_pending_orders 17 (Next (Caller 0)) flush_pending
turn17 = record { of_actor = ((λ e. differ 21 17 refl e), ((λ e. differ 20 17 refl e), ((λ e. differ 19 17 refl e), ((λ e. differ 18 17 refl e), ((λ e. refl), ((λ e. refl), ((λ e. differ 16 17 refl e), ((λ e. differ 15 17 refl e), ((λ e. differ 14 17 refl e), ((λ e. differ 13 17 refl e), ((λ e. differ 11 17 refl e), ((λ e. differ 10 17 refl e), ((λ e. differ 9 17 refl e), ((λ e. differ 8 17 refl e), ((λ e. differ 7 17 refl e), ((λ e. differ 6 17 refl e), ((λ e. differ 5 17 refl e), ((λ e. differ 4 17 refl e), ((λ e. differ 3 17 refl e), ((λ e. differ 2 17 refl e), ((λ e. differ 1 17 refl e), ((λ e. differ 1 17 refl e), ((λ e. differ 1 17 refl e), tt))))))))))))))))))))))); played = (refl, ((λ e. cons_nil e), (λ u. elim u [ inl g ↦ false_true g | inr b ↦ elim b [ inl w ↦ absurd (some_none_call w.none_in_progress) | inr a ↦ true_false_any a.0 ] ]))) }

turn18 : PlaysTurn flush_pending_orders 18 (Next (Vcpu 0)) flush_pending
turn18 = record { of_actor = ((λ e. differ 21 18 refl e), ((λ e. differ 20 18 refl e), ((λ e. differ 19 18 refl e), ((λ e. refl), ((λ e. differ 17 18 refl e), ((λ e. differ 17 18 refl e), ((λ e. differ 16 18 refl e), ((λ e. differ 15 18 refl e), ((λ e. differ 14 18 refl e), ((λ e. differ 13 18 refl e), ((λ e. differ 11 18 refl e), ((λ e. differ 10 18 refl e), ((λ e. differ 9 18 refl e), ((λ e. differ 8 18 refl e), ((λ e. differ 7 18 refl e), ((λ e. differ 6 18 refl e), ((λ e. differ 5 18 refl e), ((λ e. differ 4 18 refl e), ((λ e. differ 3 18 refl e), ((λ e. differ 2 18 refl e), ((λ e. differ 1 18 refl e), ((λ e. differ 1 18 refl e), ((λ e. differ 1 18 refl e), tt))))))))))))))))))))))); played = (refl, ((λ e. cons_nil e), (λ u. elim u [ inl g ↦ false_true g | inr b ↦ absurd b ]))) }

turn19 : PlaysTurn flush_pending_orders 19 (Next (Vcpu 0)) flush_pending
turn19 = record { of_actor = ((λ e. differ 21 19 refl e), ((λ e. differ 20 19 refl e), ((λ e. refl), ((λ e. differ 18 19 refl e), ((λ e. differ 17 19 refl e), ((λ e. differ 17 19 refl e), ((λ e. differ 16 19 refl e), ((λ e. differ 15 19 refl e), ((λ e. differ 14 19 refl e), ((λ e. differ 13 19 refl e), ((λ e. differ 11 19 refl e), ((λ e. differ 10 19 refl e), ((λ e. differ 9 19 refl e), ((λ e. differ 8 19 refl e), ((λ e. differ 7 19 refl e), ((λ e. differ 6 19 refl e), ((λ e. differ 5 19 refl e), ((λ e. differ 4 19 refl e), ((λ e. differ 3 19 refl e), ((λ e. differ 2 19 refl e), ((λ e. differ 1 19 refl e), ((λ e. differ 1 19 refl e), ((λ e. differ 1 19 refl e), tt))))))))))))))))))))))); played = (refl, ((λ e. cons_nil e), (λ u. elim u [ inl g ↦ false_true g | inr b ↦ absurd b ]))) }

turn20 : PlaysTurn flush_pending_orders 20 (Next (Vcpu 0)) flush_pending
turn20 = record { of_actor = ((λ e. differ 21 20 refl e), ((λ e. refl), ((λ e. differ 19 20 refl e), ((λ e. differ 18 20 refl e), ((λ e. differ 17 20 refl e), ((λ e. differ 17 20 refl e), ((λ e. differ 16 20 refl e), ((λ e. differ 15 20 refl e), ((λ e. differ 14 20 refl e), ((λ e. differ 13 20 refl e), ((λ e. differ 11 20 refl e), ((λ e. differ 10 20 refl e), ((λ e. differ 9 20 refl e), ((λ e. differ 8 20 refl e), ((λ e. differ 7 20 refl e), ((λ e. differ 6 20 refl e), ((λ e. differ 5 20 refl e), ((λ e. differ 4 20 refl e), ((λ e. differ 3 20 refl e), ((λ e. differ 2 20 refl e), ((λ e. differ 1 20 refl e), ((λ e. differ 1 20 refl e), ((λ e. differ 1 20 refl e), tt))))))))))))))))))))))); played = (refl, ((λ e. cons_nil e), (λ u. elim u [ inl g ↦ false_true g | inr b ↦ absurd b ]))) }

turn21 : PlaysTurn flush_pending_orders 21 (Next (Vcpu 0)) flush_pending
turn21 = record { of_actor = ((λ e. refl), ((λ e. differ 20 21 refl e), ((λ e. differ 19 21 refl e), ((λ e. differ 18 21 refl e), ((λ e. differ 17 21 refl e), ((λ e. differ 17 21 refl e), ((λ e. differ 16 21 refl e), ((λ e. differ 15 21 refl e), ((λ e. differ 14 21 refl e), ((λ e. differ 13 21 refl e), ((λ e. differ 11 21 refl e), ((λ e. differ 10 21 refl e), ((λ e. differ 9 21 refl e), ((λ e. differ 8 21 refl e), ((λ e. differ 7 21 refl e), ((λ e. differ 6 21 refl e), ((λ e. differ 5 21 refl e), ((λ e. differ 4 21 refl e), ((λ e. differ 3 21 refl e), ((λ e. differ 2 21 refl e), ((λ e. differ 1 21 refl e), ((λ e. differ 1 21 refl e), ((λ e. differ 1 21 refl e), tt))))))))))))))))))))))); played = (refl, ((λ e. cons_nil e), (λ u. elim u [ inl g ↦ false_true g | inr b ↦ absurd b ]))) }

pub flush_pending_plays : Plays flush_pending_orders flush_pending_turns flush_pending
flush_pending_plays = record { no_fall = (omega arith, (omega arith, (omega arith, (omega arith, (omega arith, (omega arith, (omega arith, (omega arith, (omega arith, (omega arith, (omega arith, (omega arith, (omega arith, (omega arith, (omega arith, (omega arith, (omega arith, (omega arith, (omega arith, (omega arith, (omega arith, (omega arith, (tt, tt))))))))))))))))))))))); in_range = ((omega arith, omega arith), ((omega arith, omega arith), ((omega arith, omega arith), ((omega arith, omega arith), ((omega arith, omega arith), ((omega arith, omega arith), ((omega arith, omega arith), ((omega arith, omega arith), ((omega arith, omega arith), ((omega arith, omega arith), ((omega arith, omega arith), ((omega arith, omega arith), ((omega arith, omega arith), ((omega arith, omega arith), ((omega arith, omega arith), ((omega arith, omega arith), ((omega arith, omega arith), ((omega arith, omega arith), ((omega arith, omega arith), ((omega arith, omega arith), ((omega arith, omega arith), ((omega arith, omega arith), ((omega arith, omega arith), tt))))))))))))))))))))))); each_turn = all_turns (λ k t. PlaysTurn flush_pending_orders (suc k) t flush_pending) flush_pending_turns (turn1, (turn2, (turn3, (turn4, (turn5, (turn6, (turn7, (turn8, (turn9, (turn10, (turn11, (turn12, (turn13, (turn14, (turn15, (turn16, (turn17, (turn18, (turn19, (turn20, (turn21, tt))))))))))))))))))))); here = (tt, ((refl, refl), (refl, (tt, (tt, (tt, (tt, (tt, (tt, (tt, (tt, (tt, (tt, (tt, (tt, (tt, ((refl, refl), (refl, (tt, (tt, (tt, (tt, (tt, tt))))))))))))))))))))))) }
