-- The worked row «one read» plays the turns of its script.
use Rattle.std.proofs.Common.{[], arith, inl, inr, refl, suc}
use Rattle.gm_base.specs.declared.script.Turn.TheVariants.{Next}
use Rattle.gm_base.specs.declared.values.Actor.TheVariants.{Caller, Vcpu}
use Rattle.gm_flat.specs.Plays.{Plays, PlaysTurn}
use Rattle.gm_laws.proofs.Rows.{all_turns, cons_nil, differ, false_true, one_caller}
use Rattle.gm_laws.specs.OneRead.{one_read, one_read_orders, one_read_turns}

turn1 : PlaysTurn one_read_orders 1 (Next (Caller 0)) one_read
turn1 = record { of_actor = ((λ e. differ 9 1 refl e), ((λ e. differ 8 1 refl e), ((λ e. differ 7 1 refl e), ((λ e. differ 6 1 refl e), ((λ e. differ 5 1 refl e), ((λ e. differ 4 1 refl e), ((λ e. differ 3 1 refl e), ((λ e. differ 2 1 refl e), ((λ e. refl), ((λ e. refl), ((λ e. refl), tt))))))))))); played = (refl, ((λ e. cons_nil e), (λ u. elim u [ inl g ↦ false_true g | inr b ↦ elim b [ inl w ↦ absurd (one_caller one_read_orders [] w.ioctl refl tt w.waits) | inr a ↦ absurd a ] ]))) }

turn2 : PlaysTurn one_read_orders 2 (Next (Vcpu 0)) one_read
turn2 = record { of_actor = ((λ e. differ 9 2 refl e), ((λ e. differ 8 2 refl e), ((λ e. differ 7 2 refl e), ((λ e. differ 6 2 refl e), ((λ e. differ 5 2 refl e), ((λ e. differ 4 2 refl e), ((λ e. differ 3 2 refl e), ((λ e. refl), ((λ e. differ 1 2 refl e), ((λ e. differ 1 2 refl e), ((λ e. differ 1 2 refl e), tt))))))))))); played = (refl, ((λ e. cons_nil e), (λ u. elim u [ inl g ↦ false_true g | inr b ↦ absurd b ]))) }

turn3 : PlaysTurn one_read_orders 3 (Next (Vcpu 0)) one_read
turn3 = record { of_actor = ((λ e. differ 9 3 refl e), ((λ e. differ 8 3 refl e), ((λ e. differ 7 3 refl e), ((λ e. differ 6 3 refl e), ((λ e. differ 5 3 refl e), ((λ e. differ 4 3 refl e), ((λ e. refl), ((λ e. differ 2 3 refl e), ((λ e. differ 1 3 refl e), ((λ e. differ 1 3 refl e), ((λ e. differ 1 3 refl e), tt))))))))))); played = (refl, ((λ e. cons_nil e), (λ u. elim u [ inl g ↦ false_true g | inr b ↦ absurd b ]))) }

turn4 : PlaysTurn one_read_orders 4 (Next (Vcpu 0)) one_read
turn4 = record { of_actor = ((λ e. differ 9 4 refl e), ((λ e. differ 8 4 refl e), ((λ e. differ 7 4 refl e), ((λ e. differ 6 4 refl e), ((λ e. differ 5 4 refl e), ((λ e. refl), ((λ e. differ 3 4 refl e), ((λ e. differ 2 4 refl e), ((λ e. differ 1 4 refl e), ((λ e. differ 1 4 refl e), ((λ e. differ 1 4 refl e), tt))))))))))); played = (refl, ((λ e. cons_nil e), (λ u. elim u [ inl g ↦ false_true g | inr b ↦ absurd b ]))) }

turn5 : PlaysTurn one_read_orders 5 (Next (Vcpu 0)) one_read
turn5 = record { of_actor = ((λ e. differ 9 5 refl e), ((λ e. differ 8 5 refl e), ((λ e. differ 7 5 refl e), ((λ e. differ 6 5 refl e), ((λ e. refl), ((λ e. differ 4 5 refl e), ((λ e. differ 3 5 refl e), ((λ e. differ 2 5 refl e), ((λ e. differ 1 5 refl e), ((λ e. differ 1 5 refl e), ((λ e. differ 1 5 refl e), tt))))))))))); played = (refl, ((λ e. cons_nil e), (λ u. elim u [ inl g ↦ false_true g | inr b ↦ absurd b ]))) }

turn6 : PlaysTurn one_read_orders 6 (Next (Vcpu 0)) one_read
turn6 = record { of_actor = ((λ e. differ 9 6 refl e), ((λ e. differ 8 6 refl e), ((λ e. differ 7 6 refl e), ((λ e. refl), ((λ e. differ 5 6 refl e), ((λ e. differ 4 6 refl e), ((λ e. differ 3 6 refl e), ((λ e. differ 2 6 refl e), ((λ e. differ 1 6 refl e), ((λ e. differ 1 6 refl e), ((λ e. differ 1 6 refl e), tt))))))))))); played = (refl, ((λ e. cons_nil e), (λ u. elim u [ inl g ↦ false_true g | inr b ↦ absurd b ]))) }

turn7 : PlaysTurn one_read_orders 7 (Next (Vcpu 0)) one_read
turn7 = record { of_actor = ((λ e. differ 9 7 refl e), ((λ e. differ 8 7 refl e), ((λ e. refl), ((λ e. differ 6 7 refl e), ((λ e. differ 5 7 refl e), ((λ e. differ 4 7 refl e), ((λ e. differ 3 7 refl e), ((λ e. differ 2 7 refl e), ((λ e. differ 1 7 refl e), ((λ e. differ 1 7 refl e), ((λ e. differ 1 7 refl e), tt))))))))))); played = (refl, ((λ e. cons_nil e), (λ u. elim u [ inl g ↦ false_true g | inr b ↦ absurd b ]))) }

turn8 : PlaysTurn one_read_orders 8 (Next (Vcpu 0)) one_read
turn8 = record { of_actor = ((λ e. differ 9 8 refl e), ((λ e. refl), ((λ e. differ 7 8 refl e), ((λ e. differ 6 8 refl e), ((λ e. differ 5 8 refl e), ((λ e. differ 4 8 refl e), ((λ e. differ 3 8 refl e), ((λ e. differ 2 8 refl e), ((λ e. differ 1 8 refl e), ((λ e. differ 1 8 refl e), ((λ e. differ 1 8 refl e), tt))))))))))); played = (refl, ((λ e. cons_nil e), (λ u. elim u [ inl g ↦ false_true g | inr b ↦ absurd b ]))) }

turn9 : PlaysTurn one_read_orders 9 (Next (Vcpu 0)) one_read
turn9 = record { of_actor = ((λ e. refl), ((λ e. differ 8 9 refl e), ((λ e. differ 7 9 refl e), ((λ e. differ 6 9 refl e), ((λ e. differ 5 9 refl e), ((λ e. differ 4 9 refl e), ((λ e. differ 3 9 refl e), ((λ e. differ 2 9 refl e), ((λ e. differ 1 9 refl e), ((λ e. differ 1 9 refl e), ((λ e. differ 1 9 refl e), tt))))))))))); played = (refl, ((λ e. cons_nil e), (λ u. elim u [ inl g ↦ false_true g | inr b ↦ absurd b ]))) }

pub one_read_plays : Plays one_read_orders one_read_turns one_read
one_read_plays = record { no_fall = (omega arith, (omega arith, (omega arith, (omega arith, (omega arith, (omega arith, (omega arith, (omega arith, (omega arith, (omega arith, (tt, tt))))))))))); in_range = ((omega arith, omega arith), ((omega arith, omega arith), ((omega arith, omega arith), ((omega arith, omega arith), ((omega arith, omega arith), ((omega arith, omega arith), ((omega arith, omega arith), ((omega arith, omega arith), ((omega arith, omega arith), ((omega arith, omega arith), ((omega arith, omega arith), tt))))))))))); each_turn = all_turns (λ k t. PlaysTurn one_read_orders (suc k) t one_read) one_read_turns (turn1, (turn2, (turn3, (turn4, (turn5, (turn6, (turn7, (turn8, (turn9, tt))))))))); here = (tt, (tt, (tt, (tt, ((refl, refl), (refl, (tt, (tt, (tt, (tt, (tt, tt))))))))))) }
