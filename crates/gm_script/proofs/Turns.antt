-- Turns one after another.
use Rattle.std.proofs.Common.{◌≡◌, ℕ, zero, suc, ◌+◌, ◌*◌, ◌≤◌, [], ◌∷◌, ◌++◌, length, refl, sym, add-one, zero-mul, suc-mul, length-append, arith}
use Rattle.std.specs.List.{All}
use Rattle.std.proofs.lemmas.List.Elements.{All-nil, All-cons, All-append}
use Rattle.gm_base.specs.Scripts.{IsTurnOf}
use Rattle.gm_base.specs.declared.values.Setup.{Setup}
use Rattle.gm_base.specs.declared.values.Actor.TheVariants.{Vcpu, Caller}
use Rattle.gm_base.specs.declared.script.Turn.TheVariants.{Next, Kick}
use Rattle.gm_script.specs.Rounds.{vcpus_round, callers_round, round_of, rounds_of}

pub one_more_vcpu : (n : ℕ) → vcpus_round (n + 1) ≡ vcpus_round n ++ (Kick n ∷ Next (Vcpu n) ∷ [])
one_more_vcpu n = rw add-one refl

pub one_more_caller : (n : ℕ) → callers_round (n + 1) ≡ callers_round n ++ (Next (Caller n) ∷ [])
one_more_caller n = rw add-one refl

pub one_more_round : (s : Setup) (n : ℕ) → rounds_of s (n + 1) ≡ rounds_of s n ++ (vcpus_round s.vcpus ++ callers_round s.callers)
unfolding round_of
one_more_round s n = rw add-one refl

-- how many turns, and whose

count_vcpus : (n : ℕ) → length (vcpus_round n) ≡ 2 * n
count_vcpus zero = refl
count_vcpus (suc n) = simp (length-append) (omega (arith, count_vcpus n))

count_callers : (n : ℕ) → length (callers_round n) ≡ n
count_callers zero = refl
count_callers (suc n) = simp (length-append) (omega (arith, count_callers n))

count_round : (s : Setup) → length (round_of s) ≡ 2 * s.vcpus + s.callers
unfolding round_of
count_round s = simp (length-append) (omega (arith, count_vcpus s.vcpus, count_callers s.callers))

pub count_rounds : (s : Setup) (n : ℕ) → length (rounds_of s n) ≡ n * (2 * s.vcpus + s.callers)
count_rounds s zero = sym (zero-mul (2 * s.vcpus + s.callers))
count_rounds s (suc n) = simp (length-append, count_rounds s n, count_round s, suc-mul n (2 * s.vcpus + s.callers)) refl

vcpus_known : (s : Setup) (n : ℕ) → n ≤ s.vcpus → All (IsTurnOf s) (vcpus_round n)
vcpus_known s zero h = All-nil (IsTurnOf s)
vcpus_known s (suc n) h = All-append (IsTurnOf s) (vcpus_round n) (Kick n ∷ Next (Vcpu n) ∷ []) (vcpus_known s n (omega arith)) (All-cons (IsTurnOf s) (Kick n) (Next (Vcpu n) ∷ []) (omega arith) (All-cons (IsTurnOf s) (Next (Vcpu n)) [] (omega arith) (All-nil (IsTurnOf s))))

callers_known : (s : Setup) (n : ℕ) → n ≤ s.callers → All (IsTurnOf s) (callers_round n)
callers_known s zero h = All-nil (IsTurnOf s)
callers_known s (suc n) h = All-append (IsTurnOf s) (callers_round n) (Next (Caller n) ∷ []) (callers_known s n (omega arith)) (All-cons (IsTurnOf s) (Next (Caller n)) [] (omega arith) (All-nil (IsTurnOf s)))

round_known : (s : Setup) → All (IsTurnOf s) (round_of s)
unfolding round_of
round_known s = All-append (IsTurnOf s) (vcpus_round s.vcpus) (callers_round s.callers) (vcpus_known s s.vcpus (omega arith)) (callers_known s s.callers (omega arith))

pub rounds_known : (s : Setup) (n : ℕ) → All (IsTurnOf s) (rounds_of s n)
rounds_known s zero = All-nil (IsTurnOf s)
rounds_known s (suc n) = All-append (IsTurnOf s) (rounds_of s n) (round_of s) (rounds_known s n) (round_known s)
