-- Flags of actors after one is set, and after all are taken back.
use Rattle.std.proofs.Common.{◌≡◌, ℕ, List, Bool, true, false, length, get_or, set, replicate, zero, suc, arith, subst, sym, ◌∙◌, ap, refl, eqb, inl, inr, ◌⊎◌}
use Rattle.std.proofs.lemmas.Bool.{both_ways, cases_Bool, eqb-true}
use Rattle.std.proofs.lemmas.List.{get_or-set_other, length-set}
use Rattle.gm_base.specs.declared.values.Actor.{Actor}
use Rattle.gm_base.specs.declared.values.Actor.TheVariants.{Vcpu, Caller}
use Rattle.gm_machine.specs.Flags.{Flags, flag_of, no_flags, with_flag}

-- after a flag is set
flag_at : (xs : List Bool) (k j : ℕ) → get_or (set xs k true) j false ≡ true → (k ≡ j) ⊎ (get_or xs j false ≡ true)
flag_at xs k j h = elim (cases_Bool (eqb k j)) [
  | inl e ↦ inl (eqb-true k j e)
  | inr e ↦ inr (sym (get_or-set_other xs k j true false (λ s. absurd (both_ways (eqb k j) e (subst (λ (n : ℕ). eqb k n ≡ true) (sym s) (self k))))) ∙ h)
]
  where
    self : (n : ℕ) → eqb n n ≡ true
    self n = grind arith

pub flag_either : (f : Flags) (a b : Actor) → flag_of (with_flag f a) b ≡ true → (a ≡ b) ⊎ (flag_of f b ≡ true)
flag_either f (Vcpu v) (Vcpu u) h = elim (flag_at f.vcpus v u h) [ inl e ↦ inl (ap Vcpu e) | inr k ↦ inr k ]
flag_either f (Caller v) (Caller u) h = elim (flag_at f.callers v u h) [ inl e ↦ inl (ap Caller e) | inr k ↦ inr k ]
flag_either f (Vcpu v) (Caller u) h = inr h
flag_either f (Caller v) (Vcpu u) h = inr h

-- as many flags as before
pub flag_lengths : (f : Flags) (a : Actor) → (length (with_flag f a).vcpus ≡ length f.vcpus) × (length (with_flag f a).callers ≡ length f.callers)
flag_lengths f (Vcpu v) = (length-set f.vcpus v true, refl)
flag_lengths f (Caller c) = (refl, length-set f.callers c true)

none_set : (n v : ℕ) → get_or (replicate n false) v false ≡ false
none_set zero v = refl
none_set (suc n) zero = refl
none_set (suc n) (suc v) = none_set n v

-- no flag is set
pub flag_of-no_flags : (vcpus callers : ℕ) (a : Actor) → flag_of (no_flags vcpus callers) a ≡ false
flag_of-no_flags vcpus callers (Vcpu v) = none_set vcpus v
flag_of-no_flags vcpus callers (Caller c) = none_set callers c
