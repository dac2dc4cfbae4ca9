-- Scripts of numbers.
use Rattle.std.proofs.Common.{◌≡◌, ◌∙◌, ◌∷◌, ◌⊎◌, [], List, Some, ap, arith, inl, inr, subst, sym, ℕ}
use Rattle.std.specs.Prelude.{String}
use Rattle.std.specs.Global.{Global}
use Rattle.gm_gen.proofs.ScriptReads.{is_script}
use Rattle.gm_gen.specs.Workload.{workload_text}
use Rattle.gm_script.specs.Grammar.{Bad, Good, script_of}
use Rattle.gm_script.specs.declared.error.Cause.{Cause}
use Rattle.gmemrun.specs.Words.{IsBulk}
use Rattle.gmemrun.specs.declared.bulk.TheConstants.{BULK_TURNS}
use Rattle.gmemrun.specs.declared.status.Status.{Status}
use Rattle.gmemrun.specs.declared.status.Status.TheVariants.{Ok, NoMemory, ReadFault, Usage, WriteFault}

-- the script of a number has no bad line
pub not_bad : (number : ℕ) (bytes : List ℕ) (line : ℕ) (cause : Cause) → bytes ≡ workload_text number BULK_TURNS → script_of bytes ≡ Bad line cause → ⊥
not_bad number bytes line cause e bad =
    let s = is_script number BULK_TURNS (omega arith) in
    let clash : Good s.0 ≡ Bad line cause = sym s.1 ∙ (ap (λ (b : List ℕ). script_of b) (sym e) ∙ bad) in
    cc

-- words tell one number
pub one_number : (words : List (String Global)) (n m : ℕ) → IsBulk words n → IsBulk words m → n ≡ m
one_number [] n m p q = absurd p
one_number (word ∷ []) n m p q = absurd p
one_number (word ∷ digits ∷ []) n m p q = let e : Some n ≡ Some m = sym p.1 ∙ q.1 in cc
one_number (word ∷ digits ∷ more ∷ words) n m p q = absurd p

-- what its run answers is neither of these
abbrev Answers : Status → Type 0
Answers status = (status ≡ Ok) ⊎ ((status ≡ WriteFault) ⊎ (status ≡ NoMemory))

not_usage : Answers Usage → ⊥
not_usage (inl e) = cc
not_usage (inr (inl e)) = cc
not_usage (inr (inr e)) = cc

not_read : Answers ReadFault → ⊥
not_read (inl e) = cc
not_read (inr (inl e)) = cc
not_read (inr (inr e)) = cc

pub never_usage : (status : Status) → Answers status → status ≡ Usage → ⊥
never_usage status h e = not_usage (subst Answers e h)

pub never_read : (status : Status) → Answers status → status ≡ ReadFault → ⊥
never_read status h e = not_read (subst Answers e h)
