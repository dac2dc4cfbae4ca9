-- What a run comes to, by what it put.
use Rattle.std.proofs.Common.{◌≡◌, List, Option, refl, ℕ}
use Rattle.gmemrun.specs.Coming.{CameTo, Put, Took}
use Rattle.gmemrun.specs.Reading.{ReadAll}
use Rattle.gmemrun.specs.declared.status.Status.{Status}
use Rattle.gmemrun.specs.declared.status.Status.TheVariants.{Ok, BadScript, Usage, ReadFault, WriteFault, NoMemory, TooLong, BadHistory}

-- the statuses of a source that was read to its end
took_all : (most : ℕ) (status : Status) (left left_after : Option (List ℕ)) (bytes : List ℕ) → ReadAll most left left_after bytes → (status ≡ Usage → ⊥) → (status ≡ ReadFault → ⊥) → (status ≡ TooLong → ⊥) → Took most status left left_after bytes
took_all most Ok left left_after bytes r u f l = r
took_all most BadScript left left_after bytes r u f l = r
took_all most BadHistory left left_after bytes r u f l = r
took_all most Usage left left_after bytes r u f l = absurd (u refl)
took_all most ReadFault left left_after bytes r u f l = absurd (f refl)
took_all most WriteFault left left_after bytes r u f l = r
took_all most NoMemory left left_after bytes r u f l = tt
took_all most TooLong left left_after bytes r u f l = absurd (l refl)

pub came : (most : ℕ) (Due : List ℕ → Status → List ℕ → Type 0) (status : Status) (left left_after held held_after : Option (List ℕ)) (bytes : List ℕ) → ReadAll most left left_after bytes → Put Due bytes status held held_after → (status ≡ Usage → ⊥) → (status ≡ ReadFault → ⊥) → (status ≡ TooLong → ⊥) → CameTo most Due status left left_after held held_after
came most Due status left left_after held held_after bytes r p u f l = record { bytes = bytes; took = took_all most status left left_after bytes r u f l; put = p }
