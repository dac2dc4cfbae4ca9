-- How many faults hold a folio: those that got it and neither install nor retry yet.
use Rattle.std.specs.Prelude.{ℕ, zero, suc, List, Bool, false, Some, nat_eq, if◌then◌else◌}
use Rattle.gm_flat.specs.Histories.{Fault, Faulting, fault}
use Rattle.gm_flat.specs.declared.effect.Backing.{Backing}
use Rattle.gm_flat.specs.declared.effect.Backing.TheVariants.{User, Folio as InFolio}
use Rattle.gm_flat.specs.declared.entry.Entry.{Entry}

-- whether the backing is the folio of that serial
abbrev pub is_of_folio : ℕ → Backing → Bool
is_of_folio serial (User user) = false
is_of_folio serial (InFolio folio) = nat_eq folio.serial serial

-- whether the fault got that folio
abbrev pub fault_holds : ℕ → Fault → Bool
fault_holds serial (Faulting access missed sample look (Some gotten)) = is_of_folio serial gotten.backing
fault_holds serial _ = false

-- one more where the test holds
abbrev pub one_more : Bool → ℕ → ℕ
one_more b n = if b then suc n else n

-- how many of the first n vCPUs have a fault that holds the folio
abbrev pub holds_of : ℕ → ℕ → List Entry → ℕ
holds_of zero serial past = 0
holds_of (suc n) serial past = one_more (fault_holds serial (fault n past)) (holds_of n serial past)
