-- Flags of actors.
use Rattle.std.specs.Prelude.{ℕ, ◌<◌, List, Bool, true, false, length, slice_index_or, slice_set, replicate}
use Rattle.gm_base.specs.declared.values.Actor.{Actor}
use Rattle.gm_base.specs.declared.values.Actor.TheVariants.{Vcpu, Caller}

-- a flag for each vCPU and each caller, by number
pub record Flags : Type 0 where
  pub vcpus : List Bool
  pub callers : List Bool

abbrev pub flag_of : Flags → Actor → Bool
flag_of f (Vcpu v) = slice_index_or f.vcpus v false
flag_of f (Caller c) = slice_index_or f.callers c false

abbrev pub with_flag : Flags → Actor → Flags
with_flag f (Vcpu v) = record { vcpus = slice_set f.vcpus v true; callers = f.callers }
with_flag f (Caller c) = record { vcpus = f.vcpus; callers = slice_set f.callers c true }

abbrev pub no_flags : ℕ → ℕ → Flags
no_flags vcpus callers = record { vcpus = replicate vcpus false; callers = replicate callers false }

-- the actor has a flag
abbrev pub IsAmong : Flags → Actor → Type 0
IsAmong f (Vcpu v) = v < length f.vcpus
IsAmong f (Caller c) = c < length f.callers
