-- Actors as a script names them.
use Rattle.std.specs.Prelude.{ℕ, Bool, nat_lt, List, drop, Some, None, codes, if◌then◌else◌}
use Rattle.std.specs.declared.option.Option.{Option}
use Rattle.gm_base.specs.declared.values.Setup.{Setup}
use Rattle.gm_base.specs.declared.values.Actor.{Actor}
use Rattle.gm_base.specs.declared.values.Actor.TheVariants.{Vcpu, Caller}
use Rattle.gm_script.specs.declared.actors.Named.{Named}
use Rattle.gm_script.specs.declared.actors.Named.TheVariants.{Vcpu as NamedVcpu, Caller as NamedCaller}
use Rattle.gm_script.specs.Split.{begins_with}
use Rattle.gm_script.specs.Numbers.{digits_of}

abbrev pub name_vcpu : Option ℕ → Option Named
name_vcpu None = None
name_vcpu (Some n) = Some (NamedVcpu n)

abbrev pub name_caller : Option ℕ → Option Named
name_caller None = None
name_caller (Some n) = Some (NamedCaller n)

-- v or c, and 1 to 5 decimal digits
unfoldable pub named_of : List ℕ → Option Named
named_of word =
    if begins_with (codes "v") word then name_vcpu (digits_of 10 5 (drop 1 word))
    else if begins_with (codes "c") word then name_caller (digits_of 10 5 (drop 1 word))
    else None

-- the actor's number is below the setup's count
abbrev pub is_known : Setup → Named → Bool
is_known s (NamedVcpu v) = nat_lt v s.vcpus
is_known s (NamedCaller c) = nat_lt c s.callers

abbrev pub actor_of : Named → Actor
actor_of (NamedVcpu v) = Vcpu v
actor_of (NamedCaller c) = Caller c
