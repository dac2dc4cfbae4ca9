-- The smallest whole history: the one vCPU of a machine without callers has no command, and says so in its turn.
use Rattle.std.specs.Prelude.{List, [], ◌∷◌, false}
use Rattle.gm_base.specs.Scripts.{Orders}
use Rattle.gm_base.specs.declared.values.Actor.TheVariants.{Vcpu}
use Rattle.gm_flat.specs.declared.entry.Entry.{Entry}
use Rattle.gm_flat.specs.declared.entry.What.TheVariants.{Gone}
use Rattle.gm_laws.specs.Rows.{entry}

abbrev pub smallest_orders : Orders
smallest_orders = record { setup = record { frames = 4; user = 4; vcpus = 1; callers = 0; huge = false }; vcpus = [] ∷ []; callers = [] }

abbrev pub smallest : List Entry
smallest = entry 1 (Vcpu 0) Gone ∷ []

-- the same, of a machine that has a caller too, which hasn't said that it has no command left
abbrev pub one_caller_orders : Orders
one_caller_orders = record { setup = record { frames = 4; user = 4; vcpus = 1; callers = 1; huge = false }; vcpus = [] ∷ []; callers = [] ∷ [] }
