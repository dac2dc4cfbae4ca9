-- *scripts*: what a script asks for, as values. (This project's own.)
use Rattle.std.specs.Prelude.{◌<◌, List, [], slice_index_or}
use Rattle.gm_base.specs.declared.values.Setup.{Setup}
use Rattle.gm_base.specs.declared.values.Actor.{Actor}
use Rattle.gm_base.specs.declared.values.Actor.TheVariants.{Vcpu, Caller}
use Rattle.gm_base.specs.declared.script.Command.{Command}
use Rattle.gm_base.specs.declared.script.Turn.{Turn}
use Rattle.gm_base.specs.declared.script.Turn.TheVariants.{Next, Kick}

-- a machine's setup, and each actor's commands in their order: one list for each vCPU and each caller, by number
pub record Orders : Type 0 where
  pub setup : Setup
  pub vcpus : List (List Command)
  pub callers : List (List Command)

-- the commands of an actor; one that the setup hasn't has none
abbrev pub commands_of : Orders → Actor → List Command
commands_of o (Vcpu v) = slice_index_or o.vcpus v []
commands_of o (Caller c) = slice_index_or o.callers c []

-- a whole script: the orders, and the turns with lines of several turns written out
pub record Schedule : Type 0 where
  pub orders : Orders
  pub turns : List Turn

-- the actor is one of the setup's
abbrev pub IsOf : Setup → Actor → Type 0
IsOf s (Vcpu v) = v < s.vcpus
IsOf s (Caller c) = c < s.callers

-- the turn is of an actor of the setup
abbrev pub IsTurnOf : Setup → Turn → Type 0
IsTurnOf s (Next actor) = IsOf s actor
IsTurnOf s (Kick v) = v < s.vcpus
