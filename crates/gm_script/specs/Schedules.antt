-- What is known of a script that was read.
use Rattle.std.specs.Prelude.{◌≡◌, ℕ, ◌+◌, ◌≤◌, List, [], ◌∷◌, length, All, IfSome, slice_get, slice_index_or}
use Rattle.gm_base.specs.declared.script.Command.{Command}
use Rattle.gm_base.specs.declared.script.Command.TheVariants.{Touch, Call}
use Rattle.gm_base.specs.declared.values.Setup.{Setup}
use Rattle.gm_base.specs.declared.numbers.TheConstants.{MOST_FRAMES, MOST_USER_PAGES, MOST_VCPUS, MOST_CALLERS, MOST_COMMANDS, MOST_TURNS}
use Rattle.gm_base.specs.Scripts.{Schedule, IsTurnOf}

-- a command of a vCPU, and one of a caller
abbrev pub IsTouch : Command → Type 0
IsTouch (Touch a) = Unit {0}
IsTouch (Call call) = ⊥

abbrev pub IsCall : Command → Type 0
IsCall (Touch a) = ⊥
IsCall (Call call) = Unit {0}

-- how many commands the lists have
abbrev pub command_count : List (List Command) → ℕ
command_count [] = 0
command_count (commands ∷ lists) = length commands + command_count lists

-- the limits of a machine
pub record IsWithin (s : Setup) : Type 0 where
  pub frames : s.frames ≤ MOST_FRAMES
  pub user : s.user ≤ MOST_USER_PAGES
  pub some_vcpu : 1 ≤ s.vcpus
  pub vcpus : s.vcpus ≤ MOST_VCPUS
  pub callers : s.callers ≤ MOST_CALLERS

-- the setup is within the limits, each actor has a list of commands of its kind, each turn is of an actor, and there aren't
-- too many commands or turns
pub record IsScript (s : Schedule) : Type 0 where
  pub setup : IsWithin s.orders.setup
  pub vcpus : length s.orders.vcpus ≡ s.orders.setup.vcpus
  pub callers : length s.orders.callers ≡ s.orders.setup.callers
  pub touches : (v k : ℕ) → IfSome (slice_get (slice_index_or s.orders.vcpus v []) k) IsTouch
  pub calls : (c k : ℕ) → IfSome (slice_get (slice_index_or s.orders.callers c []) k) IsCall
  pub turns : All (IsTurnOf s.orders.setup) s.turns
  pub commands : command_count s.orders.vcpus + command_count s.orders.callers ≤ MOST_COMMANDS
  pub turn_count : length s.turns ≤ MOST_TURNS
