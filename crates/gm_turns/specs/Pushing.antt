-- A command more for an actor.
use Rattle.std.specs.Prelude.{◌≡◌, ℕ, ◌≤◌, List, [], ◌∷◌, ◌++◌, IsSome, slice_index_or, slice_set}
use Rattle.gm_base.specs.Scripts.{Orders}
use Rattle.gm_base.specs.declared.calls.Ioctl.TheVariants.{Region2}
use Rattle.gm_base.specs.declared.calls.Region.{Region}
use Rattle.gm_base.specs.declared.script.Command.{Command}
use Rattle.gm_base.specs.declared.script.Command.TheVariants.{Call as CallCommand}
use Rattle.gm_base.specs.declared.values.Actor.{Actor}
use Rattle.gm_base.specs.declared.values.Actor.TheVariants.{Vcpu, Caller}
use Rattle.gm_state.specs.Views.{StateView}
use Rattle.gm_store.specs.Views.{bind_room, file_in}
use Rattle.gm_turns.specs.Ready.{IsAccess, IsIoctl, Settled}
use Rattle.gm_turns.specs.Room.{IsRoomyFor, orders_of}
use Rattle.gm_turns.specs.declared.parts.Core.{Core}

-- the command is one for an actor of that kind: an access for a vCPU, a call for a caller
abbrev pub IsFor : Actor → Command → Type 0
IsFor (Vcpu v) command = IsAccess command
IsFor (Caller c) command = IsIoctl command

-- lists by number, with a command more at the end of one
abbrev pub list_with : ℕ → Command → List (List Command) → List (List Command)
list_with number command lists = slice_set lists number (slice_index_or lists number [] ++ command ∷ [])

abbrev pub vcpus_with : Actor → Command → List (List Command) → List (List Command)
vcpus_with (Vcpu v) command lists = list_with v command lists
vcpus_with (Caller c) command lists = lists

abbrev pub callers_with : Actor → Command → List (List Command) → List (List Command)
callers_with (Vcpu v) command lists = lists
callers_with (Caller c) command lists = list_with c command lists

-- the orders with a command more at the end of the actor's
abbrev pub with_command : Orders → Actor → Command → Orders
with_command o actor command = record { setup = o.setup; vcpus = vcpus_with actor command o.vcpus; callers = callers_with actor command o.callers }

-- the file that the command's region names can bind one range more
abbrev pub HasRoomToBind : StateView → Command → Type 0
HasRoomToBind st command = (r : Region) → command ≡ CallCommand (Region2 r) → IsSome (file_in st.store.files r.fd) → 1 ≤ bind_room (file_in st.store.files r.fd)

-- the actor has a command more, and what had room has it still; the history and the turns are as before
pub record IsLonger (old new : Core) (actor : Actor) (command : Command) : Type 0 where
  pub orders : orders_of new ≡ with_command (orders_of old) actor command
  pub past : new.log.past ≡ old.log.past
  pub turns : new.turns ≡ old.turns
  pub settled : Settled new
  pub kept : (a : Actor) → IsRoomyFor old a → IsRoomyFor new a
