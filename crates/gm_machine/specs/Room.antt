-- The room that actors have.
use Rattle.std.specs.Prelude.{◌≡◌, true, length}
use Rattle.gm_base.specs.declared.values.Actor.{Actor}
use Rattle.gm_machine.specs.Flags.{Flags, flag_of}
use Rattle.gm_turns.specs.Room.{IsRoomyFor}
use Rattle.gm_turns.specs.declared.parts.Core.{Core}

-- each actor that has room has it for one turn
pub record RoomIsKept (k : Core) (room : Flags) : Type 0 where
  pub room_vcpus : length room.vcpus ≡ k.setup.vcpus
  pub room_callers : length room.callers ≡ k.setup.callers
  pub roomy : (a : Actor) → flag_of room a ≡ true → IsRoomyFor k a
