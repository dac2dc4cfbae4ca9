-- When an effect of a call can be made, and what room it needs.
use Rattle.std.specs.Prelude.{◌≡◌, ℕ, ◌≤◌, true, length, Some, None}
use Rattle.std.specs.declared.option.Option.{Option}
use Rattle.gm_base.specs.declared.calls.Ioctl.{Ioctl}
use Rattle.gm_base.specs.declared.numbers.TheConstants.{MOST_USER_PAGES}
use Rattle.gm_base.specs.declared.values.Setup.{Setup}
use Rattle.gm_flat.specs.declared.effect.Effect.{Effect}
use Rattle.gm_flat.specs.declared.effect.Effect.TheVariants.{File, Slot, Move, Attr, Cut, Shut}
use Rattle.gm_laws.specs.SlotsStand.{SlotsStand}
use Rattle.gm_store.specs.Views.{bind_room, file_in, pairs_in}
use Rattle.gm_state.specs.Promised.{Makes}
use Rattle.gm_state.specs.Stand.{Memory, StateIs}
use Rattle.gm_state.specs.Views.{StateView}
use Rattle.gm_state.specs.declared.tracking.TheConstants.{SLOT_BLOCKS}

-- the state stands for the memory, and the effect is one that the call makes over its flat state
pub record CanApply (s : Setup) (st : StateView) (m : Memory) (ioctl : Ioctl) (effect : Effect) : Type 0 where
  pub is : StateIs s st m
  pub makes : Makes s ioctl m.stored.flat effect
  pub apart : SlotsStand m.stored.flat
  pub small : s.user ≤ MOST_USER_PAGES

-- a slot's file can bind one range more
abbrev pub HasBindRoom : StateView → Option ℕ → Type 0
HasBindRoom st None = Unit {0}
HasBindRoom st (Some file) = 1 ≤ bind_room (file_in st.store.files file)

-- where blocks are allowed, those of one slot can be tracked
abbrev pub HasBlockRoom : StateView → Type 0
HasBlockRoom st = st.huge ≡ true → SLOT_BLOCKS ≤ st.attrs.block_spare

-- all that is cached of a file fits into the list of what is to be freed
abbrev pub HasFreedRoom : StateView → ℕ → Type 0
HasFreedRoom st file = length (pairs_in (file_in st.store.files file)) ≤ st.freed.room

-- room that an effect needs
abbrev pub HasRoomFor : StateView → Effect → Type 0
HasRoomFor st (File file pages block) = 1 ≤ st.store.spare
HasRoomFor st (Slot slot base pages user flags file index) = HasBindRoom st file × HasBlockRoom st
HasRoomFor st (Move slot base) = HasBlockRoom st
HasRoomFor st (Attr span kind) = 1 ≤ st.attrs.call_spare
HasRoomFor st (Cut file lo hi) = HasFreedRoom st file
HasRoomFor st (Shut file) = HasFreedRoom st file
HasRoomFor st effect = Unit {0}
