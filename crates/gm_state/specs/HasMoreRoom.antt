-- What a state with more room is.
use Rattle.std.specs.Prelude.{◌≡◌, ◌≤◌}
use Rattle.gm_base.specs.declared.values.Setup.{Setup}
use Rattle.gm_store.specs.Rooms.{RoomsKept}
use Rattle.gm_state.specs.Stand.{Memory, StateIs}
use Rattle.gm_state.specs.Views.{StateView}

-- there isn't less room for anything, and nothing else changed
pub record StateHasMoreRoom (old new : StateView) : Type 0 where
  pub others : new ≡ record old { attrs = new.attrs; store = new.store; freed = new.freed }
  pub attrs_are : new.attrs ≡ record old.attrs { call_spare = new.attrs.call_spare; block_spare = new.attrs.block_spare }
  pub store_is : new.store ≡ record old.store { files = new.store.files; spare = new.store.spare }
  pub freed_is : new.freed ≡ record old.freed { room = new.freed.room }
  pub calls : old.attrs.call_spare ≤ new.attrs.call_spare
  pub blocks : old.attrs.block_spare ≤ new.attrs.block_spare
  pub files : old.store.spare ≤ new.store.spare
  pub rooms : RoomsKept old.store.files new.store.files
  pub freed : old.freed.room ≤ new.freed.room
  -- it stands for the same memory
  pub stands : (s : Setup) (m : Memory) → StateIs s old m → StateIs s new m
