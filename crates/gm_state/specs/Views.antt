-- What is seen of the state.
use Rattle.std.specs.Prelude.{ℕ, Bool, List}
use Rattle.gm_attr.specs.Kinds.{AttrsView}
use Rattle.gm_file.specs.Views.{FolioList}
use Rattle.gm_slots.specs.Changes.{SlotList}
use Rattle.gm_store.specs.Views.{StoreView}

-- whether the machine allows blocks; the slots, the attributes, the words of user memory, the store, and the folios
-- that the last change left to be freed
pub record StateView : Type 0 where
  pub huge : Bool
  pub slots : SlotList
  pub attrs : AttrsView
  pub user : List (List ℕ)
  pub store : StoreView
  pub freed : FolioList
