-- How the state stands for a history.
use Rattle.std.specs.Prelude.{◌≡◌, ℕ, ◌≤◌, List, length}
use Rattle.gm_base.specs.declared.values.Setup.{Setup}
use Rattle.gm_flat.specs.Replay.{flat}
use Rattle.gm_flat.specs.Words.{folio_word, user_word}
use Rattle.gm_flat.specs.declared.entry.Entry.{Entry}
use Rattle.gm_state.specs.Stand.{Memory, StateIs}
use Rattle.gm_state.specs.Views.{StateView}
use Rattle.gm_store.specs.Stored.{Stored}
use Rattle.gm_vcpus.specs.Holds.{holds_of}

-- the flat state, the holds of the faults in flight, and the words of folios
abbrev pub stored_of : Setup → List Entry → Stored
stored_of s past = record { flat = flat past; holds = λ serial. holds_of s.vcpus serial past; words = λ serial word. folio_word serial word past }

-- and the words of user memory
abbrev pub memory_of : Setup → List Entry → Memory
memory_of s past = record { stored = stored_of s past; user_words = λ page word. user_word page word past }

-- the state is that memory, and changes of slots are counted
pub record StateStands (s : Setup) (st : StateView) (past : List Entry) : Type 0 where
  pub is : StateIs s st (memory_of s past)
  pub generation : st.slots.generation ≤ length past
