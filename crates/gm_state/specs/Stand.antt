-- How the state stands for a flat state, with the holds of its folios and the words of memory.
use Rattle.std.specs.Prelude.{◌≡◌, ℕ, ◌+◌, ◌<◌, ◌≤◌, true, List, length}
use Rattle.gm_attr.specs.Kinds.{Tells}
use Rattle.gm_base.specs.declared.numbers.TheConstants.{PAGE_LIMIT, PAGE_WORDS, SLOT_IDS}
use Rattle.gm_base.specs.declared.values.Setup.{Setup}
use Rattle.gm_flat.specs.Calls.{has_memfd}
use Rattle.gm_flat.specs.Slots.{is_file}
use Rattle.gm_flat.specs.Words.{poked}
use Rattle.gm_flat.specs.declared.effect.Effect.{Effect}
use Rattle.gm_flat.specs.declared.views.SlotView.{SlotView}
use Rattle.gm_laws.specs.SlotsStand.{AllOf}
use Rattle.gm_store.specs.Frees.{FreesDue, with_frees}
use Rattle.gm_store.specs.Stored.{Stored, StoreStands, applied, nothing_stored}
use Rattle.gm_words.specs.Banks.{page_in, word_in}
use Rattle.gm_base.specs.declared.values.Folio.{Folio}
use Rattle.gm_state.specs.Tracking.{BlocksStand}
use Rattle.gm_state.specs.Views.{StateView}

-- a flat state with the holds and the words of its folios, and the words of user memory by page and number
pub record Memory : Type 0 where
  pub stored : Stored
  pub user_words : ℕ → ℕ → ℕ

-- nothing was made, and every word of user memory is zero
abbrev pub at_start : Memory
at_start = record { stored = nothing_stored; user_words = λ page word. 0 }

-- the slot has an id that may be, and a page; its guest pages and indexes are below 2^52, its user pages are ones of the
-- machine, and it has a file only with the flag for it
pub record IsBounded (user : ℕ) (s : SlotView) : Type 0 where
  pub id : s.id < SLOT_IDS
  pub some : 0 < s.pages
  pub pages : s.base + s.pages ≤ PAGE_LIMIT
  pub users : s.user + s.pages ≤ user
  pub indexes : s.index + s.pages ≤ PAGE_LIMIT
  pub flagged : (file : ℕ) → is_file s.file file ≡ true → has_memfd s ≡ true

-- user memory is the words, page by page
pub record UserStands (user : ℕ) (bank : List (List ℕ)) (words : ℕ → ℕ → ℕ) : Type 0 where
  pub count_is : length bank ≡ user
  pub whole : (page : ℕ) → page < user → length (page_in bank page) ≡ PAGE_WORDS
  pub words_are : (page word : ℕ) → page < user → word < PAGE_WORDS → word_in bank page word ≡ words page word

pub record StateIs (s : Setup) (st : StateView) (m : Memory) : Type 0 where
  pub slots_are : st.slots.slots ≡ m.stored.flat.slots
  pub attrs_are : Tells st.attrs m.stored.flat.attrs
  pub user : UserStands s.user st.user m.user_words
  pub store : StoreStands s.frames st.store m.stored
  pub bounded : AllOf (IsBounded s.user) m.stored.flat.slots
  pub blocks : BlocksStand s.huge st.huge st.attrs m.stored.flat.slots

-- after an effect and the frees that follow it
abbrev pub after_effect : Effect → List (ℕ × Folio) → Memory → Memory
after_effect effect pairs m = record { stored = with_frees pairs (applied effect m.stored); user_words = λ page word. poked page word effect (m.user_words page word) }

-- an effect was made, and these folios are to be freed
pub record Applied (s : Setup) (m : Memory) (effect : Effect) (new : StateView) : Type 0 where
  pub frees : FreesDue s.frames m.stored (applied effect m.stored) new.freed.list new.store
  pub is : StateIs s new (after_effect effect new.freed.list m)
