-- Pages that calls add.
use Rattle.std.specs.Prelude.{◌≡◌, ℕ}
use Rattle.gm_base.specs.declared.values.Folio.{Folio}
use Rattle.gm_base.specs.declared.values.Setup.{Setup}
use Rattle.gm_flat.specs.Effects.{Addition}
use Rattle.gm_flat.specs.FlatState.{added}
use Rattle.gm_flat.specs.RightLives.{AddsOne, UsesFirst}
use Rattle.gm_store.specs.Added.{addition_of, one_page}
use Rattle.gm_store.specs.Stored.{with_addition}
use Rattle.gm_store.specs.declared.first_use.Used.{Used}
use Rattle.gm_state.specs.Stand.{Memory, StateIs}
use Rattle.gm_state.specs.Views.{StateView}

-- memory with folios more, each with these words
abbrev pub with_more : Addition → (ℕ → ℕ) → Memory → Memory
with_more d now m = record m { stored = with_addition d now m.stored }

-- what is added is what the rule of lives says, with words that are zero
pub record FirstAdded (s : Setup) (file index : ℕ) (u : Used) (st : StateView) (m : Memory) : Type 0 where
  pub adds : UsesFirst s.frames index (addition_of file u) m.stored.flat
  pub serial_is : u.first.serial ≡ added m.stored.flat
  pub is : StateIs s st (with_more (addition_of file u) (λ word. 0) m)

-- one folio is added at the index, with the words of the user page
pub record CopyAdded (s : Setup) (file index page : ℕ) (folio : Folio) (st : StateView) (m : Memory) : Type 0 where
  pub adds : AddsOne s.frames index (one_page file index folio) m.stored.flat
  pub serial_is : folio.serial ≡ added m.stored.flat
  pub is : StateIs s st (with_more (one_page file index folio) (λ word. m.user_words page word) m)
