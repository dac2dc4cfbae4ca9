-- What an access of a backing needs, and makes of memory.
use Rattle.std.specs.Prelude.{◌≡◌, ℕ, ◌<◌, Some}
use Rattle.gm_base.specs.Aim.{Aim}
use Rattle.gm_base.specs.declared.values.Setup.{Setup}
use Rattle.gm_flat.specs.FlatState.{Flat}
use Rattle.gm_flat.specs.RightLives.{frame_of}
use Rattle.gm_flat.specs.Words.{hits_folio, hits_user, written}
use Rattle.gm_flat.specs.declared.effect.Backing.{Backing}
use Rattle.gm_flat.specs.declared.effect.Backing.TheVariants.{User, Folio as InFolio}
use Rattle.gm_state.specs.Stand.{Memory, StateIs}
use Rattle.gm_state.specs.Views.{StateView}

-- a user page of the machine, or a live folio in its frame
abbrev pub IsThere : ℕ → Backing → Flat → Type 0
IsThere user (User page) f = page < user
IsThere user (InFolio folio) f = frame_of folio.serial f.folios ≡ Some folio.frame

-- the word of a backing
abbrev pub word_at : Backing → ℕ → Memory → ℕ
word_at (User page) word m = m.user_words page word
word_at (InFolio folio) word m = m.stored.words folio.serial word

-- memory after an access
abbrev pub accessed : Aim → Backing → Memory → Memory
accessed a b m = record {
  stored = record m.stored { words = λ serial word. written (hits_folio serial word a b) a.op (m.stored.words serial word) };
  user_words = λ page word. written (hits_user page word a b) a.op (m.user_words page word);
}

-- the state is that memory, in which the backing is there
pub record CanAccess (s : Setup) (st : StateView) (m : Memory) (b : Backing) : Type 0 where
  pub is : StateIs s st m
  pub there : IsThere s.user b m.stored.flat
