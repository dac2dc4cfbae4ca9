-- The words of user pages and of folios by *replay*: all are zero at the start. The words of a page that isn't there mean
-- nothing. (This project's own.)
use Rattle.std.specs.Prelude.{ℕ, ◌+◌, ◌-◌, List, [], ◌∷◌, Bool, true, false, ◌&&◌, Some, None, nat_eq, nat_le, nat_lt, if◌then◌else◌}
use Rattle.std.specs.declared.option.Option.{Option}
use Rattle.gm_base.specs.Aim.{Aim}
use Rattle.gm_base.specs.declared.values.Op.{Op}
use Rattle.gm_base.specs.declared.values.Op.TheVariants.{Read, Write}
use Rattle.gm_flat.specs.declared.effect.Backing.{Backing}
use Rattle.gm_flat.specs.declared.effect.Backing.TheVariants.{User, Folio as InFolio}
use Rattle.gm_flat.specs.declared.effect.Effect.{Effect}
use Rattle.gm_flat.specs.declared.effect.Effect.TheVariants.{Word}
use Rattle.gm_flat.specs.declared.entry.Entry.{Entry}
use Rattle.gm_flat.specs.declared.entry.What.{What}
use Rattle.gm_flat.specs.declared.entry.What.TheVariants.{Touch, Change}
use Rattle.gm_flat.specs.Effects.{Addition}
use Rattle.gm_flat.specs.Replay.{added_by}

-- what a word is after an access that goes to it or not
abbrev pub written : Bool → Op → ℕ → ℕ
written true (Write value) x = value
written true Read x = x
written false op x = x

abbrev pub hits_user : ℕ → ℕ → Aim → Backing → Bool
hits_user page word a (User u) = nat_eq u page && nat_eq a.word word
hits_user page word a (InFolio folio) = false

abbrev pub hits_folio : ℕ → ℕ → Aim → Backing → Bool
hits_folio serial word a (User u) = false
hits_folio serial word a (InFolio folio) = nat_eq folio.serial serial && nat_eq a.word word

abbrev pub poked : ℕ → ℕ → Effect → ℕ → ℕ
poked page word (Word p w value) x = if nat_eq p page && nat_eq w word then value else x
poked page word _ x = x

abbrev pub user_step : ℕ → ℕ → What → ℕ → ℕ
user_step page word (Touch a backing level value fill) x = written (hits_user page word a backing) a.op x
user_step page word (Change effect) x = poked page word effect x
user_step page word _ x = x

abbrev pub user_word : ℕ → ℕ → List Entry → ℕ
user_word page word [] = 0
user_word page word (e ∷ past) = user_step page word e.what (user_word page word past)

-- whether the folio is one of those that are added
abbrev pub is_new : ℕ → Option Addition → Bool
is_new serial None = false
is_new serial (Some d) = nat_le d.serial serial && nat_lt serial (d.serial + d.pages)

-- the word that a folio is added with: zero, or that of its user page
abbrev pub copied : ℕ → ℕ → Option ℕ → List Entry → ℕ
copied k word None past = 0
copied k word (Some user) past = user_word (user + k) word past

abbrev pub first_word : ℕ → ℕ → Option Addition → List Entry → ℕ
first_word serial word None past = 0
first_word serial word (Some d) past = copied (serial - d.serial) word d.copy past

abbrev pub folio_step : ℕ → ℕ → What → ℕ → ℕ
folio_step serial word (Touch a backing level value fill) x = written (hits_folio serial word a backing) a.op x
folio_step serial word _ x = x

abbrev pub folio_word : ℕ → ℕ → List Entry → ℕ
folio_word serial word [] = 0
folio_word serial word (e ∷ past) =
    if is_new serial (added_by e.what e.actor past)
    then first_word serial word (added_by e.what e.actor past) past
    else folio_step serial word e.what (folio_word serial word past)

abbrev pub word_of : Backing → ℕ → List Entry → ℕ
word_of (User page) word past = user_word page word past
word_of (InFolio folio) word past = folio_word folio.serial word past
