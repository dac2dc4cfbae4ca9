-- What a read of a folio finds, in words: the value of the last write to it by a touch, else the word that it was added with.
use Rattle.std.specs.Prelude.{◌≡◌, ℕ, List, [], ◌∷◌, Bool, true, false, Some, None, if◌then◌else◌}
use Rattle.std.specs.declared.option.Option.{Option}
use Rattle.gm_base.specs.declared.values.Op.{Op}
use Rattle.gm_base.specs.declared.values.Op.TheVariants.{Read, Write}
use Rattle.gm_base.specs.declared.values.Actor.{Actor}
use Rattle.gm_flat.specs.declared.effect.Backing.TheVariants.{Folio as InFolio}
use Rattle.gm_flat.specs.declared.entry.Entry.{Entry}
use Rattle.gm_flat.specs.declared.entry.What.{What}
use Rattle.gm_flat.specs.declared.entry.What.TheVariants.{Touch}
use Rattle.gm_flat.specs.Replay.{added_by}
use Rattle.gm_flat.specs.Words.{hits_folio, is_new, first_word}

abbrev pub write_if : Bool → Op → Option ℕ → Option ℕ
write_if true (Write value) x = Some value
write_if true Read x = x
write_if false op x = x

abbrev pub last_step : ℕ → ℕ → What → Option ℕ → Option ℕ
last_step serial word (Touch a backing level value fill) x = write_if (hits_folio serial word a backing) a.op x
last_step serial word _ x = x

-- the value of the last write of a touch to a word of a folio
abbrev pub last_write : ℕ → ℕ → List Entry → Option ℕ
last_write serial word [] = None
last_write serial word (e ∷ past) = last_step serial word e.what (last_write serial word past)

-- the word that the folio was added with: zero, or for a population that of its user page
abbrev pub added_word : ℕ → ℕ → List Entry → ℕ
added_word serial word [] = 0
added_word serial word (e ∷ past) =
    if is_new serial (added_by e.what e.actor past) then first_word serial word (added_by e.what e.actor past) past else added_word serial word past

abbrev pub or_else : Option ℕ → ℕ → ℕ
or_else None x = x
or_else (Some value) x = value

-- *contents*: a touch that reads a folio has the value of the last write to that word by a touch, else the word that the
-- folio was added with
abbrev pub ReadsTheLast : What → Actor → List Entry → Type 0
ReadsTheLast (Touch a (InFolio folio) level value fill) actor past = a.op ≡ Read → value ≡ or_else (last_write folio.serial a.word past) (added_word folio.serial a.word past)
ReadsTheLast _ actor past = Unit {0}
