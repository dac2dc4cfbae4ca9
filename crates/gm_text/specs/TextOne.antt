-- The text of a history, version 1, as bytes: a touch of a folio has no frame. All else is as in version 2. Version 1
-- knew no marks; a mark has the same line here. No program of this repository writes it. (This project's own.)
use Rattle.std.specs.Prelude.{ℕ, List, [], ◌∷◌, ◌++◌, codes, length}
use Rattle.std.specs.Fmt.{decimal}
use Rattle.gm_base.specs.declared.values.Setup.{Setup}
use Rattle.gm_flat.specs.declared.entry.Entry.{Entry}
use Rattle.gm_flat.specs.declared.entry.What.{What}
use Rattle.gm_flat.specs.declared.entry.What.TheVariants.{Touch}
use Rattle.gm_flat.specs.declared.effect.Backing.{Backing}
use Rattle.gm_flat.specs.declared.effect.Backing.TheVariants.{User, Folio}
use Rattle.gm_text.specs.Text.{backing_text, end_text, joined, line_text, machine_text, touch_text, what_text}

-- of a touch: a folio by its serial alone
abbrev pub backing_text_one : Backing → List ℕ
backing_text_one (User page) = backing_text (User page)
backing_text_one (Folio folio) = joined (codes "serial=" ∷ decimal folio.serial ∷ [])

abbrev pub what_text_one : What → List ℕ
what_text_one (Touch access backing level value fill) = touch_text access (backing_text_one backing) level value fill
what_text_one w = what_text w

abbrev pub entries_text_one : List Entry → List ℕ
entries_text_one [] = []
entries_text_one (e ∷ es) = line_text e (what_text_one e.what) ++ entries_text_one es

-- the text of a history
abbrev pub history_text_one : Setup → List Entry → ℕ → List ℕ
history_text_one s h turns = codes "gmem-history 1\n" ++ (machine_text s ++ (entries_text_one h ++ end_text turns (length h)))
