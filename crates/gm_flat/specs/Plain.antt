-- *plain*: a history in which the numbers that tell nothing are as they are in every right one. (This project's own.)
use Rattle.std.specs.Prelude.{◌≡◌, ℕ, List, [], ◌∷◌, Some, None}
use Rattle.std.specs.declared.option.Option.{Option}
use Rattle.gm_base.specs.declared.numbers.TheConstants.{PAGE_BYTES}
use Rattle.gm_flat.specs.declared.effect.Backing.{Backing}
use Rattle.gm_flat.specs.declared.effect.Backing.TheVariants.{User, Folio}
use Rattle.gm_flat.specs.declared.effect.Effect.{Effect}
use Rattle.gm_flat.specs.declared.effect.Effect.TheVariants.{Slot}
use Rattle.gm_flat.specs.declared.effect.Exit.{Exit}
use Rattle.gm_flat.specs.declared.effect.Exit.TheVariants.{Fault}
use Rattle.gm_flat.specs.declared.entry.Entry.{Entry}
use Rattle.gm_flat.specs.declared.entry.What.{What}
use Rattle.gm_flat.specs.declared.entry.What.TheVariants.{Get, Left, Change}

-- a memory fault is of one page
abbrev pub IsPlainExit : Exit → Type 0
IsPlainExit (Fault flags gpa size) = size ≡ PAGE_BYTES
IsPlainExit _ = Unit {0}

-- a get of a user page adds no folio
abbrev pub IsPlainGet : Backing → ℕ → Type 0
IsPlainGet (User page) fresh = fresh ≡ 0
IsPlainGet (Folio folio) fresh = Unit {0}

-- a slot without a file begins at index 0
abbrev pub IsPlainIndex : Option ℕ → ℕ → Type 0
IsPlainIndex None index = index ≡ 0
IsPlainIndex (Some file) index = Unit {0}

-- of changes only a new slot has such a number
abbrev pub IsPlainEffect : Effect → Type 0
IsPlainEffect (Slot slot base pages user flags file index) = IsPlainIndex file index
IsPlainEffect _ = Unit {0}

-- of entries only exits, gets and changes
abbrev pub IsPlainWhat : What → Type 0
IsPlainWhat (Left why) = IsPlainExit why
IsPlainWhat (Get backing fresh) = IsPlainGet backing fresh
IsPlainWhat (Change effect) = IsPlainEffect effect
IsPlainWhat _ = Unit {0}

-- each entry of a history is plain, in whatever order they stand
abbrev pub IsPlain : List Entry → Type 0
IsPlain [] = Unit {0}
IsPlain (e ∷ es) = IsPlainWhat e.what × IsPlain es
