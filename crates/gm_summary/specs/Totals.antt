-- *totals*: how much of what a history has. (This project's own.)
use Rattle.std.specs.Prelude.{ℕ, ◌+◌, List, [], ◌∷◌}
use Rattle.gm_flat.specs.declared.entry.Entry.{Entry}
use Rattle.gm_flat.specs.declared.entry.What.{What}
use Rattle.gm_flat.specs.declared.entry.What.TheVariants.{Touch, Left, Retry, Free}
use Rattle.gm_summary.specs.declared.totals.Totals.{Totals}

-- those of an empty history
abbrev pub none : Totals
none = record { touches = 0; exits = 0; retries = 0; frees = 0 }

-- with one entry more: a touch, an exit or a retry counts as one, and a free as its pages
abbrev pub with_entry : Totals → What → Totals
with_entry t (Touch access backing level value fill) = record t { touches = t.touches + 1 }
with_entry t (Left why) = record t { exits = t.exits + 1 }
with_entry t Retry = record t { retries = t.retries + 1 }
with_entry t (Free folio pages) = record t { frees = t.frees + pages }
with_entry t _ = t

-- with all these entries more
abbrev pub totals_of : Totals → List Entry → Totals
totals_of t [] = t
totals_of t (e ∷ entries) = totals_of (with_entry t e.what) entries
