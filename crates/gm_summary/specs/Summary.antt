-- *summary*: the line that tells what a generated script came to. (This project's own.)
use Rattle.std.specs.Prelude.{ℕ, List, [], ◌∷◌, codes, length}
use Rattle.std.specs.Fmt.{decimal}
use Rattle.gm_flat.specs.declared.entry.Entry.{Entry}
use Rattle.gm_text.specs.Text.{joined}
use Rattle.gm_summary.specs.Totals.{none, totals_of}
use Rattle.gm_summary.specs.declared.totals.Totals.{Totals}

-- the line, by its numbers; the text of the last one, the frees, stands apart
abbrev pub summary_by : ℕ → ℕ → ℕ → Totals → List ℕ → List ℕ
summary_by number turns entries t frees = joined (codes "bulk number=" ∷ decimal number ∷ codes " turns=" ∷ decimal turns ∷ codes " entries=" ∷ decimal entries ∷ codes " touches=" ∷ decimal t.touches ∷ codes " exits=" ∷ decimal t.exits ∷ codes " retries=" ∷ decimal t.retries ∷ codes " frees=" ∷ frees ∷ codes "\n" ∷ [])

-- the line of the script's number, the turns and the history's entries
unfoldable pub summary_text : ℕ → ℕ → List Entry → List ℕ
summary_text number turns history = summary_by number turns (length history) (totals_of none history) (decimal (totals_of none history).frees)
