-- Longest runs of folios.
use Rattle.std.specs.Prelude.{ℕ, ◌+◌, List, [], ◌∷◌, Bool, ◌&&◌, Option, Some, None, nat_eq, if◌then◌else◌}
use Rattle.gm_base.specs.declared.values.Folio.{Folio}
use Rattle.gm_flat.specs.declared.entry.What.{What}
use Rattle.gm_flat.specs.declared.entry.What.TheVariants.{Free}
use Rattle.gm_turns.specs.declared.frees.Run.{Run}

abbrev pub run_of : (ℕ × Folio) → Run
run_of p = record { index = p.0; folio = p.1; pages = 1 }

-- whether a folio is the next of the run, in index, serial and frame
abbrev pub continues : Run → (ℕ × Folio) → Bool
continues r p = nat_eq p.0 (r.index + r.pages) && (nat_eq p.1.serial (r.folio.serial + r.pages) && nat_eq p.1.frame (r.folio.frame + r.pages))

abbrev pub one_more : Run → Run
one_more r = record r { pages = r.pages + 1 }

-- the longest runs, where one has begun
abbrev pub runs_from : Run → List (ℕ × Folio) → List Run
runs_from r [] = r ∷ []
runs_from r (p ∷ ps) = if continues r p then runs_from (one_more r) ps else r ∷ runs_from (run_of p) ps

abbrev pub runs_with : Option Run → List (ℕ × Folio) → List Run
runs_with (Some r) ps = runs_from r ps
runs_with None [] = []
runs_with None (p ∷ ps) = runs_from (run_of p) ps

abbrev pub runs : List (ℕ × Folio) → List Run
runs ps = runs_with None ps

abbrev pub frees : List Run → List What
frees [] = []
frees (r ∷ rs) = Free r.folio r.pages ∷ frees rs
