-- The rule of the views, and what each kind of step tells.
use Rattle.std.specs.Prelude.{◌≡◌, ℕ, List, [], ◌∷◌, ◌++◌, length}
use mathlib.Core.Option.{some}
use mathlib.Core.List.{IsPrefix}
use lib.ListN.{get_elem?}
use Rattle.gm_views.specs.declared.sights.Sight.{Sight}
use Rattle.gm_views.specs.declared.shown.Shown.{Shown}
use Rattle.gm_views.specs.declared.rule.Known.{Known}
use Rattle.gm_views.specs.Sights.{last_of, Rises}
use Rattle.gm_views.specs.Shows.{sight_of}

-- these were published, and the last of them is shown
pub record IsShown (x : Shown) (published : List Sight) : Type 0 where
  pub number : x.number ≡ length published
  pub last : last_of published ≡ sight_of x
  pub rises : Rises published

abbrev pub Knows : List Sight → Known → Type 0
Knows published v = IsPrefix v.seen published × IsPrefix v.told published

abbrev pub Keeps : Shown → List Known → Type 0
Keeps x seats = (published : List Sight) × IsShown x published × ((seat : ℕ) (v : Known) → get_elem? seats seat ≡ some v → Knows published v)

abbrev pub newcomer : Known
newcomer = record { seen = []; told = [] }

-- what the reader knows after it took in the note w
abbrev pub informed : Known → Known → Known
informed v w = record { seen = v.seen; told = w.seen }

-- the reader is shown views that begin with those that it saw and with those that it was told of, and the last of them is y
pub record Looks (v : Known) (x y : Shown) (w : Known) : Type 0 where
  pub seen : IsPrefix v.seen w.seen
  pub told : IsPrefix v.told w.seen
  pub same : w.told ≡ v.told
  pub shown : IsShown y w.seen

-- the writer has published one view more
pub record Puts (v : Known) (x y : Shown) (w : Known) : Type 0 where
  pub seen : w.seen ≡ v.seen ++ sight_of y ∷ []
  pub told : w.told ≡ v.told
  pub shown : IsShown y w.seen
