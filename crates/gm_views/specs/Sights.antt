-- What a view shows, and lists of what views show.
use Rattle.std.specs.Prelude.{ℕ, ◌≤◌, List, [], ◌∷◌, length, None, slice_index_or}
use Rattle.gm_views.specs.declared.sights.Sight.{Sight}

-- the view of an empty history, which is the view number 0
abbrev pub opening : Sight
opening = record { position = 0; seq = 0; count = 0; hull = None; slots = []; calls = [] }

-- the view number k, where these were published after the opening
abbrev pub sight_at : List Sight → ℕ → Sight
sight_at published k = slice_index_or (opening ∷ published) k opening

-- the last view of these
abbrev pub last_of : List Sight → Sight
last_of published = sight_at published (length published)

-- positions never fall
abbrev pub Rises : List Sight → Type 0
Rises published = (j k : ℕ) → j ≤ k → k ≤ length published → (sight_at published j).position ≤ (sight_at published k).position
