-- A truth value for each page, by the calls that set it and by the pages at which it changes.
use Rattle.std.specs.Prelude.{◌≡◌, ℕ, ◌%◌, List, [], ◌∷◌, ◌++◌, length, Bool, true, false, not, ◌&&◌, nat_eq, nat_le, nat_lt, if◌then◌else◌}
use Rattle.gm_base.specs.declared.numbers.TheConstants.{PAGE_LIMIT}
use Rattle.gm_radix.specs.Entries.{put}
use Rattle.gm_base.specs.Extent.{Extent, holds}

-- a set call: the pages of a span get a value
pub record Call : Type 0 where
  pub span : Extent
  pub value : Bool

-- the value of a page after calls whose newest one stands first: that of the newest that holds the page, and false
-- where none does
abbrev pub value_after : List Call → ℕ → Bool
value_after [] page = false
value_after (call ∷ calls) page = if holds call.span page then call.value else value_after calls page

-- the pages at which the value changes, in rising order, and for how many more calls there is room
pub record Runs : Type 0 where
  pub edges : List ℕ
  pub spare : ℕ

-- a value that each edge up to the page turns
abbrev pub turned : Bool → List ℕ → ℕ → Bool
turned value [] page = value
turned value (edge ∷ edges) page = turned (if nat_le edge page then not value else value) edges page

-- the value of a page: from false on, each edge up to it turns the value
abbrev pub value_at : Runs → ℕ → Bool
value_at runs page = turned false runs.edges page

-- the runs give each page the value that it has after the calls
abbrev pub Tells : Runs → List Call → Type 0
Tells runs calls = (page : ℕ) → value_at runs page ≡ value_after calls page

-- every page of the span has the value
abbrev pub AllHave : Runs → Extent → Bool → Type 0
AllHave runs span value = (page : ℕ) → holds span page ≡ true → value_at runs page ≡ value

-- two pages of the span have different values
abbrev pub SomeDiffer : Runs → Extent → Type 0
SomeDiffer runs span = (page : ℕ) × (other : ℕ) × (holds span page ≡ true) × (holds span other ≡ true) × (value_at runs page ≡ true) × (value_at runs other ≡ false)

-- whether a number is odd
abbrev pub odd : ℕ → Bool
odd n = nat_eq (n % 2) 1

-- whether two values differ
abbrev pub differ : Bool → Bool → Bool
differ true value = not value
differ false value = value

-- the indexes of a map's entries
abbrev pub indexes_of : List (ℕ × Unit {0}) → List ℕ
indexes_of [] = []
indexes_of (e ∷ entries) = e.0 ∷ indexes_of entries

-- the pages at which the value changes, by the map of those below the limit: from the limit on every page is false
abbrev pub edges_of : List (ℕ × Unit {0}) → List ℕ
edges_of entries = indexes_of entries ++ (if odd (length entries) then PAGE_LIMIT ∷ [] else [])

-- a map with an edge at a page, if the value turns there and the page is below the limit
abbrev pub with_turn : Bool → ℕ → List (ℕ × Unit {0}) → List (ℕ × Unit {0})
with_turn turns page entries = if turns && nat_lt page PAGE_LIMIT then put page tt entries else entries
