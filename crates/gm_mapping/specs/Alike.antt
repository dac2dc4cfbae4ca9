-- When a leaf or a fill of the memory unit is one of the history's.
use Rattle.std.specs.Prelude.{◌≡◌, ℕ, ◌+◌, ◌-◌, ◌%◌, ◌<◌, List, [], ◌∷◌, Bool, true, Some, None, if◌then◌else◌}
use Rattle.std.specs.declared.option.Option.{Option}
use Rattle.gm_base.specs.Extent.{Extent, meets}
use Rattle.gm_base.specs.Leaf.{covers as leaf_covers, meets_leaf}
use Rattle.gm_base.specs.declared.leaf.Leaf.{Leaf}
use Rattle.gm_base.specs.declared.values.Kind.{Kind}
use Rattle.gm_base.specs.declared.numbers.TheConstants.{BLOCK_PAGES}
use Rattle.gm_base.specs.declared.values.Level.{Level}
use Rattle.gm_base.specs.declared.values.Place.{Place}
use Rattle.gm_base.specs.declared.values.Place.TheVariants as place
use Rattle.gm_flat.specs.Mappings.{Mapping, covered, covers}
use Rattle.gm_flat.specs.FlatState.{Flat}
use Rattle.gm_flat.specs.NamedPage.{Named, named}
use Rattle.gm_flat.specs.declared.effect.Backing.{Backing}
use Rattle.gm_flat.specs.declared.effect.Backing.TheVariants.{User, Folio}
use Rattle.gm_tlb.specs.declared.tlb.Fill.{Fill}

-- the place that lies so many pages before that of a backing
abbrev pub place_before : ℕ → Backing → Place
place_before k (User page) = place.User (page - k)
place_before k (Folio folio) = place.Frame (folio.frame - k)

-- the leaf of this level that holds a page, by what backs that page
abbrev pub leaf_of : Level → ℕ → Kind → Backing → Bool → Leaf
leaf_of level page kind backing writable = record {
  first = (covered level page).lo;
  level = level;
  kind = kind;
  place = place_before (page - (covered level page).lo) backing;
  writable = writable;
}

-- the number of a user page, or of a folio's frame
abbrev pub number_of : Backing → ℕ
number_of (User page) = page
number_of (Folio folio) = folio.frame

-- the page lies in its block where its backing lies in one
abbrev pub LieAlike : ℕ → Backing → Type 0
LieAlike page backing = page % BLOCK_PAGES ≡ number_of backing % BLOCK_PAGES

-- a place backs the page this many pages after its first: a user page of the machine, or a folio by its frame
abbrev pub BacksAt : ℕ → Place → ℕ → Backing → Type 0
BacksAt user (place.User p) k (User u) = (u ≡ p + k) × (u < user)
BacksAt user (place.Frame frame) k (Folio folio) = folio.frame ≡ frame + k
BacksAt user _ k backing = ⊥

-- a leaf gives a page what is named
pub record GivesNamed (user : ℕ) (leaf : Leaf) (page : ℕ) (n : Named) : Type 0 where
  pub right_writable : n.writable ≡ leaf.writable
  pub right_backing : BacksAt user leaf.place (page - leaf.first) n.backing

abbrev pub GivesAs : ℕ → Leaf → ℕ → Option Named → Type 0
GivesAs user leaf page None = ⊥
GivesAs user leaf page (Some n) = GivesNamed user leaf page n

-- the leaf gives each of its pages what is named there
abbrev pub NamesLeaf : ℕ → Leaf → Flat → Type 0
NamesLeaf user leaf f = (page : ℕ) → leaf_covers leaf page ≡ true → GivesAs user leaf page (named f page)

-- a leaf or a fill of the memory unit is one of the history's
pub record IsAlike (user : ℕ) (leaf : Leaf) (m : Mapping) : Type 0 where
  pub level_is : leaf.level ≡ m.level
  pub kind_is : leaf.kind ≡ m.kind
  pub covers_is : (page : ℕ) → leaf_covers leaf page ≡ covers m page
  pub meets_is : (e : Extent) → meets_leaf leaf e ≡ meets e (covered m.level m.page)
  pub gives_is : (page : ℕ) → leaf_covers leaf page ≡ true → GivesAs user leaf page (m.gives page)

-- the leaf of the history over a page
abbrev pub over : ℕ → List Mapping → Option Mapping
over page [] = None
over page (m ∷ ms) = if covers m page then Some m else over page ms

abbrev pub LeafIs : ℕ → Option Leaf → Option Mapping → Type 0
LeafIs user None None = Unit {0}
LeafIs user (Some leaf) (Some m) = IsAlike user leaf m
LeafIs user _ m = ⊥

-- the fills of a buffer are those of the history, one by one
abbrev pub FillsAre : ℕ → List Fill → List Mapping → Type 0
FillsAre user [] [] = Unit {0}
FillsAre user (f ∷ fs) (m ∷ ms) = ((f.at ≡ m.made) × IsAlike user f.leaf m) × FillsAre user fs ms
FillsAre user _ ms = ⊥
