-- What the mutex's value keeps between two turns.
use Rattle.std.specs.Prelude.{◌≡◌, ℕ, ◌≤◌, List, [], ◌∷◌, Bool, true, false, ◌&&◌, ◌||◌, nat_eq}
use Rattle.gm_base.specs.declared.numbers.TheConstants.{MOST_USER_PAGES}
use Rattle.gm_flat.specs.RightHistory.{Each, Right}
use Rattle.gm_flat.specs.declared.entry.Entry.{Entry}
use Rattle.gm_flat.specs.declared.entry.What.{What}
use Rattle.gm_flat.specs.declared.entry.What.TheVariants.{Change, End}
use Rattle.gm_machine.specs.Steps.{Seen}
use Rattle.gm_turns.specs.Ahead.{is_loud}
use Rattle.gm_turns.specs.declared.outcome.Ahead.{Ahead}
use Rattle.gm_views.specs.Doors.{PublisherSeen}
use Rattle.gm_views.specs.Shows.{changed}
use Rattle.gm_views.specs.Sights.{opening}
use Rattle.gm_views.specs.declared.shown.Change.{Change as ViewChange}
use Rattle.gm_views.specs.declared.sights.Sight.{Sight}
use Rattle.gm_publish.specs.Counts.{CountedTo}
use Rattle.gm_publish.specs.Views.{views_of}

-- the change of a view that a turn makes, by what is told of the turn
abbrev pub change_of : Ahead → ViewChange
change_of a = record { position = a.at; seq = a.seq; count = a.count; hull = a.hull; effect = a.effect }

-- the views that changes make one after another
abbrev pub views_by : Sight → List ViewChange → List Sight
views_by s [] = []
views_by s (c ∷ changes) = changed s c ∷ views_by (changed s c) changes

-- a Change and an End change what a fault sees; a Begin doesn't
abbrev pub is_firm : What → Bool
is_firm (Change effect) = true
is_firm End = true
is_firm _ = false

-- whether an entry of that turn does
abbrev pub firm_in : ℕ → List Entry → Bool
firm_in turn [] = false
firm_in turn (e ∷ past) = (nat_eq e.turn turn && is_firm e.what) || firm_in turn past

-- no Begin, Change or End follows a Change or an End of its turn
abbrev pub IsCalm : Entry → List Entry → Type 0
IsCalm e past = is_loud e.what ≡ true → firm_in e.turn past ≡ false

-- what holds of a machine between two turns
pub record IsSound (m : Seen) : Type 0 where
  pub right : Right m.orders m.past
  pub counted : CountedTo m.turns m.past
  pub calm : Each IsCalm m.past
  pub user : m.orders.setup.user ≤ MOST_USER_PAGES

-- the kept changes make the views of the history
pub record IsKept (past : List Entry) (changes : List ViewChange) : Type 0 where
  pub calm : Each IsCalm past
  pub views : views_of past ≡ views_by opening changes

-- what was published is the views of the history, no change waits, and the kept changes make these views
pub record AreTied (m : Seen) (p : PublisherSeen) (changes : List ViewChange) : Type 0 where
  pub sound : IsSound m
  pub published : p.published ≡ views_of m.past
  pub waiting : p.waiting ≡ []
  pub views : views_of m.past ≡ views_by opening changes
