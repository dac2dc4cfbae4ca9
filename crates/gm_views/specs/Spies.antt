-- What contracts see of spies, and what an answer says.
use Rattle.std.specs.Prelude.{◌≡◌, ℕ, ◌≤◌, List, Bool, Some, max, length}
use Rattle.std.specs.declared.option.Option.{Option}
use mathlib.Core.List.{IsPrefix}
use Rattle.gm_flat.specs.Attribute.{attr_of}
use Rattle.gm_flat.specs.Slots.{slot_over}
use Rattle.gm_views.specs.declared.doors.Glimpse.{Glimpse}
use Rattle.gm_views.specs.declared.rule.Known.{Known}
use Rattle.gm_views.specs.declared.sights.Sight.{Sight}
use Rattle.gm_views.specs.Rules.{newcomer}
use Rattle.gm_views.specs.Sights.{sight_at, last_of}

-- a spy: how often it was refused, what its reader knows, if it has one, the length of the history when it was told last,
-- and the view's number and the position of its last answer
pub record SpySeen : Type 0 where
  pub refused : ℕ
  pub known : Option Known
  pub told_at : ℕ
  pub last : ℕ
  pub at : ℕ

-- a spy that was told of nothing
abbrev pub untold : SpySeen
untold = record { refused = 0; known = Some newcomer; told_at = 0; last = 0; at = 0 }

-- what gives spies: how often it was refused a reader, how many vCPUs there are, and for each number whether it has its spy
pub record SpiesSeen : Type 0 where
  pub refused : ℕ
  pub vcpus : ℕ
  pub given : List Bool

-- the last answer was no later than what the reader knows: its view's number, and its position
pub record IsNoLater (last at told_at : ℕ) (v : Known) : Type 0 where
  pub last_is : last ≤ max (length v.seen) (length v.told)
  pub at_is : at ≤ max told_at (last_of v.seen).position

-- an answer by the view number k, at this position: w.seen is the list that the rule shows, v.told was published when the
-- spy was told last; k is none before the last of those nor before that of the answer before; the position is the greater
-- of the view's and the one asked at, and not before that of the answer before; and what the spy remembers after it
pub record Answers (before after : SpySeen) (v w : Known) (k at asked_at : ℕ) : Type 0 where
  pub within : k ≤ length w.seen
  pub told : IsPrefix v.told w.seen
  pub not_before_told : length v.told ≤ k
  pub not_before_last : before.last ≤ k
  pub at_is : at ≡ max (sight_at w.seen k).position asked_at
  pub later : before.at ≤ at
  pub kept : (after.last ≡ k) × (after.at ≡ at) × (after.told_at ≡ before.told_at) × (after.refused ≡ before.refused) × (w.told ≡ v.told)

-- a glimpse has the sequence, the slot over the page and the page's attribute of a view
pub record Names (s : Sight) (page : ℕ) (g : Glimpse) : Type 0 where
  pub seq : g.seq ≡ s.seq
  pub slot : g.slot ≡ slot_over s.slots page
  pub attr : g.attr ≡ attr_of page s.calls
