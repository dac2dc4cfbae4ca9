-- What contracts see of readers and of the writer.
use Rattle.std.specs.Prelude.{◌≡◌, ℕ, ◌+◌, ◌-◌, ◌^◌, List, min}
use Rattle.std.specs.declared.option.Option.{Option}
use mathlib.Core.List.{IsPrefix}
use Rattle.gm_views.specs.declared.sights.Sight.{Sight}
use Rattle.gm_views.specs.declared.shown.Change.{Change}
use Rattle.gm_views.specs.declared.rule.Known.{Known}
use Rattle.gm_views.specs.Sights.{Rises}

-- the count rose by one, or stands at its last value
abbrev pub Rose : ℕ → ℕ → Type 0
Rose before now = now ≡ min (before + 1) (2 ^ 64 - 1)

-- a door: how often it was refused, and what its reader knows, if it has one
pub record DoorSeen : Type 0 where
  pub refused : ℕ
  pub known : Option Known

-- the writer: what was published after the opening, the changes that are not published yet, and room for so many more
pub record PublisherSeen : Type 0 where
  pub published : List Sight
  pub waiting : List Change
  pub room : ℕ

-- the list that is shown begins with what was seen before and with what was told of, so it ends with no earlier view
pub record Enters (v w : Known) : Type 0 where
  pub seen : IsPrefix v.seen w.seen
  pub told : IsPrefix v.told w.seen
  pub same : w.told ≡ v.told
  pub rises : Rises w.seen
