-- What a published value shows, and what a change does to it.
use Rattle.std.specs.Prelude.{◌+◌, ◌-◌, List, fold, nat_eq, if◌then◌else◌}
use Rattle.gm_views.specs.declared.sights.Sight.{Sight}
use Rattle.gm_views.specs.declared.shown.Change.{Change}
use Rattle.gm_views.specs.declared.shown.Content.{Content}
use Rattle.gm_views.specs.declared.shown.Shown.{Shown}
use Rattle.gm_views.specs.Follows.{sight_slots, sight_calls}
use Rattle.gm_views.specs.Sights.{opening}

-- what a value shows
abbrev pub sight_of : Shown → Sight
sight_of s = record { position = s.position; seq = s.seq; count = s.count; hull = s.hull; slots = s.slots; calls = s.attributes.calls }

-- what two copies of it have in common
abbrev pub content_of : Shown → Content
content_of s = record { number = s.number; room = s.room; sight = sight_of s }

-- what is shown after a change: its numbers, and its effect on the slots and the attribute calls
abbrev pub changed : Sight → Change → Sight
changed s c = record { position = c.position; seq = c.seq; count = c.count; hull = c.hull; slots = sight_slots c.effect s.slots; calls = sight_calls c.effect s.calls }

-- the content after a change; one that finds no room changes nothing
abbrev pub applied : Content → Change → Content
applied s c = if nat_eq s.room 0 then s else record { number = s.number + 1; room = s.room - 1; sight = changed s.sight c }

-- what is shown after changes of the opening, the oldest first
abbrev pub shown_after : List Change → Sight
shown_after changes = fold changed opening changes
