-- The views of a history: one after each turn that changes what is shown.
use Rattle.std.specs.Prelude.{ℕ, List, [], ◌∷◌, ◌++◌, Bool, false, not, ◌&&◌, length, nat_eq, None, Some, if◌then◌else◌}
use Rattle.std.specs.declared.option.Option.{Option}
use Rattle.gm_flat.specs.Invalidation.{count, hull}
use Rattle.gm_flat.specs.Replay.{flat}
use Rattle.gm_flat.specs.declared.entry.Entry.{Entry}
use Rattle.gm_laws.specs.Counting.{ends}
use Rattle.gm_turns.specs.Ahead.{is_loud}
use Rattle.gm_views.specs.declared.sights.Sight.{Sight}

-- what a view of a history shows; the newest entry stands first
abbrev pub sight_after : List Entry → Sight
sight_after past = record { position = length past; seq = ends past; count = count past; hull = hull past; slots = (flat past).slots; calls = (flat past).attrs }

-- whether it is the turn of that number, if there is one
abbrev pub is_turn : ℕ → Option ℕ → Bool
is_turn turn None = false
is_turn turn (Some number) = nat_eq turn number

-- whether there is a view right after an entry, where the next view is of that turn: a Begin, a Change and an End have one,
-- but of several in one turn the last alone
abbrev pub has_view : Entry → Option ℕ → Bool
has_view e next = is_loud e.what && not (is_turn e.turn next)

-- the views, the oldest first, where the next view is of that turn
abbrev pub views_until : Option ℕ → List Entry → List Sight
views_until next [] = []
views_until next (e ∷ past) = if has_view e next then views_until (Some e.turn) past ++ sight_after (e ∷ past) ∷ [] else views_until next past

-- all views of a history after its opening, the oldest first: one after each turn that wrote a Begin, a Change or an End,
-- with the position after the last of these entries of the turn
abbrev pub views_of : List Entry → List Sight
views_of past = views_until None past
