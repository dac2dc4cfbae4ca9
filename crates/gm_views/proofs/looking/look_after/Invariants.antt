use Rattle.std.proofs.Common.{◌≡◌, ◌+◌, ◌≤◌, length, take}
use Rattle.gm_views.specs.Shows.{shown_after}
use Rattle.gm_views.proofs.looking.look_after.Given as goal

abbrev pub invariant-loop-change : goal.invariant-loop-change
invariant-loop-change l =
    (l.slots ≡ (shown_after (take l.change-index l.changes)).slots) × (l.attributes.calls ≡ (shown_after (take l.change-index l.changes)).calls) × (length l.changes ≤ l.attributes.room + l.change-index)
