use Rattle.std.proofs.Common.{◌≡◌, ℕ, fold, take}
use Rattle.gm_flat.specs.Slots.{slot_over}
use Rattle.gm_slots.specs.Good.{Good}
use Rattle.gm_views.specs.Shows.{changed}
use Rattle.gm_views.specs.declared.sights.Sight.{Sight}
use Rattle.gm_publish.proofs.published.elsewhere.leave_slot.Given as goal

abbrev pub invariant-loop-change : goal.invariant-loop-change
invariant-loop-change l = (page : ℕ) (s : Sight) → Good s.slots → slot_over (fold changed s (take l.change-index l.changes)).slots page ≡ l.slot → slot_over s.slots page ≡ l.slot
