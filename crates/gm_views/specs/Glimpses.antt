-- What a look answers.
use Rattle.std.specs.Prelude.{◌≡◌, ℕ, length}
use Rattle.gm_flat.specs.Attribute.{attr_of}
use Rattle.gm_flat.specs.Slots.{slot_over}
use Rattle.gm_views.specs.declared.rule.Known.{Known}
use Rattle.gm_views.specs.declared.doors.Glimpse.{Glimpse}
use Rattle.gm_views.specs.Sights.{sight_at}

-- the answer is the view number g.view of the list that was shown, its last: its position and its sequence, and the slot
-- over the page and the page's attribute in it
pub record Shows (g : Glimpse) (page : ℕ) (w : Known) : Type 0 where
  pub number : g.view ≡ length w.seen
  pub at : g.at ≡ (sight_at w.seen g.view).position
  pub seq : g.seq ≡ (sight_at w.seen g.view).seq
  pub slot : g.slot ≡ slot_over (sight_at w.seen g.view).slots page
  pub attr : g.attr ≡ attr_of page (sight_at w.seen g.view).calls
