-- How far the pages of a slot reach.
use Rattle.std.specs.Prelude.{ℕ, ◌+◌, ◌≤◌}
use Rattle.gm_base.specs.declared.numbers.TheConstants.{PAGE_LIMIT}
use Rattle.gm_flat.specs.declared.views.SlotView.{SlotView}

-- the slot's guest pages and indexes are below 2^52, and its user pages are ones of the machine
pub record IsSmall (user : ℕ) (s : SlotView) : Type 0 where
  pub pages : s.base + s.pages ≤ PAGE_LIMIT
  pub users : s.user + s.pages ≤ user
  pub indexes : s.index + s.pages ≤ PAGE_LIMIT
