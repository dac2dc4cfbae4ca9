-- A call that populates.
use Rattle.std.specs.Prelude.{◌≡◌, ℕ, ◌<◌, Some}
use Rattle.gm_calls.specs.declared.judged.PagePlan.{PagePlan}
use Rattle.gm_callers.specs.Callers.{caller_at, pages_in}
use Rattle.gm_callers.specs.Stand.{AddsPages}
use Rattle.gm_turns.specs.declared.parts.Core.{Core}

-- the caller's call populates guest pages from `base` on with user pages from `from` on; it has added this many of them,
-- and not all
pub record IsPopulating (k : Core) (c : ℕ) (q : PagePlan) (base from pages : ℕ) : Type 0 where
  pub adds : AddsPages q (caller_at k.callers c).call
  pub populates : q.base ≡ Some base
  pub copies : q.copy ≡ Some from
  pub count_is : pages ≡ pages_in (caller_at k.callers c).call
  pub more : pages < q.pages
