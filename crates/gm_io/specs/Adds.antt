-- What a call that appends text does to a sink and to the text that waits for it.
use Rattle.std.specs.Prelude.{ℕ, List}
use Rattle.std.specs.declared.option.Option.{Option}
use Rattle.std.specs.declared.result.Result.{Result}
use Rattle.gm_io.specs.Causes.{HasCause}
use Rattle.gm_io.specs.Held.{Wrote, Grows, total}

-- what a sink tells, what waits to be put there, and the sink's faults
pub record Outlet : Type 0 where
  pub held : Option (List ℕ)
  pub waiting : List ℕ
  pub faults : ℕ

abbrev pub outlet : Option (List ℕ) → List ℕ → ℕ → Outlet
outlet held waiting faults = record { held = held; waiting = waiting; faults = faults }

-- the text was appended to what was held and what waited: all of it at `Ok`, and a front of it, never the whole, at `Err`,
-- which has its cause
pub record Adds {T E : Type 0} (old new : Outlet) (text : List ℕ) (result : Result T E) : Type 0 where
  pub wrote : Wrote (total old.held old.waiting) (total new.held new.waiting) text result
  pub grows : Grows old.held new.held
  pub cause : HasCause old.faults new.faults result
