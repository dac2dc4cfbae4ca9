-- The step that follows of a call in progress.
use Rattle.std.specs.Prelude.{ℕ, Option, Some, None}
use Rattle.gm_callers.specs.Stand.{AddsPages}
use Rattle.gm_callers.specs.declared.caller.InProgress.{InProgress}
use Rattle.gm_calls.specs.declared.call.Step.{Step}
use Rattle.gm_calls.specs.declared.call.Step.TheVariants.{Begin, Acked, Change, PageStep, End}
use Rattle.gm_calls.specs.declared.judged.PagePlan.{PagePlan}
use Rattle.gm_turns.specs.Brackets.{IsAtStep}

-- a bracket has its steps one after another; pages are added, or the call that adds them is answered
abbrev pub IsStepOf : Option InProgress → Step → Type 0
IsStepOf o Begin = IsAtStep None o
IsStepOf o Acked = IsAtStep (Some Begin) o
IsStepOf o Change = IsAtStep (Some Acked) o
IsStepOf o End = IsAtStep (Some Change) o
IsStepOf o PageStep = (q : PagePlan) × AddsPages q o
