-- A call in progress that makes its change in a bracket.
use Rattle.std.specs.Prelude.{ℕ, Option, Some, None}
use Rattle.gm_base.specs.declared.calls.Ioctl.{Ioctl}
use Rattle.gm_base.specs.declared.calls.Ioctl.TheVariants.{Close}
use Rattle.gm_callers.specs.Stand.{IsAt}
use Rattle.gm_callers.specs.declared.caller.InProgress.{InProgress}
use Rattle.gm_calls.specs.declared.call.Step.{Step}
use Rattle.gm_calls.specs.declared.judged.Judged.{Judged}
use Rattle.gm_calls.specs.declared.judged.Judged.TheVariants as judgement
use Rattle.gm_flat.specs.declared.effect.Effect.{Effect}
use Rattle.gm_state.specs.Marked.{mark_slot}

-- a call in progress makes some change in a bracket, and this is its last step
abbrev pub IsAtStep : Option Step → Option InProgress → Type 0
IsAtStep step o = (effect : Effect) × IsAt effect step o

-- the slot that a call marks where its bracket begins
abbrev pub slot_by : Judged → Option ℕ
slot_by (judgement.Bracket effect) = mark_slot effect
slot_by _ = None

abbrev pub slot_to_mark : Option InProgress → Option ℕ
slot_to_mark None = None
slot_to_mark (Some x) = slot_by x.call.judged

-- what a caller's call in progress asked; a call that isn't there asks to close file 0
abbrev pub ioctl_in : Option InProgress → Ioctl
ioctl_in None = Close 0
ioctl_in (Some x) = x.call.ioctl
