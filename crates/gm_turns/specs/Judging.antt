-- What a core is after a call was judged, in one turn.
use Rattle.std.specs.Prelude.{ℕ, slice_set}
use Rattle.std.specs.declared.option.Option.{Option}
use Rattle.gm_base.specs.declared.calls.Ioctl.{Ioctl}
use Rattle.gm_base.specs.declared.values.Actor.TheVariants.{Caller}
use Rattle.gm_callers.specs.Callers.{answered, caller_at, judging}
use Rattle.gm_calls.specs.declared.call.Call.{Call}
use Rattle.gm_flat.specs.Roomy.{Roomy}
use Rattle.gm_flat.specs.declared.effect.Effect.{Effect}
use Rattle.gm_flat.specs.declared.effect.Reply.{Reply}
use Rattle.gm_flat.specs.declared.entry.What.TheVariants.{Answer, Change, Judge}
use Rattle.gm_state.specs.Views.{StateView}
use Rattle.gm_turns.specs.Ready.{noted}
use Rattle.gm_turns.specs.declared.parts.Core.{Core}

-- it is answered at once
abbrev pub answered_now : Core → ℕ → Ioctl → Reply → Core
answered_now k c i reply = noted (record (noted k (Caller c) (Judge i)) { callers = slice_set k.callers c (answered (caller_at k.callers c)) }) (Caller c) (Answer reply)

-- it makes its change and is answered at once
abbrev pub changed_now : Core → ℕ → Ioctl → Effect → StateView → Reply → Core
changed_now k c i effect state reply = noted (record (noted (record (noted k (Caller c) (Judge i)) { state = state }) (Caller c) (Change effect)) { callers = slice_set k.callers c (answered (caller_at k.callers c)) }) (Caller c) (Answer reply)

-- it goes on
abbrev pub going_on : Core → ℕ → Call → Option Roomy → Core
going_on k c call spans = noted (record k { callers = slice_set k.callers c (judging (caller_at k.callers c) call spans) }) (Caller c) (Judge call.ioctl)
