-- The steps of a call after its judgement.
use Rattle.std.specs.Prelude.{◌≡◌, Bool, true, false, Option, Some, None, if◌then◌else◌}
use Rattle.gm_calls.specs.declared.call.Call.{Call}
use Rattle.gm_calls.specs.declared.call.Step.{Step}
use Rattle.gm_calls.specs.declared.call.Step.TheVariants.{Begin, Acked, Change, PageStep, End}
use Rattle.gm_calls.specs.declared.judged.Judged.{Judged}
use Rattle.gm_calls.specs.declared.judged.Judged.TheVariants.{Refused, Same, Short, Bracket, Pages}

-- the steps of a bracket, one after another
abbrev pub after_in_bracket : Option Step → Option Step
after_in_bracket None = Some Begin
after_in_bracket (Some Begin) = Some Acked
after_in_bracket (Some Acked) = Some Change
after_in_bracket (Some Change) = Some End
after_in_bracket (Some End) = None
after_in_bracket (Some PageStep) = None

-- the step that follows by the call's row. A call that is answered at its judgement has none; the answering turn of a
-- call that adds pages is a step of its own.
abbrev pub after_in_row : Judged → Option Step → Option Step
after_in_row (Bracket effect) last = after_in_bracket last
after_in_row (Pages pages) last = Some PageStep
after_in_row (Refused errno) last = None
after_in_row (Same answer) last = None
after_in_row (Short effect answer) last = None

-- the step that follows; none where the call is answered
abbrev pub step_after : Call → Option Step
step_after call = if call.answered then None else after_in_row call.judged call.done

-- whether a step is one of a bracket's
abbrev pub is_of_bracket : Step → Bool
is_of_bracket Begin = true
is_of_bracket Acked = true
is_of_bracket Change = true
is_of_bracket End = true
is_of_bracket PageStep = false

-- whether the last step is one of the call's row
abbrev pub is_of_row : Judged → Option Step → Bool
is_of_row judged None = true
is_of_row (Bracket effect) (Some step) = is_of_bracket step
is_of_row (Pages pages) (Some PageStep) = true
is_of_row (Pages pages) (Some step) = false
is_of_row (Refused errno) (Some step) = false
is_of_row (Same answer) (Some step) = false
is_of_row (Short effect answer) (Some step) = false

-- whether a call has come to its answer: at its judgement, or at the end of its bracket
abbrev pub is_end : Option Step → Bool
is_end (Some End) = true
is_end (Some step) = false
is_end None = false

abbrev pub is_at_end : Judged → Option Step → Bool
is_at_end (Refused errno) last = true
is_at_end (Same answer) last = true
is_at_end (Short effect answer) last = true
is_at_end (Bracket effect) last = is_end last
is_at_end (Pages pages) last = is_end last

-- the last step is one of the row, and the call is answered where it has come to its answer
pub record IsInOrder (call : Call) : Type 0 where
  pub of_row : is_of_row call.judged call.done ≡ true
  pub answered : is_at_end call.judged call.done ≡ true → call.answered ≡ true
