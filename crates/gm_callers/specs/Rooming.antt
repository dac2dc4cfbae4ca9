-- Room for a caller's next turn.
use Rattle.std.specs.Prelude.{◌≡◌, ◌≤◌, [], Option, Some, None}
use Rattle.gm_base.specs.declared.numbers.TheConstants.{SLOT_IDS}
use Rattle.gm_calls.specs.declared.call.Step.{Step}
use Rattle.gm_flat.specs.Roomy.{Roomy}
use Rattle.gm_callers.specs.declared.caller.Caller.{Caller}
use Rattle.gm_callers.specs.declared.caller.InProgress.{InProgress}

-- an empty list with room for a span for each slot
abbrev pub IsRoomy : Option Roomy → Type 0
IsRoomy None = ⊥
IsRoomy (Some spans) = (spans.list ≡ []) × (SLOT_IDS ≤ spans.spare)

-- none, or such a list
abbrev pub IsEmptyOrRoomy : Option Roomy → Type 0
IsEmptyOrRoomy None = Unit {0}
IsEmptyOrRoomy (Some spans) = (spans.list ≡ []) × (SLOT_IDS ≤ spans.spare)

-- the same spans with no spare room, where the call has done no step after its judgement
abbrev pub fitted : Option Step → Option Roomy → Option Roomy
fitted None None = None
fitted None (Some spans) = Some (record { list = spans.list; spare = 0 })
fitted (Some step) spans = spans

abbrev pub trimmed : InProgress → InProgress
trimmed x = record x { spans = fitted x.call.done x.spans }

-- spans for the next judgement, made where there are none
abbrev pub made : Option Roomy → Option Roomy
made None = Some (record { list = []; spare = SLOT_IDS })
made (Some spans) = Some spans

-- room for its next turn: by whether a call is in progress
abbrev pub reserved_by : Option InProgress → Caller → Caller
reserved_by None x = record x { spans = made x.spans }
reserved_by (Some p) x = record x { call = Some (trimmed p) }

abbrev pub reserved : Caller → Caller
reserved x = reserved_by x.call x
