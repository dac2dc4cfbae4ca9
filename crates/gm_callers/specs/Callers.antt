-- What a turn does to a caller.
use Rattle.std.specs.Prelude.{ℕ, ◌+◌, List, [], Option, Some, None, false, true, slice_index_or}
use Rattle.gm_calls.specs.declared.call.Call.{Call}
use Rattle.gm_calls.specs.declared.call.Step.{Step}
use Rattle.gm_calls.specs.declared.call.Step.TheVariants.{Begin, PageStep}
use Rattle.gm_flat.specs.Roomy.{Roomy}
use Rattle.gm_callers.specs.declared.caller.Caller.{Caller}
use Rattle.gm_callers.specs.declared.caller.InProgress.{InProgress}

-- a caller at the start; it also stands in for one that isn't there
abbrev pub no_caller : Caller
no_caller = record { ended = 0; call = None; spans = None; gone = false }

abbrev pub caller_at : List Caller → ℕ → Caller
caller_at cs c = slice_index_or cs c no_caller

-- its call is in progress, with the spans of a bracket
abbrev pub judging : Caller → Call → Option Roomy → Caller
judging x call spans = record x { call = Some (record { call = call; spans = spans; request = 0 }) }

-- it begins its bracket: its spans go into the entry, and its request to flush has a number
abbrev pub with_begin : ℕ → Option InProgress → Option InProgress
with_begin request None = None
with_begin request (Some x) = Some (record { call = record x.call { done = Some Begin }; spans = None; request = request })

abbrev pub begun : Caller → ℕ → Caller
begun x request = record x { call = with_begin request x.call }

-- its call has done a step
abbrev pub with_step : Step → Option InProgress → Option InProgress
with_step step None = None
with_step step (Some x) = Some (record x { call = record x.call { done = Some step } })

abbrev pub stepped : Caller → Step → Caller
stepped x step = record x { call = with_step step x.call }

-- its call has added one page more
abbrev pub paged_more : Option InProgress → Option InProgress
paged_more None = None
paged_more (Some x) = Some (record x { call = record x.call { pages = x.call.pages + 1; done = Some PageStep } })

abbrev pub paged : Caller → Caller
paged x = record x { call = paged_more x.call }

-- its call is answered
abbrev pub answered : Caller → Caller
answered x = record x { call = None; ended = x.ended + 1 }

-- it writes `gone`
abbrev pub leaving : Caller → Caller
leaving x = record x { gone = true }

-- its spans for the next judgement are taken
abbrev pub without_room : Caller → Caller
without_room x = record x { spans = None }

abbrev pub spans_of : Option InProgress → Option Roomy
spans_of None = None
spans_of (Some x) = x.spans

abbrev pub IsThere : Option Roomy → Type 0
IsThere None = ⊥
IsThere (Some spans) = Unit {0}

-- a call is in progress that has its spans
abbrev pub HasSpans : Option InProgress → Type 0
HasSpans x = IsThere (spans_of x)

abbrev pub or_empty : Option Roomy → Roomy
or_empty None = record { list = []; spare = 0 }
or_empty (Some spans) = spans

-- the spans of a call in progress
abbrev pub spans_in : Option InProgress → Roomy
spans_in x = or_empty (spans_of x)

-- the number of its request to flush
abbrev pub request_in : Option InProgress → ℕ
request_in None = 0
request_in (Some x) = x.request

-- how many pages it has added
abbrev pub pages_in : Option InProgress → ℕ
pages_in None = 0
pages_in (Some x) = x.call.pages
