use Rattle.std.proofs.Common.{◌≡◌, ◌++◌, ◌+◌, take}
use Rattle.gm_flat.specs.Calls.{slots_of_file}
use Rattle.gm_calls.proofs.Meeting.{meeting, spans_of}
use Rattle.gm_calls.proofs.spanned.put_parts.Given as goal

abbrev pub invariant-loop-range : goal.invariant-loop-range
invariant-loop-range l = record {
  put : l.spans.list ≡ l.initial.spans.list ++ spans_of l.lo l.hi (take l.range-index (meeting l.lo l.hi (slots_of_file l.fd l.slots.slots)));
  spare : l.spans.spare + l.range-index ≡ l.initial.spans.spare;
}
