use Rattle.std.proofs.Common.{◌≡◌, length}
use Rattle.gm_history.specs.Cuts.{split_at}
use Rattle.gm_history.specs.Whats.{spans_of}
use Rattle.gm_history.proofs.SpanLists.{before}
use Rattle.gm_history.proofs.entries.read_spans.Given as goal

abbrev pub invariant-loop-span : goal.invariant-loop-span
invariant-loop-span l = record {
  told : before l.spans.list (spans_of (split_at 32 l.rest)) ≡ spans_of (split_at 32 l.words);
  room : l.spans.spare ≡ 0;
}

abbrev pub decreases-loop-span : goal.decreases-loop-span
decreases-loop-span l = length l.rest
