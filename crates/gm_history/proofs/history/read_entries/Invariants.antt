use Rattle.std.proofs.Common.{◌≡◌, ◌+◌, ◌≤◌, [], length}
use Rattle.gm_history.specs.Cuts.{split_at}
use Rattle.gm_history.specs.Frames.{Knows}
use Rattle.gm_history.specs.Given.{given}
use Rattle.gm_history.specs.Reading.{told_on}
use Rattle.gm_history.specs.TextForm.{last_turn}
use Rattle.gm_history.proofs.history.read_entries.Given as goal

abbrev pub invariant-loop-after : goal.invariant-loop-after
invariant-loop-after l = record {
  told : told_on l.version l.setup (split_at 10 l.rest) l.entries.items ≡ told_on l.version l.setup (split_at 10 l.bytes) [];
  known : Knows l.version l.frames (given l.entries.items);
  last : l.last ≡ last_turn l.entries.items;
  short : length l.entries.items + length l.rest ≤ length l.bytes;
}

abbrev pub decreases-loop-after : goal.decreases-loop-after
decreases-loop-after l = length l.rest
