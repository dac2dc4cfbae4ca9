use Rattle.std.proofs.Common.{◌≡◌, ◌+◌, drop}
use Rattle.gm_history.specs.Numerals.{digit_count}
use Rattle.gm_history.proofs.numerals.digit_count.Given as goal

abbrev pub invariant-loop-byte : goal.invariant-loop-byte
invariant-loop-byte l = record {
  place : l.count ≡ l.byte-index;
  rest : l.count + digit_count (drop l.byte-index l.bytes) ≡ digit_count l.bytes;
}
