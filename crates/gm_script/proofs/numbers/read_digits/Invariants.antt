use Rattle.std.proofs.Common.{◌≡◌, ◌<◌, drop}
use Rattle.gm_script.specs.Numbers.{digits_after, below_of, NUMBER_LIMIT}
use Rattle.gm_script.proofs.numbers.read_digits.Given as goal

abbrev pub invariant-loop-byte : goal.invariant-loop-byte
invariant-loop-byte l = record {
  small : l.n < NUMBER_LIMIT;
  rest : below_of NUMBER_LIMIT (digits_after l.base (drop l.byte-index l.word) l.n) ≡ below_of NUMBER_LIMIT (digits_after l.base l.word 0);
}
