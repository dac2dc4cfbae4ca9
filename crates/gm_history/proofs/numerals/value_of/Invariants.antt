use Rattle.std.proofs.Common.{◌≡◌, drop}
use Rattle.gm_history.specs.Numerals.{read_on}
use Rattle.gm_history.proofs.numerals.value_of.Given as goal

abbrev pub invariant-loop-byte : goal.invariant-loop-byte
invariant-loop-byte l = read_on l.n (drop l.byte-index l.digits) ≡ read_on 0 l.digits
