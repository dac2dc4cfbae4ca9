use Rattle.std.proofs.Common.{◌≡◌, drop}
use Rattle.gm_script.specs.Lines.{has_bad_byte}
use Rattle.gm_script.proofs.split.has_bad_byte.Given as goal

abbrev pub invariant-loop-byte : goal.invariant-loop-byte
invariant-loop-byte l = has_bad_byte (drop l.byte-index l.line) ≡ has_bad_byte l.line
