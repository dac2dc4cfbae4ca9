use Rattle.std.proofs.Common.{◌≡◌, ◌+◌, drop}
use Rattle.gm_history.specs.Cuts.{cut_of}
use Rattle.gm_history.proofs.cuts.cut.Given as goal

abbrev pub invariant-loop-byte : goal.invariant-loop-byte
invariant-loop-byte l = record {
  place : l.at ≡ l.byte-index;
  rest : l.at + cut_of l.separator (drop l.byte-index l.bytes) ≡ cut_of l.separator l.bytes;
}
