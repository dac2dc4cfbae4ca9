use Rattle.std.proofs.Common.{◌≡◌, drop}
use Rattle.gm_script.specs.Lines.{words_of}
use Rattle.gm_script.proofs.words.spaces.Given as goal

abbrev pub invariant-loop-byte : goal.invariant-loop-byte
invariant-loop-byte l = record {
  place : l.at ≡ l.byte-index;
  words : words_of (drop l.at l.bytes) ≡ words_of l.bytes;
}
