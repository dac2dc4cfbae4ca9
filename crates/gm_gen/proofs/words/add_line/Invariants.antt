use Rattle.std.proofs.Common.{◌≡◌, ◌++◌, drop, map}
use Rattle.gm_gen.specs.Lines.{ending, word_text}
use Rattle.gm_gen.proofs.words.add_line.Given as goal

abbrev pub invariant-loop-word : goal.invariant-loop-word
invariant-loop-word l = l.text.items ++ ending (map word_text (drop l.word-index l.rest)) ≡ l.initial.text.items ++ ending (map word_text l.rest)
