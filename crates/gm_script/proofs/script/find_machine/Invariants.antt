use Rattle.std.proofs.Common.{◌≡◌, ◌+◌, ◌≤◌, ◌^◌, length, None}
use Rattle.gm_script.specs.Lines.{lines_of}
use Rattle.gm_script.specs.Grammar.{judged}
use Rattle.gm_script.proofs.script.find_machine.Given as goal

abbrev pub invariant-loop-rest : goal.invariant-loop-rest
invariant-loop-rest l = record {
  judgement : judged (lines_of l.rest) l.number None ≡ judged (lines_of l.bytes) 1 None;
  short : l.number + length l.rest ≤ 2 ^ 63;
}

abbrev pub decreases-loop-rest : goal.decreases-loop-rest
decreases-loop-rest l = length l.rest
