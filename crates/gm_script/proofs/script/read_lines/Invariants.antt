use Rattle.std.proofs.Common.{◌≡◌, ◌+◌, ◌≤◌, ◌^◌, length, Some}
use Rattle.gm_script.specs.Lines.{lines_of}
use Rattle.gm_script.specs.Grammar.{judged}
use Rattle.gm_script.specs.Drafts.{draft_of, IsScriptDraft}
use Rattle.gm_script.proofs.script.read_lines.Given as goal

abbrev pub invariant-loop-rest : goal.invariant-loop-rest
invariant-loop-rest l = record {
  even : IsScriptDraft (draft_of l.read);
  judgement : judged (lines_of l.rest) l.number (Some (draft_of l.read)) ≡ judged (lines_of l.bytes) l.first (Some (draft_of l.initial.read));
  short : l.number + length l.rest ≤ 2 ^ 63;
}

abbrev pub decreases-loop-rest : goal.decreases-loop-rest
decreases-loop-rest l = length l.rest
