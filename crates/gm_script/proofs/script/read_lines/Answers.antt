use Rattle.std.proofs.Common.{◌≡◌, Ok, Some, arith}
use Rattle.std.proofs.lemmas.Grind.{common_steps}
use Rattle.gm_script.specs.Drafts.{draft_of}
use Rattle.gm_script.specs.Lines.{Line}
use Rattle.gm_script.specs.Grammar.{after_line}
use Rattle.gm_script.proofs.Keeping.{even_line}
use Rattle.gm_script.proofs.script.read_lines.Goals as goal

pub loop-rest-preserved : goal.loop-rest-preserved
loop-rest-preserved c =
    let next = c.first_line-next.result in
    let line : Line = record { bytes = next.line.now; is_ended = next.is_ended } in
    let ok : after_line (Some (draft_of c.loop-rest.read)) line ≡ Ok (Some (draft_of c.read_later.new.draft)) = c.in-Ok.ensures.ok in
    record {
      even = even_line (draft_of c.loop-rest.read) line (draft_of c.read_later.new.draft) c.loop-rest.invariant.even ok;
      judgement = grind (arith, common_steps, ok, c.first_line-next.ensures.lines, c.loop-rest.invariant.judgement);
      short = omega arith;
    }
