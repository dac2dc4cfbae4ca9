use Rattle.std.proofs.Common.{ℕ, ap, eqb, sym, ◌∙◌, Err}
use Rattle.gm_calls.proofs.SlotRows.{told}
use Rattle.gm_calls.proofs.regions.judge_region.Goals as goal

pub judge-requires : goal.judge-requires
judge-requires c = record {
  size = ap (λ (n : ℕ). eqb n 0) c.requires.range.size;
  gpa = ap (λ (n : ℕ). eqb n 0) c.requires.range.gpa;
  slot = c.requires.range.slot;
}

pub judge_change-requires-clause-judged : goal.judge_change-requires-clause-judged
judge_change-requires-clause-judged c = sym c.judge.ensures ∙ c.in-Ok.is

pub returns-in-Err : goal.returns-in-Err
returns-in-Err c = λ f st. (told c.args.parts.now f c.args.region.now (Err c.in-Err.errno) st (sym c.judge.ensures ∙ c.in-Err.is), c.requires.empty)
