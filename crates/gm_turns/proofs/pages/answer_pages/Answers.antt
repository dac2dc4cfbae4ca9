use Rattle.std.proofs.Common.{arith}
use Rattle.gm_turns.proofs.BracketTurns.{ended_fits}
use Rattle.gm_turns.proofs.PageTurns.{pages_answer_turn}
use Rattle.gm_turns.proofs.pages.answer_pages.Goals as goal

pub answer-requires-clause-bound : goal.answer-requires-clause-bound
answer-requires-clause-bound c = let l = ended_fits c.args.core.now c.args.c c.requires.ready in omega arith

pub returns : goal.returns
returns c = rw (c.note.ensures, c.answer.ensures) (pages_answer_turn c.args.core.now c.args.c c.requires.ends.0 c.args.reply c.requires.ready c.requires.ends.1 c.requires.ends.2)
