-- A refused call.
use Rattle.gm_determined.proofs.Callers.{answers_refused, refused_answers}
use Rattle.gm_determined.proofs.exactly.refused_calls_only_answer.Goals as goal

pub returns-clause-only : goal.returns-clause-only
returns-clause-only c = refused_answers

pub returns-clause-so_only : goal.returns-clause-so_only
returns-clause-so_only c = answers_refused
