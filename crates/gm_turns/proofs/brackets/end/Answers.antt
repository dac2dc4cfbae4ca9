use Rattle.std.proofs.Common.{arith}
use Rattle.gm_turns.proofs.BracketTurns.{end_turn, ended_fits, one_open, seq_fits}
use Rattle.gm_turns.proofs.brackets.end.Goals as goal

pub end-requires-clause-in_progress : goal.end-requires-clause-in_progress
end-requires-clause-in_progress c =
    let o = one_open c.args.core.now c.args.c c.requires.at.0 c.requires.ready c.requires.at.1 in
    let e = c.requires.ready.settled.stands.mapping.count_is in
    omega arith

pub end-requires-clause-room : goal.end-requires-clause-room
end-requires-clause-room c = seq_fits c.args.core.now c.args.c c.requires.ready

pub answer-requires-clause-bound : goal.answer-requires-clause-bound
answer-requires-clause-bound c = let l = ended_fits c.args.core.now c.args.c c.requires.ready in rw c.note.ensures (omega arith)

pub returns : goal.returns
returns c = rw (c.note-2.ensures, c.answer.ensures, c.note.ensures, c.end.ensures) (end_turn c.args.core.now c.args.c c.requires.at.0 c.requires.ready c.requires.at.1)
