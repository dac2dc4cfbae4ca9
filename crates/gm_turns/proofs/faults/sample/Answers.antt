use Rattle.gm_turns.proofs.FaultTurns.{sample_turn}
use Rattle.gm_turns.proofs.faults.sample.Goals as goal

pub returns : goal.returns
returns c = rw (c.note.ensures, c.sample.ensures) (sample_turn c.args.core.now c.args.v c.position-at.result c.seq.result c.requires.ready c.requires.missed c.position-at.ensures.at c.seq.ensures)
