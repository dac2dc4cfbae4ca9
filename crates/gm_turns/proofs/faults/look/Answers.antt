use Rattle.gm_turns.proofs.FaultTurns.{look_is, look_turn}
use Rattle.gm_turns.proofs.faults.look.Goals as goal
use Rattle.gm_flat.specs.Replay.{flat}
use Rattle.gm_turns.specs.Standing.{memory_of}

pub returns : goal.returns
returns c =
    let k = c.args.core.now in
    let tie = c.requires.ready.settled.stands.state.is in
    rw (c.note.ensures, c.look.ensures, c.look_of.ensures)
    (look_turn k c.args.v c.args.page c.args.sampled _ c.requires.ready c.requires.sampled
    (look_is (flat k.log.past) c.args.page _ c.position.result c.find.result c.kind.result c.position.ensures.at (c.find.ensures k.setup (memory_of k.setup k.log.past) tie) (c.kind.ensures k.setup (memory_of k.setup k.log.past) tie)))
