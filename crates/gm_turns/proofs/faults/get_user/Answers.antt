use Rattle.gm_turns.proofs.FaultTurns.{user_turn}
use Rattle.gm_turns.proofs.faults.get_user.Goals as goal

pub returns : goal.returns
returns c = rw (c.note.ensures, c.get.ensures) (user_turn c.args.core.now c.args.v c.args.page c.requires.ready c.requires.route)
