use Rattle.gm_turns.proofs.CoreForetold.{leaving_foretold}
use Rattle.gm_turns.proofs.foretelling.ahead_of_next.Goals as goal

pub returns-in-None : goal.returns-in-None
returns-in-None c = leaving_foretold c.args.core.now c.args.c c.requires.ready c.in-None.ensures
