use Rattle.gm_turns.proofs.Depositing.{deposit_turn, flies, still_flies}
use Rattle.gm_turns.proofs.sightings.deposit.Goals as goal

pub sample-requires-clause-in_flight : goal.sample-requires-clause-in_flight
sample-requires-clause-in_flight c = flies c.args.core.now c.args.v c.args.sight c.requires.ready c.requires.true_sight

pub look-requires-clause-in_flight : goal.look-requires-clause-in_flight
look-requires-clause-in_flight c = rw (c.note.ensures, c.sample.ensures) (still_flies c.args.core.now c.args.v c.args.sight c.requires.ready c.requires.true_sight)

pub returns : goal.returns
returns c =
    rw (c.note-2.ensures, c.look_of.ensures, c.look.ensures, c.note.ensures, c.sample.ensures)
    (deposit_turn c.args.core.now c.args.v c.args.sight c.requires.ready c.requires.true_sight)
