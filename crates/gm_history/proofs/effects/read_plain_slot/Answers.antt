use Rattle.gm_history.specs.Whats.{plain_slot_of}
use Rattle.gm_history.proofs.effects.read_plain_slot.Goals as goal

pub returns : goal.returns
unfolding plain_slot_of
returns c = rw (c.in_ok-slot.ensures, c.in_ok-base.ensures, c.in_ok-pages.ensures, c.in_ok-user.ensures, c.in_ok-flags.ensures, c.in_ok-last.ensures) c.ended.ensures
