use Rattle.gm_history.specs.Whats.{get_folio_of}
use Rattle.gm_history.proofs.faults.read_get_folio.Goals as goal

pub returns : goal.returns
unfolding get_folio_of
returns c = rw (c.in_ok-serial.ensures, c.in_ok-frame.ensures, c.in_ok-fresh.ensures) c.ended.ensures
