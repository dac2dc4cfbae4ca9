-- The last fills since the last Flush.
use Rattle.gm_laws.proofs.MoreReadings.{all_fills_are, fills_are_last}
use Rattle.gm_laws.proofs.meanings.fills_are_the_last_touches.Goals as goal

pub returns : goal.returns
returns c = record { last = fills_are_last; since = all_fills_are }
