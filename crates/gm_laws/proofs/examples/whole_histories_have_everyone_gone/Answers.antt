-- Each by computing.
use Rattle.gm_laws.proofs.Whole.{caller_left_is_not_full, no_entry_is_not_full, smallest_is_full}
use Rattle.gm_laws.proofs.examples.whole_histories_have_everyone_gone.Goals as goal

pub returns : goal.returns
returns c = record { smallest_is_whole = smallest_is_full; nobody_gone = no_entry_is_not_full; caller_left = caller_left_is_not_full }
