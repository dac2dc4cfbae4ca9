-- Each row by computing.
use Rattle.gm_laws.proofs.FlushPendingPlays.{flush_pending_plays}
use Rattle.gm_laws.proofs.OneReadPlays.{one_read_plays}
use Rattle.gm_laws.proofs.examples.worked_rows_play_their_turns.Goals as goal

pub returns : goal.returns
returns c = record { one_read_plays = one_read_plays; flush_pending_plays = flush_pending_plays }
