-- Each row by computing.
use Rattle.gm_laws.proofs.ConversionRuled.{conversion_is_ruled}
use Rattle.gm_laws.proofs.FlushPendingRuled.{flush_pending_is_ruled}
use Rattle.gm_laws.proofs.HeldPageRuled.{held_page_is_ruled}
use Rattle.gm_laws.proofs.MarkedSlotRuled.{marked_slot_is_ruled}
use Rattle.gm_laws.proofs.MixedBlockRuled.{mixed_block_is_ruled}
use Rattle.gm_laws.proofs.MoveAndDeletionRuled.{move_and_deletion_is_ruled}
use Rattle.gm_laws.proofs.OneReadRuled.{one_read_is_ruled}
use Rattle.gm_laws.proofs.PopulationAndCloseRuled.{population_and_close_is_ruled}
use Rattle.gm_laws.proofs.examples.worked_rows_follow_the_tables.Goals as goal

pub returns : goal.returns
returns c = record { one_read_row = one_read_is_ruled; conversion_row = conversion_is_ruled; held_page_row = held_page_is_ruled; flush_pending_row = flush_pending_is_ruled; mixed_block_row = mixed_block_is_ruled; marked_slot_row = marked_slot_is_ruled; move_and_deletion_row = move_and_deletion_is_ruled; population_and_close_row = population_and_close_is_ruled }
