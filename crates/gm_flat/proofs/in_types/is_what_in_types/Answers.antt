use Rattle.gm_flat.proofs.OfPages.{spans_in_types}
use Rattle.gm_flat.proofs.in_types.is_what_in_types.Goals as goal

pub returns-in-Begin : goal.returns-in-Begin
returns-in-Begin c = rw c.in-Begin.is (spans_in_types _ c.are_of_pages.ensures)
