-- A touch names its folio's frame.
use Rattle.gm_laws.proofs.Frames.{right_frames}
use Rattle.gm_laws.proofs.rightness.touches_name_their_frames.Goals as goal

pub returns : goal.returns
returns c = right_frames
