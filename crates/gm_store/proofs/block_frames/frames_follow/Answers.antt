use Rattle.std.proofs.Common.{arith}
use Rattle.std.proofs.lemmas.Bool.{both_ways}
use Rattle.gm_store.proofs.BlockFrames.{follow_more}
use Rattle.gm_store.proofs.block_frames.frames_follow.Goals as goal

pub pages-init : goal.pages-init
pages-init c = λ k lt. absurd (omega (arith, lt))

pub pages-preserved : goal.pages-preserved
pages-preserved c = follow_more c.pages.k c.args.index c.args.frame c.args.file.now.cached c.pages.invariant (c.has_frame.ensures.yes c.if-not-has_frame.false)
