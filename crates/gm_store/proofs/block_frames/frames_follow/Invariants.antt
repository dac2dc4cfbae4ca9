use Rattle.std.proofs.Common.{◌≡◌}
use Rattle.gm_store.proofs.BlockFrames.{Follow}
use Rattle.gm_store.proofs.block_frames.frames_follow.Given as goal

abbrev pub invariant-pages : goal.invariant-pages
invariant-pages l = Follow l.k l.index l.frame l.file.cached
