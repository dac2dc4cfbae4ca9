-- A block has all its pages cached.
use Rattle.std.proofs.Common.{ℕ, ◌+◌, ◌≤◌, arith, subst, sym}
use Rattle.gm_base.specs.declared.numbers.TheConstants.{BLOCK_PAGES}
use Rattle.gm_radix.specs.Entries.{count_within}
use Rattle.gm_store.proofs.BlockFrames.{enough_counted}
use Rattle.gm_store.proofs.block_frames.block_frame.Goals as goal

pub returns-then-count_in-count-clause-none : goal.returns-then-count_in-count-clause-none
returns-then-count_in-count-clause-none c = λ frame al h. let e = subst (λ (n : ℕ). n ≤ count_within c.args.index (c.args.index + n) c.args.file.now.cached) (sym c.block_pages-count.ensures) (enough_counted BLOCK_PAGES c.args.index frame c.args.file.now.cached h) in absurd (omega (arith, c.if-count_in-count.true, c.count_in.ensures, c.block_pages-count.ensures, e))
