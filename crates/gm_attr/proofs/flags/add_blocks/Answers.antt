use Rattle.std.proofs.Common.{◌≡◌, ℕ, ◌∙◌, ◌&&◌, ◌||◌, ap, arith}
use Rattle.std.specs.Prelude.{nat_le, nat_lt, is_some}
use Rattle.gm_radix.specs.Entries.{lookup}
use Rattle.gm_attr.proofs.Lookups.{is_some-put}
use Rattle.gm_attr.proofs.Renewing.{put_flags}
use Rattle.gm_attr.proofs.flags.add_blocks.Goals as goal

pub loop-block-preserved : goal.loop-block-preserved
loop-block-preserved c = record {
  tracked = λ k. rw c.insert.ensures.entries (is_some-put k c.args.first c.loop-block.block _ _ (omega arith) (c.loop-block.invariant.tracked k));
  flags = rw c.insert.ensures.entries (put_flags c.args.runs.now.edges c.loop-block.tracked.entries c.loop-block.mixed.entries c.renew.new.mixed.entries c.loop-block.block c.loop-block.invariant.flags c.renew.ensures.flag c.renew.ensures.others);
  spare = omega (arith, c.insert.ensures.spare, c.loop-block.invariant.spare);
  mixed_spare = omega (arith, c.renew.ensures.spare, c.loop-block.invariant.mixed_spare);
}

pub returns-clause-tracked : goal.returns-clause-tracked
returns-clause-tracked c =
    let same : c.loop-block.block ≡ c.args.end = omega arith in
    λ k. c.loop-block.invariant.tracked k ∙ ap (λ (n : ℕ). (nat_le c.args.first k && nat_lt k n) || is_some (lookup k c.args.tracked.now.entries)) same

pub returns-clause-spare : goal.returns-clause-spare
returns-clause-spare c = omega (arith, c.loop-block.invariant.spare)

pub returns-clause-mixed_spare : goal.returns-clause-mixed_spare
returns-clause-mixed_spare c = omega (arith, c.loop-block.invariant.mixed_spare)
