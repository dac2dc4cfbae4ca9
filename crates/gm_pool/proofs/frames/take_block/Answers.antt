use Rattle.std.proofs.Common.{◌+◌, ℕ, List, Option, length, ◌∙◌, ap, arith}
use Rattle.gm_pool.specs.declared.uses.Use.{Use}
use Rattle.gm_pool.specs.Pools.{use_in}
use Rattle.gm_pool.proofs.Standing.{still_free, taken_more, free_within, length_taken}
use Rattle.gm_pool.proofs.frames.take_block.Goals as goal

pub overflow_add-first : goal.overflow_add-first
overflow_add-first c =
    let i = c.loop-offset.invariant in
    omega (arith, i.stands.small, free_within c.loop-offset.uses.items (c.args.first + c.loop-offset.offset) (still_free c.args.uses.now.items c.loop-offset.uses.items c.args.first c.loop-offset.offset c.args.serial c.requires.free i.taken i.len (omega arith)))

pub loop-offset-preserved : goal.loop-offset-preserved
loop-offset-preserved c =
    let i = c.loop-offset.invariant in
    let at : ℕ = c.args.first + c.loop-offset.offset in
    record {
      stands = c.take.ensures.stands;
      taken = λ frame.
          ap (λ (uses : List (Option Use)). use_in uses frame) c.take.ensures.uses
          ∙ taken_more c.args.uses.now.items c.loop-offset.uses.items c.args.first c.loop-offset.offset c.args.serial frame i.taken (free_within c.loop-offset.uses.items at (still_free c.args.uses.now.items c.loop-offset.uses.items c.args.first c.loop-offset.offset c.args.serial c.requires.free i.taken i.len (omega arith)));
      len = ap (λ (uses : List (Option Use)). length uses) c.take.ensures.uses ∙ (length_taken c.loop-offset.uses.items at (c.args.serial + c.loop-offset.offset) ∙ i.len);
    }
