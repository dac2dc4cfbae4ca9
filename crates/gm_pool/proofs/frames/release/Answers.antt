use Rattle.std.proofs.Common.{◌/◌, false, true, refl, ◌∙◌}
use Rattle.gm_pool.specs.Bits.{bit_in}
use Rattle.gm_pool.proofs.Standing.{stands_released, used_block, block_within, at_number, at_other, no_true}
use Rattle.gm_pool.proofs.frames.release.Goals as goal

pub add-requires-then-has_block : goal.add-requires-then-has_block
add-requires-then-has_block c =
    block_within c.args.uses.now.items c.args.free.now c.args.blocks.now c.add.new.self c.args.frame c.requires.stands c.requires.within c.add.ensures.numbers (c.if-has_block.ensures.0 refl)

pub returns-then-has_block-clause-stands : goal.returns-then-has_block-clause-stands
returns-then-has_block-clause-stands c =
    stands_released c.args.uses.now.items c.args.free.now c.args.blocks.now c.add.new.self c.add-then-has_block.new.self c.args.frame c.requires.stands c.requires.within c.requires.used
    c.add.ensures.numbers c.add.ensures.len
    (λ b ne. c.add-then-has_block.ensures.numbers b ∙ at_other true (bit_in c.args.blocks.now b) b (c.args.frame / 512) ne)
    (λ _. c.if-has_block.ensures.0 refl)
    (λ _. c.add-then-has_block.ensures.numbers (c.args.frame / 512) ∙ at_number true (bit_in c.args.blocks.now (c.args.frame / 512)) (c.args.frame / 512) (c.args.frame / 512) refl)
    c.add-then-has_block.ensures.len

pub returns-else-has_block-clause-stands : goal.returns-else-has_block-clause-stands
returns-else-has_block-clause-stands c =
    stands_released c.args.uses.now.items c.args.free.now c.args.blocks.now c.add.new.self c.args.blocks.now c.args.frame c.requires.stands c.requires.within c.requires.used
    c.add.ensures.numbers c.add.ensures.len
    (λ b ne. refl)
    (λ e. used_block c.args.uses.now.items c.args.free.now c.args.blocks.now c.args.frame c.requires.stands c.requires.used e)
    (λ run. no_true false refl (c.if-has_block.ensures.1 run))
    refl
